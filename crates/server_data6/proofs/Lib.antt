pub mod Spelled
pub mod ItemsRead
pub mod FieldsRead
pub mod ServersRead
pub mod RepliesRead
