pub mod RepliesRead
