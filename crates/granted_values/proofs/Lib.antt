pub mod Spelled
pub mod NumbersRead
pub mod RoutesRead
pub mod ValuesRead
