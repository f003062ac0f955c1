pub mod Kinds
pub mod Message
pub mod Replies
pub mod Requests
pub mod Messages
