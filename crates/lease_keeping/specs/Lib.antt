pub mod KeptLives
pub mod LeaseKept
