pub mod StoreWalks
pub mod Choices
pub mod Savings
pub mod LeftWhole
