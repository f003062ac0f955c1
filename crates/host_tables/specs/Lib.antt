pub mod Bringings
pub mod Costs
pub mod Unions
