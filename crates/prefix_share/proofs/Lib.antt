pub mod SubnetNumbers
pub mod SubnetBits
pub mod Fronts
pub mod Pairs
