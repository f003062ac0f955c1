pub mod AskedCodes
pub mod Asks6
pub mod HeldBefore6
pub mod Following
pub mod Following6
pub mod ShareAddresses
pub mod ToldLocals
