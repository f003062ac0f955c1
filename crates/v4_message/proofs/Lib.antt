pub mod Places
pub mod SaidOptions
pub mod Lengths
pub mod ReadMessages
