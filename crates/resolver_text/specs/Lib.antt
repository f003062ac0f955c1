pub mod Parts
pub mod Order
pub mod Texts
pub mod Told
pub mod Keeping
pub mod ResolverText
pub mod OrderLaws
pub mod TextLaws
