pub mod Spelled
pub mod Cells
pub mod Summed
pub mod Laws
pub mod Laws6
