pub mod Cells
pub mod Grammar
pub mod Laws
