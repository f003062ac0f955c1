pub mod Conflict
pub mod History
pub mod Laws
pub mod Rests
pub mod Table
