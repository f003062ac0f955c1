mod JudgedRows
pub mod LinesWalked
pub mod LivesWalked
mod FirstLacking
pub mod Found
pub mod CallsTold
