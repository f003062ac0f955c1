pub mod ProbeTimes
pub mod Targets
pub mod ByAddress
pub mod Table
