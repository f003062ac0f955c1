pub mod Least
pub mod GivenItems
pub mod TakenItems
pub mod GivenTimes
pub mod GivenLaws
pub mod DueRows
