pub mod EventLaws
pub mod ScheduleLaws
