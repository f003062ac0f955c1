pub mod Supervision
pub mod Histories
pub mod HistoryLaws
