pub mod Times
pub mod Items
pub mod Reading
pub mod Renewing
pub mod Taking
pub mod Meetings
pub mod Asking
pub mod Bounds
