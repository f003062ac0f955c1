pub mod Retransmission
pub mod Times
