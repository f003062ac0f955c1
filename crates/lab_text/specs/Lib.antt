pub mod Living
pub mod Noting
pub mod HeldLeases
