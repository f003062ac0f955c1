pub mod SharedHeard
