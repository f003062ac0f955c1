pub mod Hooking
pub mod Tables
