pub mod HostTurn
pub mod ToldHost
pub mod HostTable
pub mod HostLaws
pub mod Precedence
