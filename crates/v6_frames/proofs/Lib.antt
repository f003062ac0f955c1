pub mod FramesBack
pub mod OtherKinds
pub mod ServersHeard
