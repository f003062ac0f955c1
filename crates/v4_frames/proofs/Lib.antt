pub mod Options
pub mod MessageBack
pub mod FramesBack
pub mod OtherKinds
