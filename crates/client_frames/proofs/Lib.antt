pub mod FrameData
pub mod NoMessages
