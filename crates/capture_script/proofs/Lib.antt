pub mod PacketSteps
pub mod CapturedTexts
