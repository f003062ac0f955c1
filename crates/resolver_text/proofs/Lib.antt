pub mod OrderedParts
pub mod PlacedParts
pub mod UnlikeTexts
pub mod KeptTexts
pub mod ToldServers
pub mod LineSteps
pub mod PlainLines
