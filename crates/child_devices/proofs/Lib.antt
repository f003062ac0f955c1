pub mod HeldRows
pub mod CallPairs
pub mod ScriptCalls
pub mod TableSteps
pub mod OneListing
pub mod ListingRows
