mod FileNames
pub mod Bringing
pub mod BegunFiles
pub mod KeepingSteps
pub mod LoadedFiles
