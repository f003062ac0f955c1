pub mod Grammars
pub mod SafeVariables
pub mod ExactVariables
pub mod SafeJobs
pub mod ResolverLines
pub mod ConfiguredTexts
pub mod SafeCalls
