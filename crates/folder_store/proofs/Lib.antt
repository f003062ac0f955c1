pub mod CrashSteps
pub mod FolderSteps
pub mod FileSteps
pub mod ReadSteps
pub mod NameSorts
pub mod FolderTold
