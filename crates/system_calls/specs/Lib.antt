pub mod Asking
pub mod Counts
pub mod DiskCalls
pub mod DiskFiles
pub mod FolderNotes
pub mod Paths
