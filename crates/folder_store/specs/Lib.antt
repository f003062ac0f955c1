pub mod FolderCalls
pub mod FolderFiles
pub mod Crashes
