pub mod Fuse
pub mod CrashRecord
pub mod StoreRecord
pub mod Replays
