pub mod CallLists
pub mod Readings
pub mod Removals
pub mod StepLaws
pub mod CrashLaws
pub mod OneChange
