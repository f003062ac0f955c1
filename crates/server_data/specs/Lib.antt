pub mod Replies
pub mod ReadBack
pub mod ServerFrames
