pub mod Spoken
pub mod ReplyTexts
pub mod ReadBack
