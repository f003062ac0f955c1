mod RoomLaws
mod InnerLaws
mod WalkLaws
mod LifeLaws
mod BreakLaws
mod BodyLaws
mod EndLaws
mod LoopLaws
mod HeadLaws
mod ConfLaws
pub mod NoticeLaws
mod TranscriptLaws
mod SameLaws
