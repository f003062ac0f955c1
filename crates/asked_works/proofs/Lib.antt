pub mod OneWord
pub mod AskedApart
pub mod MakeLaws
pub mod ImportLaws
