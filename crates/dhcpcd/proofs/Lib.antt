pub mod LivesHeld
pub mod LiveAnswers
pub mod MakeAnswers
