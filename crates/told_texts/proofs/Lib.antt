mod NoticeTexts
mod PlainLines
mod SpelledLines
pub mod WholeTexts
