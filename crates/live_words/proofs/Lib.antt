pub mod PortLaws
pub mod IfaceLaws
pub mod LiveLaws
pub mod SpecsRead
pub mod PlainWords
pub mod PlacedWords
pub mod PlainLive
