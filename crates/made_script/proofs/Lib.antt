pub mod OwnNames
pub mod Numbers
pub mod FitHosts
pub mod FrameBytes
pub mod FitTurns
pub mod FitLines
pub mod GoodConfLaws
