pub mod Views
pub mod SayingLaws
pub mod OrderedShares
pub mod IdentifierLaws
pub mod CodeLaws
pub mod LengthLaws
