pub mod Replies
pub mod OwnMessages
pub mod Exchanges
pub mod LeaseBasis
pub mod Laws
pub mod KeptBasis4
pub mod Endings
pub mod KeptNeeds
pub mod HeldLeases
pub mod PlainIface
pub mod SevenTurns
pub mod OwnFrames
pub mod ProbedFirst
pub mod AskedFirst
pub use Rattle.evidence_words.specs.ClientModel
pub use Rattle.evidence_words.specs.DuidText
pub use Rattle.evidence_words.specs as EvidenceWords
pub use Rattle.evidence_words.specs.Ipv4ll
pub use Rattle.v4_client.specs as V4Client
pub use Rattle.v4_message.specs as V4Message
