pub mod Settings
pub mod Times
pub mod Exchanges
pub mod Steps
pub mod Due
pub mod Ticks
pub mod Hearing
pub mod Inputs
pub mod Clients
pub mod Saying
pub mod Moves
pub mod Answers
pub mod Calls
pub mod Rests
pub mod Sound
pub mod Laws
pub mod Runs
pub mod RunLaws
pub mod QuietLaws
pub mod OwnLeases
pub mod RunsStay
pub mod Origins
pub use Rattle.lease6_text.specs as Lease6Text
pub use Rattle.v6_message.specs as V6Message
pub use Rattle.v6_items.specs as V6Items
