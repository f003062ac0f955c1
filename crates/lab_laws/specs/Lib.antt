pub mod Messages
pub mod Numbers
pub mod Binding
pub mod Lives
pub mod LabClients
pub mod Reading
pub mod HeldInLabs
pub mod HeardReplies
pub use Rattle.lab_model.specs as LabModel
