mod EachCall
pub mod FilesRead
pub mod Carrying
pub mod Made
pub mod Offers
pub mod Probing
pub use Rattle.turn_model.proofs.ClientModel
pub use Rattle.turn_model.proofs as TurnModel
