pub use Rattle.client_model.specs as ClientModel
