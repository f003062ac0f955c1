pub mod Usage
pub mod HeldThrough
pub mod GoodAsks
pub mod Making
pub mod Living
pub use Rattle.replayed_lives.specs.TextWorks
