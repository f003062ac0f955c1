pub mod Carriers
pub mod EventFields
pub mod FieldForms
pub mod Fits
pub mod LineFields
pub mod LineShapes
pub mod Printed
pub mod Shapes
pub use Rattle.net_types.specs as NetTypes
pub use Rattle.script_model.specs as ScriptModel
pub use Rattle.world.specs as World
