pub mod ValueForms
pub mod Leases
pub mod Bounds
pub mod LeaseLines
pub mod LineParts
pub mod LineFields
pub mod LeaseReading
pub mod LinesRead
pub mod ReadBack
pub use Rattle.lease_text.specs as LeaseText
