pub mod Fronts
pub mod OnlyByte
pub mod WordSteps
pub mod AddressSteps
pub mod RouteSteps
pub mod AreaLaws
