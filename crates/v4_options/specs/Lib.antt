pub mod OptionArea
pub mod OptionValue
pub mod Overload
pub mod OptionViews
pub mod AreaSteps
pub mod Numbers
pub mod Routes
pub mod OptionTable
pub mod ValueForms
pub mod AreaGrammar
pub use Rattle.domain_names.specs as DomainNames
