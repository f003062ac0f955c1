pub mod Lists
pub mod ValueTexts
pub mod Words
pub mod Stages
pub mod Situations
pub mod LeaseVariables
pub mod Lease6Variables
pub mod Jobs
