pub mod FoundItems
pub mod GrownLists
pub mod FitsLists
pub mod TakenFits
pub mod SaidFits
pub mod LeaseFits
