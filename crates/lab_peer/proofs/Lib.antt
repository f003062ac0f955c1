pub mod ClientsRead
pub mod Tests
pub mod ClientsAlone
pub mod Bound
pub mod Lowest
