pub mod ChildCalls
pub mod Listings
pub mod HostScripts
pub mod HostTables
pub mod HostNotes
pub mod HookTellings
