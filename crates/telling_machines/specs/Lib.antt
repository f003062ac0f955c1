pub mod WireEntries
pub mod LineRecord
pub mod CommandCode
pub mod ChildNotes
pub mod ChildEntries
pub mod HookEntries
pub mod ChildTables
