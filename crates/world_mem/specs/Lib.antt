pub mod RowForms
pub mod HostRecord
pub mod LinkRecord
pub mod HookRecord
pub mod StreamRecord
pub use Rattle.store_mem.specs as StoreMem
