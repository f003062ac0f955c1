pub mod ScriptsTold
pub mod Laws
