pub mod TakenLines
pub mod WholeScripts
pub mod ReadScripts
pub mod PlaceLaws
pub mod FaultLaws
pub use Rattle.script_lines.proofs as ScriptLines
pub use Rattle.script_lines.proofs.BlockLaws
pub use Rattle.script_lines.proofs.ClockLaws
pub use Rattle.script_lines.proofs.TestLaws
pub use Rattle.script_lines.proofs.Printables
pub use Rattle.script_lines.proofs.Grown
pub use Rattle.script_lines.proofs.WordLaws
pub use Rattle.script_lines.proofs.LineLaws
pub use Rattle.script_lines.proofs.PollLaws
pub use Rattle.script_lines.proofs.CarrierLaws
pub use Rattle.script_lines.proofs.FileLaws
pub use Rattle.script_lines.proofs.CrashLaws
pub use Rattle.script_lines.proofs.ConfLineLaws
