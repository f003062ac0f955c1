-- How the store crashes at the end of a life.
use Rattle.std.specs.Prelude.{ℕ, ◌<◌, ◌^◌, List, ◌++◌, codes, decimal, Option, Some, None, IfSome}
use Rattle.script_model.specs.declared.crashing.CrashKind.{CrashKind}
use Rattle.script_model.specs.declared.crashing.CrashKind.TheVariants.{Old, New}

pub record CrashScript : Type 0 where
  -- So many calls of the life are answered as ever, and all later ones fail; nothing stands for no such limit.
  pub calls : Option ℕ
  pub kind : CrashKind

abbrev pub calls_text : Option ℕ → List ℕ
calls_text None = codes "-"
calls_text (Some calls) = decimal calls

abbrev pub kind_text : CrashKind → List ℕ
kind_text Old = codes "old"
kind_text New = codes "new"

abbrev pub crash_text : CrashScript → List ℕ
crash_text crash = codes "crash " ++ calls_text crash.calls ++ codes " " ++ kind_text crash.kind

abbrev pub FitsCrash : CrashScript → Type 0
FitsCrash crash = IfSome crash.calls (λ calls. calls < 2 ^ 64)
