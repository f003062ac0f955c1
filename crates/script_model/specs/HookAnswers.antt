-- What a script lets polls of hooks answer.
use Rattle.std.specs.Prelude.{ℕ, ◌<◌, List, ◌++◌, codes, Option, Some, None}
use Rattle.world.specs.declared.hooking.Poll.{Poll}
use Rattle.world.specs.declared.hooking.Poll.TheVariants.{Running, Ended}
use Rattle.script_model.specs.Lines.{poll_text}

-- one poll's answer, nothing where it fails
abbrev pub hook_text : Option Poll → List ℕ
hook_text answer = codes "hook " ++ poll_text answer

-- the status with which a child ends is a byte
abbrev pub FitsAnswer : Option Poll → Type 0
FitsAnswer (Some Running) = Unit {0}
FitsAnswer (Some (Ended status)) = status < 256
FitsAnswer None = Unit {0}
