-- Jobs of hooks that are put in line, and what is to be done about a child.
use Rattle.std.specs.Prelude.{ℕ, Bool, true, false, List}
use Rattle.hook_child.specs.Supervision.{Supervision, Order, Idle, Start, Abandon}
use Rattle.device_calls.specs.Programs.{Asks}
use Rattle.device_calls.specs.Does.{Does}
use Rattle.device_calls.specs.Worlds.{Seen}

-- what puts jobs in line asks no device, whatever they tell
abbrev pub Puts : Asks Supervision → Supervision → (text_old text_new : List ℕ) → Type 0
Puts asks line text_old text_new = (seen : Seen) → Does asks line seen seen text_old text_new

-- whether the child is to be forgotten
abbrev pub is_abandon : Order → Bool
is_abandon Idle = false
is_abandon (Start job) = false
is_abandon Abandon = true
