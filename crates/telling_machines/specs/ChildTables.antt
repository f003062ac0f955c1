-- What child processes in memory show.
use Rattle.std.specs.Prelude.{ℕ, Bool, false, ◌||◌, ◌≡◌, List, [], ◌∷◌, codes, bytes_eq, replicate, Option, Some, None, option_map, IfSome, if◌then◌else◌}
use Rattle.std.specs.Global.{Global}
use Rattle.std.specs.Process.{command_args}
use Rattle.std.specs.declared.process.command.Command.{Command}
use Rattle.world.specs.HostCalls.{HostCall}
use Rattle.world.specs.HookCalls.{HookCall, HooksTold}
use Rattle.world.specs.declared.hooking.Poll.{Poll}
use Rattle.world.specs.declared.hooking.Poll.TheVariants.{Running}
use Rattle.child_devices.specs.ChildCalls.{start_of}
use Rattle.child_devices.specs.HostTables.{TablesHeld}
use Rattle.telling_machines.specs.ChildNotes.{ChildNote}

pub record ChildrenState : Type 0 where
  -- the calls of the system so far, the last one first
  pub made : List ChildNote
  -- the script whose tables are told, and whether they still are: no child was run beside another
  pub script : List ℕ
  pub alone : Bool
  -- what the child was started with that hasn't ended yet
  pub running : Option (Command Global)
  -- what the host's tables noted
  pub host : List HostCall
  -- how many askings will say that the child runs, and what hooks noted
  pub runs : ℕ
  pub hook : List HookCall

-- whether a script is to change a row
abbrev pub is_change : List (List ℕ) → Bool
is_change [] = false
is_change (word ∷ words) = bytes_eq word (codes "host-add") || bytes_eq word (codes "host-del")

-- what runs changes no row
abbrev pub IsHarmless : Option (Command Global) → Type 0
IsHarmless running = IfSome running (λ call. is_change (command_args call) ≡ false)

-- No row is ever held.
abbrev pub held_by : ChildrenState → TablesHeld
held_by state = record { rows = []; running = option_map start_of state.running; calls = state.host }

abbrev pub own_tables : ChildrenState → Option TablesHeld
own_tables state = if state.alone then Some (held_by state) else None

abbrev pub tables_at : ChildrenState → List ℕ → Option TablesHeld
tables_at state script = if bytes_eq script state.script then own_tables state else None

-- an asking says that the child runs so often, and then that it ended with status 0
abbrev pub asked_of : ℕ → List (Option Poll)
asked_of runs = replicate runs (Some Running)

abbrev pub hooks_told : ChildrenState → HooksTold
hooks_told state = record { polls = asked_of state.runs; calls = state.hook }
