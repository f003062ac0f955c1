-- What a child that changes no row makes of the tables.
use Rattle.std.proofs.Common.{◌≡◌, ℕ, Bool, true, false, not, ◌&&◌, List, [], ◌∷◌, Option, Some, None, is_some, Result, Ok, option_map, refl, sym, ap, ◌∙◌, rules, if◌then◌else◌}
use Rattle.std.proofs.lemmas.List.Elements.{All-nil}
use Rattle.std.specs.Global.{Global}
use Rattle.std.specs.Process.{command_args}
use Rattle.std.specs.declared.io.ErrorKind.{ErrorKind}
use Rattle.std.specs.declared.process.command.Command.{Command}
use Rattle.std.specs.declared.process.status.ExitStatus.{ExitStatus}
use Rattle.world.specs.HostCalls.{HostCall}
use Rattle.world.specs.RowText.{row_text}
use Rattle.world.specs.Rows.{IsRow}
use Rattle.child_devices.specs.ChildCalls.{Asked, Printed, start_of}
use Rattle.child_devices.specs.HostScripts.{change_word, words_of}
use Rattle.child_devices.specs.HostTables.{TablesHeld, LeavesRows, Holds}
use Rattle.telling_machines.specs.ChildTables.{is_change, IsHarmless}

leaves_none : (script : List ℕ) (call : Command Global) (end : Result ExitStatus ErrorKind) → is_change (command_args call) ≡ false
    → LeavesRows script (start_of call) end [] []
leaves_none script call end kept =
    record {
      changes = λ change row failure is ends.
          let word : is_change (change_word change ∷ words_of (row_text row)) ≡ true = search rules in
          let bad : false ≡ true = sym kept ∙ ap is_change is.1.worded ∙ word in cc;
      keeps = λ other. refl;
    }

-- the tables, with what runs
abbrev shown : (here alone : Bool) → Option (Command Global) → List HostCall → Option TablesHeld
shown here alone running host =
    if here then (if alone then Some (record { rows = []; running = option_map start_of running; calls = host }) else None) else None

pub asked_at : (script : List ℕ) (status : ExitStatus) (here alone : Bool) (running : Option (Command Global)) (host : List HostCall)
    → IsHarmless running → Holds script (Asked (Ok (Some status))) (shown here alone running host) (shown here alone None host)
asked_at script status false alone running host harmless = refl
asked_at script status true false running host harmless = refl
asked_at script status true true None host harmless = refl
asked_at script status true true (Some call) host harmless = ([], leaves_none script call (Ok status) harmless, refl)

pub printed_at : (script : List ℕ) (call : Command Global) (status : ExitStatus) (text : List ℕ) (here alone : Bool) (running : Option (Command Global))
    (host : List HostCall) → is_change (command_args call) ≡ false → text ≡ []
    → Holds script (Printed (start_of call) (Ok (record { status = status; text = text }))) (shown here alone running host)
    (shown here (alone && not (is_some running)) running host)
printed_at script call status text false alone running host kept nothing = refl
printed_at script call status text true false running host kept nothing = refl
printed_at script call status text true true None host kept nothing = (
  [],
  leaves_none script call (Ok status) kept,
  λ runs done. (record { lines = []; rows = []; all = nothing; spelled = tt; in_order = refl; once = refl }, All-nil IsRow),
  refl,
)
printed_at script call status text true true (Some other) host kept nothing = refl
