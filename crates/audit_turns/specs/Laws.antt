-- What goes on of a life changes with each line as the life does.
use Rattle.std.specs.Prelude.{◌≡◌, Option, option_map}
use Rattle.script_model.specs.Lines.{Line}
use Rattle.audit_model.specs.Auditing.{Living, with_line}
use Rattle.audit_turns.specs.Goings.{Going, GoesOn, going_told}

abbrev pub GoesOnAsLived : Type 0
GoesOnAsLived = (line : Line) (living : Option Living) (going next : Going) → GoesOn living going
    → next ≡ going_told line going → GoesOn (option_map (with_line line) living) next
