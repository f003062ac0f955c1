-- The calls of a life, as an opening or a turn parts them.
use Rattle.std.specs.Prelude.{List, [], ◌++◌}
use Rattle.device_calls.specs.Calls.{Call}
use Rattle.turn_model.specs.Lives.{OpeningMet, Met, life_after, turn_calls, turns_calls}

-- those made before it, its own, and those made after it
pub record Stretch : Type 0 where
  pub before : List Call
  pub own : List Call
  pub later : List Call

-- the calls of a whole life; `end` are those that it made after its turns
abbrev pub all_calls : OpeningMet → List Met → (end : List Call) → List Call
all_calls opening mets end = opening.calls ++ (turns_calls opening.life mets ++ end)

abbrev pub at_opening : OpeningMet → List Met → (end : List Call) → Stretch
at_opening opening mets end =
    record { before = []; own = opening.calls; later = turns_calls opening.life mets ++ end }

-- at a turn that comes after others of the life and before these
abbrev pub at_turn : OpeningMet → (earlier : List Met) → Met → (later : List Met) → (end : List Call) → Stretch
at_turn opening earlier met later end = record {
  before = opening.calls ++ turns_calls opening.life earlier;
  own = turn_calls (life_after opening.life earlier) met;
  later = turns_calls met.life later ++ end;
}
