-- What is left to live and to say.
use Rattle.std.proofs.Common.{◌≡◌, ◌++◌, drop}
use Rattle.lab_model.specs.LabLines.{lines_from, lines_text}
use Rattle.lab_text.proofs.text.live_on.Given as goal

abbrev pub invariant-loop-event : goal.invariant-loop-event
invariant-loop-event l =
    l.text.items ++ lines_text (lines_from (drop l.event-index l.events) l.lab) ≡ l.initial.text.items ++ lines_text (lines_from l.events l.fn.lab)
