-- What is left to say.
use Rattle.std.proofs.Common.{◌≡◌, ◌++◌, drop, map}
use Rattle.lab_model.specs.LabLines.{lines_text}
use Rattle.lab_text.specs.HeldLeases.{line_of}
use Rattle.lab_text.proofs.leases.text_of.Given as goal

abbrev pub invariant-loop-one : goal.invariant-loop-one
invariant-loop-one l = l.text.items ++ lines_text (map line_of (drop l.one-index l.held)) ≡ lines_text (map line_of l.held)
