-- The turns so far are appended.
use Rattle.std.proofs.Common.{◌≡◌, ◌++◌, length}
use Rattle.net_types.specs.TextLines.{lines_text}
use Rattle.capture_script.specs.Captures.{packets_in}
use Rattle.capture_script.specs.CapturedScripts.{turn_lines, used_of}
use Rattle.capture_script.proofs.script.append_turns.Given as goal

abbrev pub invariant-packets : goal.invariant-packets
invariant-packets l =
    l.into.items ++ lines_text (turn_lines (used_of l.own (packets_in l.form l.rest)))
    ≡ l.initial.into.items ++ lines_text (turn_lines (used_of l.own (packets_in l.form l.records)))

abbrev pub decreases-packets : goal.decreases-packets
decreases-packets l = length (packets_in l.form l.rest)
