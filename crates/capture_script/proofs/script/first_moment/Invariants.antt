-- None of the packets so far is used.
use Rattle.std.proofs.Common.{◌≡◌, length}
use Rattle.capture_script.specs.Captures.{packets_in}
use Rattle.capture_script.specs.CapturedScripts.{first_moment, used_of}
use Rattle.capture_script.proofs.script.first_moment.Given as goal

abbrev pub invariant-packets : goal.invariant-packets
invariant-packets l = first_moment (used_of l.own (packets_in l.form l.records)) ≡ first_moment (used_of l.own (packets_in l.form l.rest))

abbrev pub decreases-packets : goal.decreases-packets
decreases-packets l = length (packets_in l.form l.rest)
