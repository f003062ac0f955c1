use Rattle.std.proofs.Common.{map, take, ◌∷◌}
use Rattle.child_devices.specs.ChildCalls.{start_of}
use Rattle.child_devices.specs.HostScripts.{RunsScript}
use Rattle.child_devices.proofs.commands.script_call.Given as goal

abbrev pub invariant-loop-word : goal.invariant-loop-word
invariant-loop-word l = RunsScript l.script (l.first ∷ map (λ word. word.now) (take l.word-index l.words)) (start_of l.call)
