use Rattle.std.proofs.Common.{map, take}
use Rattle.world.specs.HookCalls.{variable_of}
use Rattle.child_devices.specs.ChildCalls.{RunsJob, start_of}
use Rattle.child_devices.proofs.children.job_call.Given as goal

abbrev pub invariant-loop-var : goal.invariant-loop-var
invariant-loop-var l = RunsJob l.script (map variable_of (take l.var-index l.vars)) (start_of l.call)
