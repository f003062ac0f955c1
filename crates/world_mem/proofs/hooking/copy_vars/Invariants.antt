use Rattle.std.proofs.Common.{◌≡◌, map, take}
use Rattle.world.specs.HookCalls.{variable_of}
use Rattle.world_mem.proofs.hooking.copy_vars.Given as goal

abbrev pub invariant-loop-var : goal.invariant-loop-var
invariant-loop-var l = map variable_of l.copies.items ≡ map variable_of (take l.var-index l.vars)
