use Rattle.std.proofs.Common.{◌≡◌, take, true}
use Rattle.prefix_share.specs.Rules.{is_plan}
use Rattle.prefix_share.proofs.rules.plan.Given as goal

-- the shares so far obey the rules
abbrev pub invariant-loop-index : goal.invariant-loop-index
invariant-loop-index l = is_plan (take l.index l.shares) ≡ true
