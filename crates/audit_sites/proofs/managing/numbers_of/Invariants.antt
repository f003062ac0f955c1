use Rattle.std.proofs.Common.{◌≡◌, map, take}
use Rattle.audit_sites.proofs.managing.numbers_of.Given as goal

abbrev pub invariant-loop-m : goal.invariant-loop-m
invariant-loop-m l = l.numbers.items ≡ map (λ m. m.spec.index.number) (take l.m-index l.all)
