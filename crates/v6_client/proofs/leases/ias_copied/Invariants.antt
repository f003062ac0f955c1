use Rattle.std.proofs.Common.{◌≡◌, take}
use Rattle.lease6_text.specs.Leases.{ias_content}
use Rattle.v6_client.proofs.leases.ias_copied.Given as goal

abbrev pub invariant-loop-ia : goal.invariant-loop-ia
invariant-loop-ia l = ias_content l.all.items ≡ ias_content (take l.ia-index l.ias)
