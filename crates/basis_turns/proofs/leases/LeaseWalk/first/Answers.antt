use Rattle.std.proofs.Common.{refl}
use Rattle.audit_words.specs.Shown.{site_shown}
use Rattle.lease_judge.specs.ProbedTurns.{calm_in}
use Rattle.basis_turns.proofs.leases.LeaseWalk.first.Goals as goal

pub returns : goal.returns
returns c = λ addr.
    let site = site_shown c.args.site.now in
    record { judge = c.in_ok-first.ensures; opened = refl; granting = refl; probes = c.new.ensures (calm_in site) site addr }
