use Rattle.std.proofs.Common.{refl}
use Rattle.audit_words.specs.Shown.{site_shown}
use Rattle.lease_judge.specs.LocalJudges.Choices.{is_calm}
use Rattle.basis_turns.proofs.locals.LocalWalk.first.Goals as goal

pub returns : goal.returns
returns c = λ addr.
    let site = site_shown c.args.site.now in
    record { judge = c.first.ensures; up = refl; probes = c.new.ensures (is_calm site) site addr; earliest = refl; latest = refl }
