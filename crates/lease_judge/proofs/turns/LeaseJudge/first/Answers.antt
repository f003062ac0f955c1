use Rattle.v4_client.specs.Settings.{settings_content}
use Rattle.lease_judge.proofs.TurnsTold.{first_sound}
use Rattle.lease_judge.proofs.turns.LeaseJudge.first.Goals as goal

pub invariant_of-result : goal.invariant_of-result
invariant_of-result c =
    first_sound c.args.site.now (settings_content c.in_ok-set.set) c.first.result c.requires c.in_ok-set.ensures c.first.ensures.moments
