use Rattle.lease_evidence.proofs.ProbeCounts.{needs_three_probes, probes_begin_anew, contests_part_probes, probes_take_four_seconds}
use Rattle.lease_evidence.proofs.laws.leases_need_three_probes.Goals as goal

pub returns-clause-probes : goal.returns-clause-probes
returns-clause-probes c = needs_three_probes

pub returns-clause-anew : goal.returns-clause-anew
returns-clause-anew c = probes_begin_anew

pub returns-clause-contested : goal.returns-clause-contested
returns-clause-contested c = contests_part_probes

pub returns-clause-seconds : goal.returns-clause-seconds
returns-clause-seconds c = probes_take_four_seconds
