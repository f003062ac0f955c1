use Rattle.lease6_evidence.proofs.KeptProofs6.{plain_are_given}
use Rattle.lease6_evidence.proofs.laws.plain_items_are_given.Goals as goal

pub returns : goal.returns
returns c = plain_are_given
