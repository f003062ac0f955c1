use Rattle.std.specs.Prelude.{refl}
use Rattle.v4_message.specs.declared.writing.Kind4.TheVariants.{Discover, Decline, Release}
use Rattle.lease_evidence.proofs.AskingProofs.{needs_new_request}
use Rattle.lease_evidence.proofs.laws.leases_need_a_new_request.Goals as goal

pub returns-clause-discover : goal.returns-clause-discover
returns-clause-discover c = needs_new_request Discover refl

pub returns-clause-decline : goal.returns-clause-decline
returns-clause-decline c = needs_new_request Decline refl

pub returns-clause-release : goal.returns-clause-release
returns-clause-release c = needs_new_request Release refl
