use Rattle.std.specs.Prelude.{refl}
use Rattle.v4_message.specs.declared.writing.Kind4.TheVariants.{Discover, Decline, Release}
use Rattle.lease_evidence.proofs.EndingProofs.{ends_by_saying}
use Rattle.lease_evidence.proofs.laws.leases_end_by_own_messages.Goals as goal

pub returns-clause-discover : goal.returns-clause-discover
returns-clause-discover c = ends_by_saying Discover refl

pub returns-clause-decline : goal.returns-clause-decline
returns-clause-decline c = ends_by_saying Decline refl

pub returns-clause-release : goal.returns-clause-release
returns-clause-release c = ends_by_saying Release refl
