-- Whether an address rests on what the managed interfaces showed, by what is told of each.
use Rattle.audit_seats.specs.AuditModel.Laws.{Decides}
use Rattle.audit_seats.specs.Tests.{judged_by}
use Rattle.share_judge.specs.Evidence.Laws.{HasBasisIn}
use Rattle.item_judge.specs.Lease6Judge.HeardBasis.{HeardBasis}
use Rattle.iface_judge.specs.Joined.{is_own, is_shared}
use Rattle.iface_judge.specs.Laws.{HeardAddress}

-- An address rests on what is shown, at one interface or another, exactly where it has its basis.
abbrev pub AllAreTold : Type 0
AllAreTold = Decides (judged_by is_own is_shared) (HasBasisIn HeardAddress HeardBasis)
