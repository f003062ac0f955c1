use Rattle.std.proofs.Common.{◌≡◌, take, IfSome}
use Rattle.std.specs.List.{AllByRecursion}
use Rattle.lease6_text.specs.Leases.{ias_content}
use Rattle.v6_items.specs.Meetings.{meeting_shown}
use Rattle.v6_items.specs.Renewing.{AreShort}
use Rattle.v6_items.specs.Taking.{IsTimedFor, ias_granted, spans_granted}
use Rattle.v6_items.proofs.taking.granted_by.Given as goal

abbrev pub invariant-asks : goal.invariant-asks
invariant-asks l = record {
  ias : ias_content l.granting.ias.items ≡ ias_granted (meeting_shown l.meeting) (take l.ask-index l.asks);
  spans : l.granting.spans ≡ spans_granted (meeting_shown l.meeting) (take l.ask-index l.asks);
  short : IfSome l.granting.spans AreShort;
  timed : AllByRecursion (IsTimedFor (meeting_shown l.meeting)) (take l.ask-index l.asks);
}
