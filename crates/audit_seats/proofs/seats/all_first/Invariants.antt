use Rattle.std.proofs.Common.{◌≡◌, [], ◌++◌, map}
use Rattle.audit_words.specs.Shown.{site_shown}
use Rattle.audit_seats.specs.Seats.{AllTell, sites_of}
use Rattle.audit_seats.proofs.seats.all_first.Given as goal

abbrev pub invariant-loop-seat : goal.invariant-loop-seat
invariant-loop-seat g l = record {
  whole : l.yielded ++ l.seat-iterator.rest.items ≡ l.fn.seats.items;
  sites : sites_of l.all.items ≡ map site_shown l.yielded;
  tell : AllTell g.J.Judge.Tells [] l.all.items;
}
