use Rattle.audit_words.specs.Shown.{entry_shown}
use Rattle.audit_seats.proofs.SeatLaws.{stayed}
use Rattle.audit_seats.proofs.seats.turn_at.Goals as goal

pub returns-then-stays : goal.returns-then-stays
returns-then-stays g c =
    stayed g.J.Judge.Tells (entry_shown c.args.entry.now) c.args.place c.args.watched.now.items c.index.result.now c.index.ensures
    (c.stays.ensures c.if-stays.true)
