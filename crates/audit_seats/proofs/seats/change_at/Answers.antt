use Rattle.std.proofs.Common.{◌≡◌, ◌∙◌, arith, ◌-◌}
use Rattle.audit_seats.proofs.LoopLaws.{set_in_place}
use Rattle.audit_seats.proofs.seats.change_at.Goals as goal

pub returns : goal.returns
returns g c = record {
  one = c.swap_remove-one.result;
  next = c.in_ok-next.next;
  stood = c.swap_remove-one.ensures.value;
  is =
      set_in_place c.args.watched.now.items c.swap_remove-one.new.self.items c.push.new.self.items c.swap.new.self.items c.args.place c.in_ok-next.next
      c.args.watched.now.len c.swap_remove-one.new.self.len (c.len-last.result - 1) c.args.watched.now.ok.0 c.swap_remove-one.new.self.ok.0
      c.requires.place c.swap_remove-one.ensures.by_index.0 c.swap_remove-one.ensures.by_index.1 c.swap_remove-one.ensures.len
      (omega (arith, c.len-last.ensures, c.in_ok-push.ensures.len, c.swap_remove-one.ensures.len)) c.in_ok-push.ensures.items c.swap.ensures.by_index;
  seat = c.in_ok-next.ensures.seat;
  tells = c.in_ok-next.ensures.tells;
}
