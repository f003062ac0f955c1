use Rattle.std.proofs.Common.{ℕ, [], None, option_map, subst}
use Rattle.world.specs.declared.wakes.Event.TheVariants.{Quiet}
use Rattle.audit_turns.specs.AuditModel.Auditing.{turned, unjust_after, unjust_first, unjust_in}
use Rattle.audit_seats.specs.Tests.{judged_by}
use Rattle.audit_follower.specs.Holding.{Courses}
use Rattle.audit_follower.proofs.auditor.Auditor.ended.Goals as goal

pub returns : goal.returns
returns g c = λ kept holds.
    let judge = judged_by g.J.Judge.is_own g.J.Judge.is_shared in
    let closed = c.in_ok-closed.ensures kept.living kept.unjust 0 Quiet [] holds.going holds.course in
    record {
      configuration = holds.configuration;
      ifaces = holds.ifaces;
      lives = holds.lives;
      turns = holds.turns;
      going = tt;
      course = c.ended-course.ensures (option_map (turned 0 Quiet []) kept.living) (unjust_after judge kept)
          (subst
          (λ (life : ℕ). Courses g.J.Judge.Tells c.in_ok-closed.field-0 (option_map (turned 0 Quiet []) kept.living)
          (unjust_first kept.unjust (unjust_in judge life kept.living)))
          holds.lives closed);
    }
