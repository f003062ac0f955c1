use Rattle.std.proofs.Common.{ℕ, option_map, subst}
use Rattle.audit_turns.specs.AuditModel.Auditing.{turned, unjust_first, unjust_in}
use Rattle.audit_seats.specs.Tests.{judged_by}
use Rattle.audit_turns.specs.Goings.{going_of}
use Rattle.audit_follower.specs.Holding.{Courses}
use Rattle.audit_follower.proofs.AuditLaws.{next_goes_on, turn_more}
use Rattle.audit_follower.proofs.auditor.Auditor.turned.Goals as goal

pub returns : goal.returns
returns g c = λ kept salt holds.
    let judge = judged_by g.J.Judge.is_own g.J.Judge.is_shared in
    let bytes = c.args.bytes.items in
    let closed = c.in_ok-course.ensures kept.living kept.unjust c.args.at c.args.event bytes holds.going holds.course in
    record {
      configuration = holds.configuration;
      ifaces = holds.ifaces;
      lives = holds.lives;
      turns = turn_more c.args.self.turns kept.turns c.saturating_add.result holds.turns c.saturating_add.ensures;
      going = next_goes_on kept.living (going_of c.args.self.going) (going_of c.next.result) c.args.at c.args.event bytes holds.going c.next.ensures;
      course = subst
          (λ (life : ℕ). Courses g.J.Judge.Tells c.in_ok-course.course (option_map (turned c.args.at c.args.event bytes) kept.living)
          (unjust_first kept.unjust (unjust_in judge life kept.living)))
          holds.lives closed;
    }
