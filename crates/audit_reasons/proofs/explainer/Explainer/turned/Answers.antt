use Rattle.row_reasons.specs.AuditTurns.Goings.{going_of}
use Rattle.audit_reasons.proofs.CourseLaws.{closes_so, next_goes_on}
use Rattle.audit_reasons.proofs.explainer.Explainer.turned.Goals as goal

pub returns : goal.returns
returns c = λ state salt holds.
    let before = going_of c.args.self.going in
    let next = c.next_turn-over.result in
    record {
      configuration = holds.configuration;
      ifaces = holds.ifaces;
      number = holds.number;
      going = next_goes_on state.living before (going_of next.going) c.args.at c.args.event c.args.bytes.items holds.going c.next_turn-over.ensures.next;
      course = c.in_ok-course.ensures state.living state.judged c.args.at c.args.event c.args.bytes.items
          (closes_so next.over c.in_ok-rows.rows before state.living holds.going c.next_turn-over.ensures.over c.in_ok-rows.ensures) holds.course;
      lines = holds.lines;
    }
