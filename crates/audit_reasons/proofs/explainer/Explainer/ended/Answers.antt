use Rattle.std.proofs.Common.{ℕ, [], option_map, ap, ◌∙◌}
use Rattle.world.specs.declared.wakes.Event.TheVariants.{Quiet}
use Rattle.row_reasons.specs.AuditModel.Auditing.{turned}
use Rattle.row_reasons.specs.AuditTurns.Goings.{going_of}
use Rattle.row_reasons.specs.ReasonLines.{judged_now, life_judged, said_of}
use Rattle.audit_reasons.proofs.CourseLaws.{all_said, closes_so}
use Rattle.audit_reasons.proofs.explainer.Explainer.ended.Goals as goal

pub returns : goal.returns
returns c = λ state holds.
    let last = judged_now state.living state.judged in
    let closes = closes_so c.over.result c.in_ok-rows.rows (going_of c.args.self.going) state.living holds.going c.over.ensures c.in_ok-rows.ensures in
    let closed = c.in_ok-course.ensures state.living state.judged 0 Quiet [] closes holds.course in
    let own = c.in_ok-more.ensures (option_map (turned 0 Quiet []) state.living) last closed
    ∙ ap (λ (n : ℕ). said_of (life_judged n last)) holds.number in
    record {
      configuration = holds.configuration;
      ifaces = holds.ifaces;
      number = holds.number;
      going = tt;
      course = tt;
      lines = all_said state.ended (life_judged state.number last) c.args.self.lines.items c.deref.result.now c.extend_from_slice.new.self.items
          holds.lines (c.deref.ensures.value ∙ own) c.in_ok-extend_from_slice.ensures.items;
    }
