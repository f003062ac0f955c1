use Rattle.transcript_lines.specs.Contents.{line_of}
use Rattle.row_reasons.specs.AuditTurns.Goings.{going_of}
use Rattle.audit_reasons.proofs.CourseLaws.{course_told}
use Rattle.audit_reasons.proofs.explainer.Explainer.told.Goals as goal

pub returns : goal.returns
returns c = λ state holds. record {
  configuration = holds.configuration;
  ifaces = holds.ifaces;
  number = holds.number;
  going = c.what_goes_on_is_the_lifes.ensures (line_of c.args.line) state.living (going_of c.args.self.going) (going_of c.in_ok-told.field-0) holds.going
      c.in_ok-told.ensures;
  course = course_told c.args.self.course (line_of c.args.line) state.living state.judged c.requires.follows c.requires.other holds.course;
  lines = holds.lines;
}
