use Rattle.transcript_lines.specs.Contents.{line_of}
use Rattle.audit_turns.specs.Goings.{going_of}
use Rattle.audit_follower.proofs.CourseLaws.{course_kept}
use Rattle.audit_follower.proofs.auditor.Auditor.told.Goals as goal

pub returns : goal.returns
returns g c = λ kept holds. record {
  configuration = holds.configuration;
  ifaces = holds.ifaces;
  lives = holds.lives;
  turns = holds.turns;
  going = c.what_goes_on_is_the_lifes.ensures (line_of c.args.line) kept.living (going_of c.args.self.going) (going_of c.in_ok-told.field-0) holds.going
      c.in_ok-told.ensures;
  course = course_kept g.J.Judge.Tells c.args.self.course (line_of c.args.line) kept.living kept.unjust c.requires holds.course;
}
