use Rattle.std.proofs.Common.{rules, subst, refl}
use Rattle.conf_text.specs.Contents.{configuration}
use Rattle.transcript_read.specs.Heads.{AreNoticed, LacksNotice}
use Rattle.transcript_read.proofs.EndLaws.{first_body}
use Rattle.transcript_read.proofs.HeadLaws.{notice_halts, noticed_within}
use Rattle.transcript_read.proofs.TranscriptLaws.{bad_within, body_comes, body_halts}
use Rattle.transcript_read.proofs.transcript.follow_noticed.Goals as goal

pub returns-in-Err-clause-bad : goal.returns-in-Err-clause-bad
returns-in-Err-clause-bad g c = λ each.
    notice_halts (configuration c.args.conf).notices c.args.text.now c.in-Err.answer each (first_body c.a_text_spells_one_line.ensures)
    (subst (λ notices. LacksNotice notices c.args.text.now c.in-Err.answer) c.notices.ensures c.in-Err.ensures.bad)

pub overflow_add-result : goal.overflow_add-result
overflow_add-result g c =
    let front = noticed_within _ _ c.args.text.now c.in-Ok.after.0.now c.in-Ok.after.1 c.in-Ok.ensures.found in
    let back = bad_within c.in-Ok.after.0.now c.in-Err-Bad.further (rw c.in-Err-Bad.field-0-is at c.in-Err-Bad.ensures.bad) in
    search rules

pub returns-in-Ok-follow_body-clause-found : goal.returns-in-Ok-follow_body-clause-found
returns-in-Ok-follow_body-clause-found g c =
    let reached = c.in-Ok-follow_body.ensures.found _ c.in_ok-follower.ensures in
    record {
      state = reached.state;
      comes = body_comes g.F.Follower.first g.F.Follower.after (configuration c.args.conf) c.args.text.now c.in-Ok.after.0.now c.in-Ok.after.1 reached.state
          (subst (λ notices. AreNoticed notices c.args.text.now c.in-Ok.after.0.now c.in-Ok.after.1) c.notices.ensures c.in-Ok.ensures.found)
          reached.comes;
      tells = reached.tells;
    }

pub returns-in-Err-Bad-clause-bad : goal.returns-in-Err-Bad-clause-bad
returns-in-Err-Bad-clause-bad g c = λ each.
    body_halts (configuration c.args.conf).notices c.args.text.now c.in-Ok.after.0.now c.in-Ok.after.1 c.in-Err-Bad.further _
    (subst (λ notices. AreNoticed notices c.args.text.now c.in-Ok.after.0.now c.in-Ok.after.1) c.notices.ensures c.in-Ok.ensures.found)
    (rw c.in-Err-Bad.field-0-is at c.in-Err-Bad.ensures.bad) refl
