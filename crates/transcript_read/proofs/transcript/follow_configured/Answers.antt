use Rattle.std.proofs.Common.{rules, ◌≡◌, Ok, subst, refl}
use Rattle.conf_text.specs.Configurations.{IsConfOf}
use Rattle.conf_text.specs.Contents.{configuration}
use Rattle.transcript_read.specs.Heads.{IsFaulty, SpellsNoticed}
use Rattle.transcript_read.proofs.HeadLaws.{conf_within}
use Rattle.transcript_read.proofs.TranscriptLaws.{faulty_by, halts_within, noticed_comes, noticed_halts, read_notices}
use Rattle.transcript_read.proofs.transcript.follow_configured.Goals as goal

pub returns-in-Err-clause-bad : goal.returns-in-Err-clause-bad
returns-in-Err-clause-bad g c =
    let same : c.deref.result.now ≡ c.in_ok-lines.lines.text.items = search rules in
    faulty_by c.a_text_spells_one_line.ensures c.configuration_is_one.ensures c.args.text.now c.in_ok-lines.lines.text.items c.in_ok-lines.lines.rest.now
    c.in_ok-lines.lines.line c.in-Err.answer c.in_ok-lines.ensures
    (subst (λ text. IsFaulty text c.in-Err.answer) same c.in-Err.ensures.bad)

pub returns-in-Ok-follow_noticed-clause-found : goal.returns-in-Ok-follow_noticed-clause-found
returns-in-Ok-follow_noticed-clause-found g c =
    let same : c.deref.result.now ≡ c.in_ok-lines.lines.text.items = search rules in
    let reached = c.in-Ok-follow_noticed.ensures.found in
    record {
      state = reached.state;
      comes = noticed_comes g.F.Follower.first g.F.Follower.after (configuration c.in-Ok.conf) c.args.text.now c.in_ok-lines.lines.text.items
          c.in_ok-lines.lines.rest.now c.in_ok-lines.lines.line reached.state c.in_ok-lines.ensures
          (subst (λ text. IsConfOf text (Ok (configuration c.in-Ok.conf))) same c.in-Ok.ensures.found) reached.comes;
      tells = reached.tells;
    }

pub overflow_add-result : goal.overflow_add-result
overflow_add-result g c =
    let front = conf_within c.args.text.now _ c.in_ok-lines.lines.rest.now c.in_ok-lines.lines.line c.in_ok-lines.ensures.so_far in
    let same : c.deref.result.now ≡ c.in_ok-lines.lines.text.items = search rules in
    let is = subst (λ text. IsConfOf text (Ok (configuration c.in-Ok.conf))) same c.in-Ok.ensures.found in
    let each =
    read_notices (configuration c.in-Ok.conf) c.args.text.now c.in_ok-lines.lines.text.items c.in_ok-lines.lines.rest.now c.in_ok-lines.lines.line
    c.in_ok-lines.ensures is in
    let back =
    halts_within (SpellsNoticed (configuration c.in-Ok.conf).notices) c.in_ok-lines.lines.rest.now c.in-Err-Bad.line
    ((rw c.in-Err-Bad.field-0-is at c.in-Err-Bad.ensures.bad) each) in
    search rules

pub returns-in-Err-Bad-clause-bad : goal.returns-in-Err-Bad-clause-bad
returns-in-Err-Bad-clause-bad g c =
    let same : c.deref.result.now ≡ c.in_ok-lines.lines.text.items = search rules in
    let is = subst (λ text. IsConfOf text (Ok (configuration c.in-Ok.conf))) same c.in-Ok.ensures.found in
    let each =
    read_notices (configuration c.in-Ok.conf) c.args.text.now c.in_ok-lines.lines.text.items c.in_ok-lines.lines.rest.now c.in_ok-lines.lines.line
    c.in_ok-lines.ensures is in
    noticed_halts c.a_text_spells_one_line.ensures c.configuration_is_one.ensures (configuration c.in-Ok.conf) c.args.text.now
    c.in_ok-lines.lines.text.items c.in_ok-lines.lines.rest.now c.in_ok-lines.lines.line c.in-Err-Bad.line _ c.in_ok-lines.ensures
    is ((rw c.in-Err-Bad.field-0-is at c.in-Err-Bad.ensures.bad) each) refl
