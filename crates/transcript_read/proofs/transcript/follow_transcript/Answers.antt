use Rattle.std.proofs.Common.{rules, ◌≡◌, bytes_eq, codes, true, false}
use Rattle.transcript_read.specs.Heads.{SpellsConfigured}
use Rattle.transcript_read.proofs.TranscriptLaws.{configured_bad, configured_whole, first_within, other_first, unended_first}
use Rattle.transcript_read.proofs.transcript.follow_transcript.Goals as goal

pub returns-in_default-clause-bad : goal.returns-in_default-clause-bad
returns-in_default-clause-bad g c = unended_first c.a_text_spells_one_line.ensures c.args.text.now c.in_default.ensures

pub returns-then-ne-clause-bad : goal.returns-then-ne-clause-bad
returns-then-ne-clause-bad g c =
    let other : bytes_eq c.in-Some.first.now (codes "dhcpcd-transcript 1") ≡ false = search rules in
    other_first c.a_text_spells_one_line.ensures c.args.text.now c.in-Some.first.now c.in-Some.rest.now c.in-Some.ensures other

pub overflow_add-result : goal.overflow_add-result
overflow_add-result g c =
    let within =
    first_within SpellsConfigured c.args.text.now c.in-Some.first.now c.in-Some.rest.now c.in-Err-Bad.line c.in-Some.ensures
    (rw c.in-Err-Bad.field-0-is at c.in-Err-Bad.ensures.bad) in
    search rules

pub returns-in-Ok-clause-found : goal.returns-in-Ok-clause-found
returns-in-Ok-clause-found g c =
    let same : bytes_eq c.in-Some.first.now (codes "dhcpcd-transcript 1") ≡ true = search rules in
    let reached = c.in-Ok.ensures.found in
    record {
      state = reached.state;
      comes = configured_whole g.F.Follower.first g.F.Follower.after c.args.text.now c.in-Some.first.now c.in-Some.rest.now reached.state c.in-Some.ensures same
          reached.comes;
      tells = reached.tells;
    }

pub returns-in-Err-Bad-clause-bad : goal.returns-in-Err-Bad-clause-bad
returns-in-Err-Bad-clause-bad g c =
    let same : bytes_eq c.in-Some.first.now (codes "dhcpcd-transcript 1") ≡ true = search rules in
    configured_bad c.args.text.now c.in-Some.first.now c.in-Some.rest.now c.in-Err-Bad.line c.in-Some.ensures same
    (rw c.in-Err-Bad.field-0-is at c.in-Err-Bad.ensures.bad)
