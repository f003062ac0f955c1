use Rattle.std.proofs.Common.{◌≡◌, subst}
use Rattle.std.specs.Prelude.{IfOk}
use Rattle.transcript_lines.proofs.NameLaws.{listed_more, listed_none, listed_other}
use Rattle.transcript_lines.proofs.fields.is_listed.Goals as goal

pub returns-in-None : goal.returns-in-None
returns-in-None c = listed_none c.args.bytes.now c.in-None.ensures.cases

pub returns-then-first-eq32 : goal.returns-then-first-eq32
returns-then-first-eq32 c =
    let same = listed_more c.args.bytes.now c.in-Some.names.now c.in-Some.first.now c.in-Some.ensures.cases.0 c.if-first-eq32.true in
    subst (λ b. IfOk c.are_names.result (λ all. all ≡ b)) same c.are_names.ensures

pub returns-else-first-eq32 : goal.returns-else-first-eq32
returns-else-first-eq32 c = listed_other c.args.bytes.now c.in-Some.names.now c.in-Some.first.now c.in-Some.ensures.cases.0 c.if-first-eq32.false
