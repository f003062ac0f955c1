use Rattle.std.proofs.Common.{◌≡◌, true, false, Ok, ap, refl}
use Rattle.std.proofs.lemmas.Result.{on_ok_weaker}
use Rattle.conf_words.specs.Directives.{shown_line}
use Rattle.conf_directives.specs.Names.{directive_at}
use Rattle.conf_text.specs.Configurations.{Configuration}
use Rattle.conf_text.specs.Standings.{is_global_alone}
use Rattle.conf_text.specs.Steps.{ReadSoFar, TakesLine, TakesSaid, read_so_far}
use Rattle.conf_text.proofs.ResultLaws.{err_then}
use Rattle.conf_text.proofs.TakeLaws.{answers_with, takes_global, takes_block, takes_alone, takes_skipped}
use Rattle.conf_text.proofs.reader.Reader.read_directive.Goals as goal

pub returns-in-Global-clause-ok : goal.returns-in-Global-clause-ok
returns-in-Global-clause-ok c =
    on_ok_weaker c.read_said.result
    (takes_global (read_so_far c.args.self.now) (shown_line c.args.line.now) (Ok (read_so_far c.read_said.new.self)) c.requires c.in-Global.is)
    c.read_said.ensures.ok

pub returns-in-Global-clause-bad : goal.returns-in-Global-clause-bad
returns-in-Global-clause-bad c =
    err_then c.read_said.result
    (λ answer refused. answers_with (TakesSaid (read_so_far c.args.self.now) (shown_line c.args.line.now))
    (TakesLine (read_so_far c.args.self.now) (shown_line c.args.line.now))
    (λ outcome. takes_global (read_so_far c.args.self.now) (shown_line c.args.line.now) outcome c.requires c.in-Global.is)
    c.args.line.now.number answer refused)
    c.read_said.ensures.bad

pub returns-in_ok-notice-in-Block-clause-ok : goal.returns-in_ok-notice-in-Block-clause-ok
returns-in_ok-notice-in-Block-clause-ok c =
    let alone : is_global_alone (directive_at c.args.line.now.directive.now) ≡ true = (cc) in
    takes_alone (read_so_far c.args.self.now) (shown_line c.args.line.now) c.in-Block.field-0 _ c.requires c.in-Block.is alone
    (ap (λ (conf : Configuration). let so_far : ReadSoFar = record { conf = conf; spot = c.args.self.now.spot } in Ok so_far) c.in_ok-notice-in-Block.ensures)

pub returns-else-is_global_alone-clause-ok : goal.returns-else-is_global_alone-clause-ok
returns-else-is_global_alone-clause-ok c =
    let alone : is_global_alone (directive_at c.args.line.now.directive.now) ≡ false = (cc) in
    on_ok_weaker c.read_said-else-is_global_alone.result
    (takes_block (read_so_far c.args.self.now) (shown_line c.args.line.now) c.in-Block.field-0
    (Ok (read_so_far c.read_said-else-is_global_alone.new.self)) c.requires c.in-Block.is alone)
    c.read_said-else-is_global_alone.ensures.ok

pub returns-else-is_global_alone-clause-bad : goal.returns-else-is_global_alone-clause-bad
returns-else-is_global_alone-clause-bad c =
    let alone : is_global_alone (directive_at c.args.line.now.directive.now) ≡ false = (cc) in
    err_then c.read_said-else-is_global_alone.result
    (λ answer refused. answers_with (TakesSaid (read_so_far c.args.self.now) (shown_line c.args.line.now))
    (TakesLine (read_so_far c.args.self.now) (shown_line c.args.line.now))
    (λ outcome. takes_block (read_so_far c.args.self.now) (shown_line c.args.line.now) c.in-Block.field-0 outcome c.requires c.in-Block.is alone)
    c.args.line.now.number answer refused)
    c.read_said-else-is_global_alone.ensures.bad

pub returns-in-Skipped-clause-ok : goal.returns-in-Skipped-clause-ok
returns-in-Skipped-clause-ok c = takes_skipped (read_so_far c.args.self.now) (shown_line c.args.line.now) _ c.requires c.in-Skipped.is refl
