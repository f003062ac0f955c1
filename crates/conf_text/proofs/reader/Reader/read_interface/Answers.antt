use Rattle.std.proofs.Common.{◌≡◌, Some, None, Ok, Err, sym, ap, subst}
use Rattle.std.proofs.lemmas.Result.{on_ok_weaker}
use Rattle.conf_words.specs.Directives.{shown_line}
use Rattle.conf_directives.specs.Says.{IsOfInterface}
use Rattle.conf_text.specs.Steps.{TakesLine, enter, read_so_far}
use Rattle.conf_text.proofs.ResultLaws.{err_then}
use Rattle.conf_text.proofs.TakeLaws.{answers_with, takes_interface}
use Rattle.conf_text.proofs.reader.Reader.read_interface.Goals as goal

pub returns-in-Some-clause-ok : goal.returns-in-Some-clause-ok
returns-in-Some-clause-ok c =
    let is = subst (IsOfInterface c.args.line.now.about.now) c.in-Some.is c.in_ok-name.ensures in
    on_ok_weaker c.enter.result
    (λ e. takes_interface (read_so_far c.args.self.now) (shown_line c.args.line.now) (Some c.in-Some.name) (Ok (read_so_far c.enter.new.self)) c.requires is
    (sym e))
    c.enter.ensures.ok

pub returns-in-Some-clause-bad : goal.returns-in-Some-clause-bad
returns-in-Some-clause-bad c =
    let is = subst (IsOfInterface c.args.line.now.about.now) c.in-Some.is c.in_ok-name.ensures in
    err_then c.enter.result
    (λ answer refused. answers_with (λ outcome. enter (read_so_far c.args.self.now) c.in-Some.name ≡ outcome)
    (TakesLine (read_so_far c.args.self.now) (shown_line c.args.line.now))
    (λ outcome e. takes_interface (read_so_far c.args.self.now) (shown_line c.args.line.now) (Some c.in-Some.name) outcome c.requires is (sym e))
    c.args.line.now.number answer refused)
    c.enter.ensures.bad

pub returns-in-None-clause-bad : goal.returns-in-None-clause-bad
returns-in-None-clause-bad c =
    let is = subst (IsOfInterface c.args.line.now.about.now) c.in-None.is c.in_ok-name.ensures in (
      takes_interface (read_so_far c.args.self.now) (shown_line c.args.line.now) None (Err c.fault_at.result.cause) c.requires is
          (ap (λ fault. Err fault.cause) c.fault_at.ensures),
      ap (λ fault. fault.line) c.fault_at.ensures,
    )
