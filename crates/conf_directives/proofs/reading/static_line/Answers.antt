use Rattle.std.proofs.Common.{inl}
use Rattle.std.proofs.lemmas.Result.{IfOk-weaker}
use Rattle.conf_words.specs.Arguments.{shown_argument}
use Rattle.conf_directives.proofs.reading.static_line.Goals as goal

pub returns-in-Some : goal.returns-in-Some
returns-in-Some c =
    IfOk-weaker c.static_said.result _ _ (λ said is. inl (shown_argument c.in-Some.argument, c.in-Some.ensures.whole, is)) c.static_said.ensures
