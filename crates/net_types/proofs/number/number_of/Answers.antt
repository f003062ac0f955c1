use Rattle.std.proofs.Common.{sym, ◌∙◌, arith}
use Rattle.net_types.proofs.NumberLaws.{number_none, number_limited, number_too_large}
use Rattle.net_types.proofs.number.number_of.Goals as goal

pub returns-in_err-number-clause-value : goal.returns-in_err-number-clause-value
returns-in_err-number-clause-value c =
    c.from_residual.ensures ∙ sym (number_none c.args.limit c.args.bytes.now (omega arith) (sym c.u64_of.ensures ∙ c.in_err-number.was))

pub returns-then-number-limit-clause-value : goal.returns-then-number-limit-clause-value
returns-then-number-limit-clause-value c =
    sym (number_limited c.args.limit c.args.bytes.now c.in_ok-number.number (sym c.u64_of.ensures ∙ c.in_ok-number.was) c.if-number-limit.true)

pub returns-else-number-limit-clause-value : goal.returns-else-number-limit-clause-value
returns-else-number-limit-clause-value c =
    sym (number_too_large c.args.limit c.args.bytes.now c.in_ok-number.number (sym c.u64_of.ensures ∙ c.in_ok-number.was) c.if-number-limit.false)
