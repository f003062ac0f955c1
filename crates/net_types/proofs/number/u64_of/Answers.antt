use Rattle.std.proofs.Common.{◌≡◌, true, false, sym, ◌∙◌, subst, rules}
use Rattle.std.specs.Str.Parse.{ParsesUnsigned}
use Rattle.net_types.specs.Numbers.{is_numeral}
use Rattle.net_types.proofs.NumberLaws.{no_numeral, number_parsed, numeral_text}
use Rattle.net_types.proofs.number.u64_of.Goals as goal

pub returns-then-not-is_numeral : goal.returns-then-not-is_numeral
returns-then-not-is_numeral c =
    let none : is_numeral c.args.bytes.now ≡ false = search rules in
    sym (no_numeral _ c.args.bytes.now none)

pub returns-in-Ok : goal.returns-in-Ok
returns-in-Ok c =
    let numeral : is_numeral c.args.bytes.now ≡ true = search rules in
    let parsed : ParsesUnsigned 64 10 c.args.bytes.now c.parse.result =
    subst (λ t. ParsesUnsigned 64 10 t c.parse.result) c.in-Ok.ensures.cases.0 c.parse.ensures.value.0 in
    c.ok.ensures.value ∙ number_parsed c.args.bytes.now c.parse.result numeral parsed

pub returns-in-Err : goal.returns-in-Err
returns-in-Err c =
    let numeral : is_numeral c.args.bytes.now ≡ true = search rules in
    absurd (c.in-Err.ensures.cases.0 (numeral_text c.args.bytes.now numeral))
