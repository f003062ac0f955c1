use Rattle.std.proofs.Common.{sym, ap, ◌∙◌}
use Rattle.std.specs.Option.{option_copied}
use Rattle.net_types.specs.Cutting.{strip_word}
use Rattle.lease6_text.proofs.LastIa.{last_rest}
use Rattle.lease6_text.proofs.reading.item_rest.Goals as goal

pub returns-in-Some : goal.returns-in-Some
returns-in-Some c =
    c.strip_word.ensures ∙ ap (λ word. strip_word word c.args.line.now) c.item_word.ensures
    ∙ last_rest c.args.ias.now c.in-Some.ia.now c.args.line.now (sym c.last.ensures.value ∙ ap option_copied c.in-Some.is)
