use Rattle.std.proofs.Common.{sym, ap, ◌∙◌}
use Rattle.std.specs.Option.{option_copied}
use Rattle.lease_text.proofs.LineReads.{last_is}
use Rattle.lease6_text.proofs.reading.last_code.Goals as goal

pub returns-in-Some : goal.returns-in-Some
returns-in-Some c = last_is c.args.values.now c.in-Some.value.now (sym c.last.ensures.value ∙ ap option_copied c.in-Some.is)
