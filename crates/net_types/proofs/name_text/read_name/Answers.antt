use Rattle.std.proofs.Common.{sym, ap, ◌∙◌}
use Rattle.net_types.specs.NameText.{name_at}
use Rattle.net_types.proofs.NameLaws.{name_reads}
use Rattle.net_types.proofs.ReadsLaws.{spells_none}
use Rattle.net_types.proofs.name_text.read_name.Goals as goal

pub returns-in-Some-clause-found : goal.returns-in-Some-clause-found
returns-in-Some-clause-found c =
    name_reads.sound c.args.text.now c.in-Some.name (ap name_at (sym c.as_bytes.ensures.value) ∙ sym c.name_of.ensures ∙ c.in-Some.is)

pub returns-in-None-clause-bad : goal.returns-in-None-clause-bad
returns-in-None-clause-bad c =
    spells_none c.args.text.now name_reads (ap name_at (sym c.as_bytes.ensures.value) ∙ sym c.name_of.ensures ∙ c.in-None.is)
