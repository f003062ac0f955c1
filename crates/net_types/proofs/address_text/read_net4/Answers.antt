use Rattle.std.proofs.Common.{sym, ap, ◌∙◌}
use Rattle.net_types.specs.AddressText.{net4_at}
use Rattle.net_types.proofs.AddressLaws.{net4_reads}
use Rattle.net_types.proofs.ReadsLaws.{spells_none}
use Rattle.net_types.proofs.address_text.read_net4.Goals as goal

pub returns-in-Some-clause-found : goal.returns-in-Some-clause-found
returns-in-Some-clause-found c =
    net4_reads.sound c.args.text.now c.in-Some.net (ap net4_at (sym c.as_bytes.ensures.value) ∙ sym c.net4_of.ensures ∙ c.in-Some.is)

pub returns-in-None-clause-bad : goal.returns-in-None-clause-bad
returns-in-None-clause-bad c =
    spells_none c.args.text.now net4_reads (ap net4_at (sym c.as_bytes.ensures.value) ∙ sym c.net4_of.ensures ∙ c.in-None.is)
