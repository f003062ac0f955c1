use Rattle.std.proofs.Common.{sym, ap, ◌∙◌}
use Rattle.net_types.specs.AddressText.{ip4_at}
use Rattle.net_types.proofs.AddressLaws.{ip4_reads}
use Rattle.net_types.proofs.ReadsLaws.{spells_none}
use Rattle.net_types.proofs.address_text.read_ip4.Goals as goal

pub returns-in-Some-clause-found : goal.returns-in-Some-clause-found
returns-in-Some-clause-found c =
    ip4_reads.sound c.args.text.now c.in-Some.ip (ap ip4_at (sym c.as_bytes.ensures.value) ∙ sym c.ip4_of.ensures ∙ c.in-Some.is)

pub returns-in-None-clause-bad : goal.returns-in-None-clause-bad
returns-in-None-clause-bad c =
    spells_none c.args.text.now ip4_reads (ap ip4_at (sym c.as_bytes.ensures.value) ∙ sym c.ip4_of.ensures ∙ c.in-None.is)
