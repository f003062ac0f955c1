use Rattle.std.proofs.Common.{sym, ap, ◌∙◌}
use Rattle.net_types.specs.AddressText.{mac_at}
use Rattle.net_types.proofs.AddressLaws.{mac_reads}
use Rattle.net_types.proofs.ReadsLaws.{spells_none}
use Rattle.net_types.proofs.address_text.read_mac.Goals as goal

pub returns-in-Some-clause-found : goal.returns-in-Some-clause-found
returns-in-Some-clause-found c =
    mac_reads.sound c.args.text.now c.in-Some.mac (ap mac_at (sym c.as_bytes.ensures.value) ∙ sym c.mac_of.ensures ∙ c.in-Some.is)

pub returns-in-None-clause-bad : goal.returns-in-None-clause-bad
returns-in-None-clause-bad c =
    spells_none c.args.text.now mac_reads (ap mac_at (sym c.as_bytes.ensures.value) ∙ sym c.mac_of.ensures ∙ c.in-None.is)
