use Rattle.std.proofs.Common.{sym, ap, ◌∙◌}
use Rattle.net_types.specs.Ip6Text.{ip6_at}
use Rattle.net_types.proofs.Ip6Laws.{ip6_found, ip6_none}
use Rattle.net_types.proofs.ip6_text.read_ip6.Goals as goal

pub returns-in-Some-clause-found : goal.returns-in-Some-clause-found
returns-in-Some-clause-found c =
    ip6_found c.args.text.now _ (ap ip6_at (sym c.as_bytes.ensures.value) ∙ sym c.ip6_of.ensures ∙ c.in-Some.is)

pub returns-in-None-clause-bad : goal.returns-in-None-clause-bad
returns-in-None-clause-bad c =
    ip6_none c.args.text.now (ap ip6_at (sym c.as_bytes.ensures.value) ∙ sym c.ip6_of.ensures ∙ c.in-None.is)
