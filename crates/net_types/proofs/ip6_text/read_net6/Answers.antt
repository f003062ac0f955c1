use Rattle.std.proofs.Common.{sym, ap, ◌∙◌}
use Rattle.net_types.specs.Ip6Text.{net6_at}
use Rattle.net_types.proofs.Ip6Laws.{net6_found, net6_none}
use Rattle.net_types.proofs.ip6_text.read_net6.Goals as goal

pub returns-in-Some-clause-found : goal.returns-in-Some-clause-found
returns-in-Some-clause-found c =
    net6_found c.args.text.now _ (ap net6_at (sym c.as_bytes.ensures.value) ∙ sym c.net6_of.ensures ∙ c.in-Some.is)

pub returns-in-None-clause-bad : goal.returns-in-None-clause-bad
returns-in-None-clause-bad c =
    net6_none c.args.text.now (ap net6_at (sym c.as_bytes.ensures.value) ∙ sym c.net6_of.ensures ∙ c.in-None.is)
