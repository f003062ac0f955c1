use Rattle.net_types.proofs.Ip6Laws.{ip6_printed, ip6_one, net6_printed, net6_one}
use Rattle.net_types.proofs.laws.ip6_texts_spell_one.Goals as goal

pub returns-clause-printed : goal.returns-clause-printed
returns-clause-printed c = ip6_printed

pub returns-clause-one : goal.returns-clause-one
returns-clause-one c = ip6_one

pub returns-clause-net_printed : goal.returns-clause-net_printed
returns-clause-net_printed c = net6_printed

pub returns-clause-net_one : goal.returns-clause-net_one
returns-clause-net_one c = net6_one
