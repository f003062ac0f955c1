use Rattle.field_laws.proofs.KindLaws.{hex_is, ip4_is, ip6_is, mac_is, name_is, net4_is, net6_is, no_field_is, number_is}
use Rattle.field_laws.proofs.laws.kinds_are_fields.Goals as goal

pub returns-clause-number : goal.returns-clause-number
returns-clause-number c = number_is

pub returns-clause-name : goal.returns-clause-name
returns-clause-name c = name_is

pub returns-clause-mac : goal.returns-clause-mac
returns-clause-mac c = mac_is

pub returns-clause-ip4 : goal.returns-clause-ip4
returns-clause-ip4 c = ip4_is

pub returns-clause-ip6 : goal.returns-clause-ip6
returns-clause-ip6 c = ip6_is

pub returns-clause-net4 : goal.returns-clause-net4
returns-clause-net4 c = net4_is

pub returns-clause-net6 : goal.returns-clause-net6
returns-clause-net6 c = net6_is

pub returns-clause-hex : goal.returns-clause-hex
returns-clause-hex c = hex_is

pub returns-clause-none : goal.returns-clause-none
returns-clause-none c = no_field_is
