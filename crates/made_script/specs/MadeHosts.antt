-- The interfaces of the host, `eth1` and on.
use Rattle.std.specs.Prelude.{ℕ, ◌-◌, List, [], ◌∷◌, ◌++◌, length, map, replicate, codes, decimal}
use Rattle.net_types.specs.declared.address.Mac.{Mac}
use Rattle.net_types.specs.declared.interface.IfSpec.{IfSpec}
use Rattle.net_types.specs.declared.interface.Name.{Name}
use Rattle.script_model.specs.Lines.{numbers_from}
use Rattle.made_script.specs.declared.hosts.TheConstants.{INTERFACES, MAC_FRONT}

abbrev pub own_mac : ℕ → Mac
own_mac index = record { bytes = MAC_FRONT ++ index ∷ [] }

-- the name that a text is, with zeros up to 15 bytes
abbrev pub named : List ℕ → Name
named text = record { bytes = text ++ replicate (15 - length text) 0; len = length text }

abbrev pub own_name : ℕ → Name
own_name index = named (codes "eth" ++ decimal index)

abbrev pub iface_of : ℕ → IfSpec
iface_of index = record { index = record { number = index }; name = own_name index; mac = own_mac index }

abbrev pub all_interfaces : List ℕ
all_interfaces = numbers_from 1 INTERFACES

unfoldable pub made_ifaces : List IfSpec
made_ifaces = map iface_of all_interfaces
