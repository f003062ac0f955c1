-- Whether an address is one out of a prefix that another interface holds (RFC 3633, section 12.1).
use Rattle.std.specs.Prelude.{Bool, false, ◌&&◌, ◌==◌, not, List, Option, Some, None}
use Rattle.std.specs.List.{list_any}
use Rattle.net_types.specs.declared.address.Net.{Net}
use Rattle.net_types.specs.declared.address.Net.TheVariants.{V4, V6}
use Rattle.net_types.specs.declared.address.Net6.{Net6}
use Rattle.net_types.specs.declared.interface.IfIndex.{IfIndex}
use Rattle.prefix_share.specs.Subnets.{subnet_in}
use Rattle.settings.specs.declared.dhcp6_conf.ShareConf.{ShareConf}
use Rattle.settings.specs.declared.interfaces.Managed.{Managed}
use Rattle.evidence.specs.ClientModel.WantedRows.{first_address}
use Rattle.share_judge.specs.declared.prefix.HeldPrefix.{HeldPrefix}

-- the address is the first one of the subnet after that of its routers
abbrev pub is_first : Net → (subnet : Net6) → Bool
is_first (V4 net) subnet = false
is_first (V6 net) subnet =
    (net.ip.number == (first_address subnet).ip.number) && (net.len == (first_address subnet).len)

abbrev pub gives_first : Net → (subnet : Option Net6) → Bool
gives_first net None = false
gives_first net (Some subnet) = is_first net subnet

-- a share for the interface of this index, of the prefixes of this IA, has the subnet whose first address this is
abbrev pub gives_by : IfIndex → Net → HeldPrefix → ShareConf → Bool
gives_by index net held share =
    (share.outlet.iface.number == index.number) && (share.iaid == held.iaid)
    && gives_first net (subnet_in held.net share.share)

-- the interface upstream has such a share, and isn't that interface
abbrev pub shares_out : Managed → IfIndex → Net → HeldPrefix → Bool
shares_out upstream index net held =
    not (index.number == upstream.spec.index.number) && list_any (gives_by index net held) upstream.conf.dhcp6.shares

-- so one of the prefixes that it holds
abbrev pub is_shared : Managed → IfIndex → Net → List HeldPrefix → Bool
is_shared upstream index net held = list_any (shares_out upstream index net) held
