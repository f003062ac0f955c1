-- The rows that the interfaces' addresses give, computed from scratch.
use Rattle.std.specs.Prelude.{ℕ, ◌+◌, Bool, true, false, not, ◌&&◌, ◌==◌, nat_lt, if◌then◌else◌, List, [], ◌∷◌, ◌++◌, filter, find, flat_map, Option, Some, None, option_map, option_and_then, slice_get, unwrap_or}
use Rattle.std.specs.Option.{option_or}
use Rattle.net_types.specs.declared.address.Ip4.{Ip4}
use Rattle.net_types.specs.declared.address.Net4.{Net4}
use Rattle.net_types.specs.declared.address.Net6.{Net6}
use Rattle.net_types.specs.declared.address.Net.TheVariants as Family
use Rattle.net_types.specs.Networks.{network_of, is_within}
use Rattle.net_types.specs.declared.interface.IfIndex.{IfIndex}
use Rattle.world.specs.declared.rows.HostRow.{HostRow}
use Rattle.world.specs.declared.rows.HostRow.TheVariants.{Addr, Route}
use Rattle.world.specs.declared.rows.Via.TheVariants.{OnLink, Reject, Gate4}
use Rattle.host_model.specs.Precedence.{unique_rows}
use Rattle.ipv4ll.specs.Table.{held_in}
use Rattle.v4_options.specs.declared.code.TheConstants.{CLASSLESS_ROUTES, ROUTERS}
use Rattle.v4_options.specs.declared.routes.ClasslessRoute.{ClasslessRoute}
use Rattle.v4_options.specs.Numbers.{addrs_in}
use Rattle.v4_options.specs.Routes.{routes_in}
use Rattle.settings.specs.PrefixShare.Subnets.{network_number, subnet_in}
use Rattle.v4_client.specs.LeaseText.Leases.{ValueContent, LeaseContent}
use Rattle.v4_client.specs.Clients.{held_of}
use Rattle.v6_client.specs.Lease6Text.declared.lease.Item6.{Item6}
use Rattle.v6_client.specs.Lease6Text.Leases.{IaLeaseContent, Lease6Content}
use Rattle.v6_client.specs.Clients as dhcp6
use Rattle.v6_options.specs.declared.ia.IaKind.{IaKind}
use Rattle.v6_options.specs.declared.ia.IaKind.TheVariants.{Na, Pd}
use Rattle.settings.specs.declared.dhcp6_conf.ShareConf.{ShareConf}
use Rattle.settings.specs.declared.interfaces.Managed.{Managed}
use Rattle.settings.specs.declared.outlet.Outlet.{Outlet}
use Rattle.client_model.specs.declared.interfaces.Iface.{Iface}

-- the metric of an interface's routes, where none is configured
abbrev pub metric_by_index : IfIndex → ℕ
metric_by_index iface = 1000 + iface.number

abbrev pub metric_of : Managed → ℕ
metric_of managed = unwrap_or managed.conf.metric (metric_by_index managed.spec.index)

-- by where the rows of an interface lead
abbrev pub outlet_of : Managed → Outlet
outlet_of managed = record { iface = managed.spec.index; metric = metric_of managed }

-- an address shorter than the whole width gives its network
abbrev pub network_routes : Outlet → Net4 → List HostRow
network_routes outlet net =
    if nat_lt net.len 32
    then Route outlet.iface (Family.V4 (network_of net)) OnLink outlet.metric ∷ []
    else []

-- a router outside the network is given on the link itself
abbrev pub gateway_routes : Outlet → Net4 → Ip4 → List HostRow
gateway_routes outlet net router =
    if is_within router net
    then []
    else Route outlet.iface (Family.V4 (record { ip = router; len = 32 })) OnLink outlet.metric ∷ []

-- the default route, by the router
abbrev pub router_routes : Outlet → Net4 → Option Ip4 → List HostRow
router_routes outlet net None = []
router_routes outlet net (Some router) =
    Route outlet.iface (Family.V4 (record { ip = record { number = 0 }; len = 0 })) (Gate4 router) outlet.metric
    ∷ gateway_routes outlet net router

-- an address with its network
abbrev pub address_rows : Outlet → Net4 → List HostRow
address_rows outlet net = Addr outlet.iface (Family.V4 net) ∷ network_routes outlet net

-- a static address is in force while the carrier is up and no stop came
abbrev pub static_rows : Outlet → (in_force : Bool) → Option Net4 → (router : Option Ip4) → List HostRow
static_rows outlet false address router = []
static_rows outlet true None router = []
static_rows outlet true (Some net) router = address_rows outlet net ++ router_routes outlet net router

-- ---- a static IPv6 address

abbrev pub network6_of : Net6 → Net6
network6_of net = record { ip = record { number = network_number net }; len = net.len }

abbrev pub network6_routes : Outlet → Net6 → List HostRow
network6_routes outlet net =
    if nat_lt net.len 128
    then Route outlet.iface (Family.V6 (network6_of net)) OnLink outlet.metric ∷ []
    else []

-- it is in force as one of IPv4 is
abbrev pub static6_rows : Outlet → (in_force : Bool) → Option Net6 → List HostRow
static6_rows outlet false address = []
static6_rows outlet true None = []
static6_rows outlet true (Some net) = Addr outlet.iface (Family.V6 net) ∷ network6_routes outlet net

-- ---- a lease (RFC 2131, RFC 3442)

-- the value of a code that came with a lease
abbrev pub value_in : (code : ℕ) → List ValueContent → Option (List ℕ)
value_in code values = option_map (λ value. value.bytes) (find (λ value. value.code == code) values)

-- the classless routes that came with a lease, and its routers
abbrev pub classless_in : List ValueContent → Option (List ClasslessRoute)
classless_in values = option_and_then routes_in (value_in CLASSLESS_ROUTES values)

abbrev pub routers_in : List ValueContent → Option (List Ip4)
routers_in values = option_and_then addrs_in (value_in ROUTERS values)

-- a classless route; where its gateway is 0 its destination is on the link
abbrev pub classless_rows : Outlet → Net4 → ClasslessRoute → List HostRow
classless_rows outlet net route =
    if route.via.number == 0
    then Route outlet.iface (Family.V4 route.dest) OnLink outlet.metric ∷ []
    else Route outlet.iface (Family.V4 route.dest) (Gate4 route.via) outlet.metric ∷ gateway_routes outlet net route.via

-- the preferred router comes first (RFC 2132, section 3.5)
abbrev pub preferred : List Ip4 → Option Ip4
preferred routers = slice_get routers 0

-- a static router goes before the routers of a lease
abbrev pub router_for : (static : Option Ip4) → List ValueContent → Option Ip4
router_for static values = option_or static (option_and_then preferred (routers_in values))

-- classless routes take the place of routers (RFC 3442)
abbrev pub lease_routes : Outlet → Net4 → Option (List ClasslessRoute) → (router : Option Ip4) → List HostRow
lease_routes outlet net (Some routes) router = flat_map (classless_rows outlet net) routes
lease_routes outlet net None router = router_routes outlet net router

abbrev pub lease_rows : Outlet → (router : Option Ip4) → Option LeaseContent → List HostRow
lease_rows outlet router None = []
lease_rows outlet router (Some lease) =
    address_rows outlet lease.net
    ++ lease_routes outlet lease.net (classless_in lease.values) (router_for router lease.values)

-- a link-local address is one of 169.254/16 (RFC 3927, section 2.1)
abbrev pub local_net : Ip4 → Net4
local_net ip = record { ip = ip; len = 16 }

abbrev pub local_rows : Outlet → Option Ip4 → List HostRow
local_rows outlet None = []
local_rows outlet (Some ip) = address_rows outlet (local_net ip)

-- ---- the shares of a delegated prefix (RFC 3633, section 12.1)

-- the first address of a subnet after that of its routers (RFC 4291, section 2.6.1)
abbrev pub first_address : Net6 → Net6
first_address net = record { ip = record { number = net.ip.number + 1 }; len = net.len }

abbrev pub subnet_rows : Outlet → Option Net6 → List HostRow
subnet_rows outlet None = []
subnet_rows outlet (Some net) =
    Addr outlet.iface (Family.V6 (first_address net)) ∷ Route outlet.iface (Family.V6 net) OnLink outlet.metric ∷ []

-- a share has its subnet of the prefix, on its own interface
abbrev pub share_rows : Net6 → ShareConf → List HostRow
share_rows prefix share = subnet_rows share.outlet (subnet_in prefix share.share)

-- the shares of an IA's prefixes
abbrev pub shares_of : (iaid : ℕ) → List ShareConf → List ShareConf
shares_of iaid shares = filter (λ share. share.iaid == iaid) shares

-- ---- a DHCPv6 lease: each address by itself (RFC 8415, section 18.2.10.1, leaves it to routers to tell the network);
-- each prefix is refused where no longer route leads into it (RFC 7084, WPD-5), and its shares have their subnets

abbrev pub item_rows : Outlet → List ShareConf → IaKind → Item6 → List HostRow
item_rows outlet shares Na item = Addr outlet.iface (Family.V6 item.net) ∷ []
item_rows outlet shares Pd item =
    Route outlet.iface (Family.V6 item.net) Reject outlet.metric ∷ flat_map (share_rows item.net) shares

abbrev pub ia_rows : Outlet → List ShareConf → IaLeaseContent → List HostRow
ia_rows outlet shares ia = flat_map (item_rows outlet (shares_of ia.iaid shares) ia.kind) ia.items

abbrev pub lease6_rows : Outlet → List ShareConf → Option Lease6Content → List HostRow
lease6_rows outlet shares None = []
lease6_rows outlet shares (Some lease) = flat_map (ia_rows outlet shares) lease.ias

-- static addresses are in force while the carrier is up and no stop came
abbrev pub is_in_force : Iface → Bool
is_in_force iface = iface.up && not iface.stopped

-- those of its own addresses, and those of the shares of its prefixes
abbrev pub iface_rows : Iface → List HostRow
iface_rows iface =
    static_rows (outlet_of iface.managed) (is_in_force iface) iface.managed.conf.address iface.managed.conf.router
    ++ static6_rows (outlet_of iface.managed) (is_in_force iface) iface.managed.conf.address6
    ++ lease_rows (outlet_of iface.managed) iface.managed.conf.router (held_of iface.dhcp4)
    ++ local_rows (outlet_of iface.managed) (held_in iface.local.state)
    ++ lease6_rows (outlet_of iface.managed) iface.managed.conf.dhcp6.shares (dhcp6.held_of iface.dhcp6)

-- the rows that are wanted, in row order
abbrev pub wanted_rows : List Iface → List HostRow
wanted_rows ifaces = unique_rows (flat_map iface_rows ifaces)
