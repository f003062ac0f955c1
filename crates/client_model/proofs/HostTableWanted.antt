-- The rows that are wanted can be wanted: they are in row order, and each is on the interface that gives it, or on that of one of its shares.
use Rattle.std.proofs.Common.{ℕ, ◌≡◌, Bool, true, false, List, [], ◌∷◌, ◌++◌, map, Option, Some, None, nat_eq, refl, subst}
use Rattle.std.specs.Prelude.{filter, flat_map, nat_lt, All}
use Rattle.std.specs.List.{AllByRecursion}
use Rattle.std.proofs.lemmas.Bool.{cond_both, or_left, or_right, eq-eqb}
use Rattle.std.proofs.lemmas.List.Elements.{All-nil, All-cons, All-head, All-tail, All-append, All-filter}
use Rattle.std.proofs.lemmas.Map.Views.{All-insert_key}
use Rattle.net_types.specs.declared.address.Ip4.{Ip4}
use Rattle.net_types.specs.declared.address.Net4.{Net4}
use Rattle.net_types.specs.declared.address.Net6.{Net6}
use Rattle.net_types.specs.declared.address.Net.TheVariants as Family
use Rattle.net_types.specs.declared.interface.IfIndex.{IfIndex}
use Rattle.net_types.proofs.AllLaws.{all_map}
use Rattle.net_types.proofs.CaseLaws.{split}
use Rattle.world.specs.declared.rows.HostRow.{HostRow}
use Rattle.world.specs.declared.rows.HostRow.TheVariants.{Addr, Route}
use Rattle.world.specs.declared.rows.Via.TheVariants.{OnLink, Reject, Gate4}
use Rattle.world.specs.RowOrder.{row_iface, row_cmp, with_row, put_in_order}
use Rattle.settings.specs.PrefixShare.Subnets.{subnet_in}
use Rattle.settings.specs.declared.dhcp6_conf.ShareConf.{ShareConf}
use Rattle.settings.specs.declared.interfaces.Managed.{Managed}
use Rattle.ipv4ll.specs.Table.{held_in}
use Rattle.v4_options.specs.declared.routes.ClasslessRoute.{ClasslessRoute}
use Rattle.v4_client.specs.LeaseText.Leases.{LeaseContent}
use Rattle.v4_client.specs.Clients.{held_of}
use Rattle.v6_options.specs.declared.ia.IaKind.{IaKind}
use Rattle.v6_options.specs.declared.ia.IaKind.TheVariants.{Na, Pd}
use Rattle.v6_client.specs.Lease6Text.declared.lease.Item6.{Item6}
use Rattle.v6_client.specs.Lease6Text.Leases.{IaLeaseContent, Lease6Content}
use Rattle.v6_client.specs.Clients as dhcp6
use Rattle.settings.specs.declared.outlet.Outlet.{Outlet}
use Rattle.client_model.specs.declared.interfaces.Iface.{Iface}
use Rattle.net_types.specs.Networks.{network_of, is_within}
use Rattle.host_model.specs.Precedence.{is_kept}
use Rattle.client_model.specs.WantedRows.{outlet_of, network_routes, gateway_routes, router_routes, address_rows, static_rows, network6_of, network6_routes, static6_rows, classless_in, classless_rows, router_for, lease_routes, lease_rows, local_net, local_rows, first_address, subnet_rows, share_rows, shares_of, item_rows, ia_rows, lease6_rows, is_in_force, iface_rows, wanted_rows}
use Rattle.settings.specs.ManagedRows.{LeadsToManaged, SharesAreManaged, has_index, is_managed}
use Rattle.host_model.specs.HostTable.{Wantable}
use Rattle.host_model.proofs.HostTableRows.{in_order_sorted}

-- ---- the rows of an outlet are on its interface

abbrev On : IfIndex → HostRow → Type 0
On index row = index.number ≡ row_iface row

one_on : (index : IfIndex) (row : HostRow) → On index row → All (On index) (row ∷ [])
one_on index row on = All-cons (On index) row [] on (All-nil (On index))

network_on : (outlet : Outlet) (net : Net4) → All (On outlet.iface) (network_routes outlet net)
network_on outlet net =
    let route : HostRow = Route outlet.iface (Family.V4 (network_of net)) OnLink outlet.metric in
    cond_both (nat_lt net.len 32) (route ∷ []) [] (All (On outlet.iface)) (λ _. one_on outlet.iface route refl) (λ _. All-nil (On outlet.iface))

gateway_on : (outlet : Outlet) (net : Net4) (router : Ip4) → All (On outlet.iface) (gateway_routes outlet net router)
gateway_on outlet net router =
    let route : HostRow = Route outlet.iface (Family.V4 (record { ip = router; len = 32 })) OnLink outlet.metric in
    cond_both (is_within router net) [] (route ∷ []) (All (On outlet.iface)) (λ _. All-nil (On outlet.iface)) (λ _. one_on outlet.iface route refl)

router_on : (outlet : Outlet) (net : Net4) (router : Option Ip4) → All (On outlet.iface) (router_routes outlet net router)
router_on outlet net None = All-nil (On outlet.iface)
router_on outlet net (Some router) =
    let route : HostRow = Route outlet.iface (Family.V4 (record { ip = record { number = 0 }; len = 0 })) (Gate4 router) outlet.metric in
    All-cons (On outlet.iface) route (gateway_routes outlet net router) refl (gateway_on outlet net router)

address_on : (outlet : Outlet) (net : Net4) → All (On outlet.iface) (address_rows outlet net)
address_on outlet net = All-cons (On outlet.iface) (Addr outlet.iface (Family.V4 net)) (network_routes outlet net) refl (network_on outlet net)

static_on : (outlet : Outlet) (in_force : Bool) (address : Option Net4) (router : Option Ip4)
    → All (On outlet.iface) (static_rows outlet in_force address router)
static_on outlet false address router = All-nil (On outlet.iface)
static_on outlet true None router = All-nil (On outlet.iface)
static_on outlet true (Some net) router =
    All-append (On outlet.iface) (address_rows outlet net) (router_routes outlet net router) (address_on outlet net) (router_on outlet net router)

local_on : (outlet : Outlet) (held : Option Ip4) → All (On outlet.iface) (local_rows outlet held)
local_on outlet None = All-nil (On outlet.iface)
local_on outlet (Some ip) = address_on outlet (local_net ip)

classless_on : (outlet : Outlet) (net : Net4) (route : ClasslessRoute) → All (On outlet.iface) (classless_rows outlet net route)
classless_on outlet net route =
    let direct : HostRow = Route outlet.iface (Family.V4 route.dest) OnLink outlet.metric in
    let gated : HostRow = Route outlet.iface (Family.V4 route.dest) (Gate4 route.via) outlet.metric in
    cond_both (nat_eq route.via.number 0) (direct ∷ []) (gated ∷ gateway_routes outlet net route.via) (All (On outlet.iface))
    (λ _. one_on outlet.iface direct refl)
    (λ _. All-cons (On outlet.iface) gated (gateway_routes outlet net route.via) refl (gateway_on outlet net route.via))

each_on : (outlet : Outlet) (net : Net4) (routes : List ClasslessRoute) → All (On outlet.iface) (flat_map (classless_rows outlet net) routes)
each_on outlet net [] = All-nil (On outlet.iface)
each_on outlet net (route ∷ routes) =
    All-append (On outlet.iface) (classless_rows outlet net route) (flat_map (classless_rows outlet net) routes) (classless_on outlet net route)
    (each_on outlet net routes)

lease_routes_on : (outlet : Outlet) (net : Net4) (routes : Option (List ClasslessRoute)) (router : Option Ip4)
    → All (On outlet.iface) (lease_routes outlet net routes router)
lease_routes_on outlet net (Some routes) router = each_on outlet net routes
lease_routes_on outlet net None router = router_on outlet net router

lease_on : (outlet : Outlet) (router : Option Ip4) (held : Option LeaseContent) → All (On outlet.iface) (lease_rows outlet router held)
lease_on outlet router None = All-nil (On outlet.iface)
lease_on outlet router (Some lease) =
    let routes = classless_in lease.values in
    let chosen = router_for router lease.values in
    All-append (On outlet.iface) (address_rows outlet lease.net) (lease_routes outlet lease.net routes chosen) (address_on outlet lease.net)
    (lease_routes_on outlet lease.net routes chosen)

network6_on : (outlet : Outlet) (net : Net6) → All (On outlet.iface) (network6_routes outlet net)
network6_on outlet net =
    let route : HostRow = Route outlet.iface (Family.V6 (network6_of net)) OnLink outlet.metric in
    cond_both (nat_lt net.len 128) (route ∷ []) [] (All (On outlet.iface)) (λ _. one_on outlet.iface route refl) (λ _. All-nil (On outlet.iface))

static6_on : (outlet : Outlet) (in_force : Bool) (address : Option Net6) → All (On outlet.iface) (static6_rows outlet in_force address)
static6_on outlet false address = All-nil (On outlet.iface)
static6_on outlet true None = All-nil (On outlet.iface)
static6_on outlet true (Some net) =
    All-cons (On outlet.iface) (Addr outlet.iface (Family.V6 net)) (network6_routes outlet net) refl (network6_on outlet net)

-- those of an interface's own addresses
abbrev own_rows : Iface → List HostRow
own_rows iface =
    static_rows (outlet_of iface.managed) (is_in_force iface) iface.managed.conf.address iface.managed.conf.router
    ++ static6_rows (outlet_of iface.managed) (is_in_force iface) iface.managed.conf.address6
    ++ lease_rows (outlet_of iface.managed) iface.managed.conf.router (held_of iface.dhcp4)
    ++ local_rows (outlet_of iface.managed) (held_in iface.local.state)

own_on : (iface : Iface) → All (On iface.managed.spec.index) (own_rows iface)
own_on iface =
    let outlet = outlet_of iface.managed in
    let conf = iface.managed.conf in
    let static = static_rows outlet (is_in_force iface) conf.address conf.router in
    let static6 = static6_rows outlet (is_in_force iface) conf.address6 in
    let lease = lease_rows outlet conf.router (held_of iface.dhcp4) in
    let local = local_rows outlet (held_in iface.local.state) in
    All-append (On outlet.iface) (static ++ static6 ++ lease) local
    (All-append (On outlet.iface) (static ++ static6) lease
    (All-append (On outlet.iface) static static6 (static_on outlet (is_in_force iface) conf.address conf.router)
    (static6_on outlet (is_in_force iface) conf.address6))
    (lease_on outlet conf.router (held_of iface.dhcp4)))
    (local_on outlet (held_in iface.local.state))

subnet_on : (outlet : Outlet) (net : Option Net6) → All (On outlet.iface) (subnet_rows outlet net)
subnet_on outlet None = All-nil (On outlet.iface)
subnet_on outlet (Some net) =
    let route : HostRow = Route outlet.iface (Family.V6 net) OnLink outlet.metric in
    All-cons (On outlet.iface) (Addr outlet.iface (Family.V6 (first_address net))) (route ∷ []) refl (one_on outlet.iface route refl)

-- ---- and so on a managed one

each_picked : {X : Type 0} (P : X → Type 0) (p : X → Bool) (xs : List X) → AllByRecursion P xs → AllByRecursion P (filter p xs)
each_picked P p [] all = tt
each_picked P p (x ∷ xs) all = split (p x) (λ e. rw e (all.0, each_picked P p xs all.1)) (λ e. rw e (each_picked P p xs all.1))

module _ (managed : List Managed) where
  abbrev IsManaged : HostRow → Type 0
  IsManaged row = is_managed managed row ≡ true

  abbrev Leads : IfIndex → Type 0
  Leads index = has_index index.number managed ≡ true

  abbrev AllLead : List ShareConf → Type 0
  AllLead shares = AllByRecursion (LeadsToManaged managed) shares

  on_managed : (index : IfIndex) (rows : List HostRow) → Leads index → All (On index) rows → All IsManaged rows
  on_managed index rows leads on k d lt = subst (λ (number : ℕ). has_index number managed ≡ true) (on k d lt) leads

  shares_managed : (prefix : Net6) (shares : List ShareConf) → AllLead shares → All IsManaged (flat_map (share_rows prefix) shares)
  shares_managed prefix [] lead = All-nil IsManaged
  shares_managed prefix (share ∷ shares) lead =
      All-append IsManaged (share_rows prefix share) (flat_map (share_rows prefix) shares)
      (on_managed share.outlet.iface (share_rows prefix share) lead.0 (subnet_on share.outlet (subnet_in prefix share.share)))
      (shares_managed prefix shares lead.1)

  module _ (outlet : Outlet) (leads : Leads outlet.iface) where
    item_managed : (shares : List ShareConf) (kind : IaKind) (item : Item6) → AllLead shares → All IsManaged (item_rows outlet shares kind item)
    item_managed shares Na item lead = All-cons IsManaged (Addr outlet.iface (Family.V6 item.net)) [] leads (All-nil IsManaged)
    item_managed shares Pd item lead =
        All-cons IsManaged (Route outlet.iface (Family.V6 item.net) Reject outlet.metric) (flat_map (share_rows item.net) shares) leads
        (shares_managed item.net shares lead)

    items_managed : (shares : List ShareConf) (kind : IaKind) (items : List Item6) → AllLead shares
        → All IsManaged (flat_map (item_rows outlet shares kind) items)
    items_managed shares kind [] lead = All-nil IsManaged
    items_managed shares kind (item ∷ items) lead =
        All-append IsManaged (item_rows outlet shares kind item) (flat_map (item_rows outlet shares kind) items)
        (item_managed shares kind item lead) (items_managed shares kind items lead)

    ias_managed : (shares : List ShareConf) (ias : List IaLeaseContent) → AllLead shares → All IsManaged (flat_map (ia_rows outlet shares) ias)
    ias_managed shares [] lead = All-nil IsManaged
    ias_managed shares (ia ∷ ias) lead =
        let own : List ShareConf = shares_of ia.iaid shares in
        let own_lead : AllLead own = each_picked (LeadsToManaged managed) (λ share. nat_eq share.iaid ia.iaid) shares lead in
        All-append IsManaged (ia_rows outlet shares ia) (flat_map (ia_rows outlet shares) ias)
        (items_managed own ia.kind ia.items own_lead) (ias_managed shares ias lead)

    lease6_managed : (shares : List ShareConf) (held : Option Lease6Content) → AllLead shares → All IsManaged (lease6_rows outlet shares held)
    lease6_managed shares None lead = All-nil IsManaged
    lease6_managed shares (Some lease) lead = ias_managed shares lease.ias lead

  iface_managed : (iface : Iface) → Leads iface.managed.spec.index → AllLead iface.managed.conf.dhcp6.shares → All IsManaged (iface_rows iface)
  iface_managed iface leads lead =
      let outlet = outlet_of iface.managed in
      let shares = iface.managed.conf.dhcp6.shares in
      let held = dhcp6.held_of iface.dhcp6 in
      All-append IsManaged (own_rows iface) (lease6_rows outlet shares held)
      (on_managed iface.managed.spec.index (own_rows iface) leads (own_on iface)) (lease6_managed outlet leads shares held lead)

  ifaces_managed : (ifaces : List Iface) → AllByRecursion (λ (m : Managed). Leads m.spec.index) (map (λ iface. iface.managed) ifaces)
      → AllByRecursion (λ (m : Managed). AllLead m.conf.dhcp6.shares) (map (λ iface. iface.managed) ifaces) → All IsManaged (flat_map iface_rows ifaces)
  ifaces_managed [] leads lead = All-nil IsManaged
  ifaces_managed (iface ∷ ifaces) leads lead =
      All-append IsManaged (iface_rows iface) (flat_map iface_rows ifaces) (iface_managed iface leads.0 lead.0) (ifaces_managed ifaces leads.1 lead.1)

all_lead : (managed : List Managed) → AllByRecursion (λ (m : Managed). Leads managed m.spec.index) managed
all_lead [] = tt
all_lead (m ∷ more) = (
  or_left _ _ (eq-eqb m.spec.index.number m.spec.index.number refl),
  all_map (λ (other : Managed). Leads more other.spec.index) (λ (other : Managed). Leads (m ∷ more) other.spec.index) (λ other leads. or_right _ _ leads)
      more (all_lead more),
)

-- ---- and stay so when they are put in order

put_keeps : (P : HostRow → Type 0) (sorted rows : List HostRow) → All P sorted → All P rows → All P (put_in_order sorted rows)
put_keeps P sorted [] h k = h
put_keeps P sorted (row ∷ rows) h k =
    put_keeps P (with_row row sorted) rows (All-insert_key row_cmp row P sorted h (All-head P row rows k)) (All-tail P row rows k)

pub wantable : (ifaces : List Iface) → SharesAreManaged (map (λ iface. iface.managed) ifaces)
    → Wantable (map (λ iface. iface.managed) ifaces) (wanted_rows ifaces)
wantable ifaces lead =
    let managed = map (λ iface. iface.managed) ifaces in
    let rows = flat_map iface_rows ifaces in
    let kept = filter (is_kept rows) rows in
    record {
      in_order = in_order_sorted kept;
      on_managed =
          put_keeps (λ row. is_managed managed row ≡ true) [] kept (All-nil (λ row. is_managed managed row ≡ true))
          (All-filter (is_kept rows) (λ row. is_managed managed row ≡ true) rows (ifaces_managed managed ifaces (all_lead managed) lead));
    }
