-- Which interface an address row comes from, and the basis that it has there.
use Rattle.std.proofs.Common.{ℕ, suc, arith, ◌≡◌, Bool, true, false, cond, not, ◌&&◌, ◌||◌, List, [], ◌∷◌, ◌++◌, ◌⊎◌, inl, inr, Option, Some, None, refl, sym, ap, subst, ◌∙◌}
use Rattle.std.specs.Prelude.{filter, flat_map, nat_lt, ◌==◌}
use Rattle.std.specs.List.{AllByRecursion, Contains}
use Rattle.std.proofs.lemmas.List.Folds.{list_any-append}
use Rattle.std.proofs.lemmas.Bool.Decides.{nat_tests}
use Rattle.std.specs.BTreeMap.{is_at}
use Rattle.std.specs.Cmp.{Equal-is}
use Rattle.net_types.specs.declared.address.Ip4.{Ip4}
use Rattle.net_types.specs.declared.address.Net4.{Net4}
use Rattle.net_types.specs.declared.address.Net6.{Net6}
use Rattle.net_types.specs.declared.address.Net.{Net}
use Rattle.net_types.specs.declared.address.Net.TheVariants as Family
use Rattle.net_types.specs.declared.interface.IfIndex.{IfIndex}
use Rattle.net_types.specs.declared.address.Mac.{Mac}
use Rattle.arp_acd.specs.declared.detection.Phase.{Phase}
use Rattle.arp_acd.specs.declared.detection.Phase.TheVariants.{Probing, Announcing, Held, Over}
use Rattle.arp_acd.specs.Table as detection
use Rattle.prefix_share.specs.Subnets.{subnet_in}
use Rattle.ipv4ll.specs.declared.link_local.State.{State}
use Rattle.ipv4ll.specs.declared.link_local.State.TheVariants.{Off, Armed, Chosen, Waiting}
use Rattle.ipv4ll.specs.Choice.{IsChoice}
use Rattle.ipv4ll.specs.Table.{held_in}
use Rattle.v4_options.specs.declared.routes.ClasslessRoute.{ClasslessRoute}
use Rattle.lease_text.specs.Leases.{LeaseContent}
use Rattle.lease6_text.specs.declared.lease.Item6.{Item6}
use Rattle.lease6_text.specs.Leases.{IaLeaseContent, Lease6Content}
use Rattle.v6_options.specs.declared.ia.IaKind.{IaKind}
use Rattle.v6_options.specs.declared.ia.IaKind.TheVariants.{Na, Pd}
use Rattle.v4_client.specs.Clients.{held_of}
use Rattle.v6_client.specs.Clients as dhcp6
use Rattle.world.specs.declared.rows.HostRow.{HostRow}
use Rattle.world.specs.declared.rows.HostRow.TheVariants.{Addr, Route}
use Rattle.world.specs.declared.rows.Via.TheVariants.{OnLink, Gate4}
use Rattle.world.specs.RowOrder.{row_iface, row_net, row_cmp, has_row}
use Rattle.world.proofs.ExactRows.{row_cmp_exact}
use Rattle.world.proofs.RowLists.{in_order_has}
use Rattle.settings.specs.declared.dhcp6_conf.ShareConf.{ShareConf}
use Rattle.settings.specs.declared.interfaces.IfConf.{IfConf}
use Rattle.settings.specs.declared.outlet.Outlet.{Outlet}
use Rattle.client_model.specs.declared.interfaces.Iface.{Iface}
use Rattle.net_types.specs.Networks.{network_of, is_within}
use Rattle.client_model.specs.Clients.{Client, rows_of}
use Rattle.host_model.specs.Precedence.{is_kept}
use Rattle.client_model.specs.WantedRows.{outlet_of, gateway_routes, router_routes, network_routes, address_rows, static_rows, network6_of, network6_routes, static6_rows, classless_in, classless_rows, router_for, lease_routes, lease_rows, local_net, local_rows, first_address, subnet_rows, share_rows, shares_of, item_rows, ia_rows, lease6_rows, is_in_force, iface_rows}
use Rattle.host_model.proofs.HostTableRows.{has_filter}
use Rattle.evidence_words.specs.Entries.{Entry}
use Rattle.evidence_words.specs.Inputs.{Site}
use Rattle.local_evidence.specs.LinkLocalBasis.{Undisturbed, StrongBasis}
use Rattle.evidence.specs.StaticBasis.{StaticBasis}
use Rattle.local_evidence.proofs.Phases.{HeldSince, Carries}
use Rattle.local_evidence.proofs.Ticks.{Bears}
use Rattle.evidence.proofs.Turns as turns
use Rattle.evidence.proofs.Turns.{site_by}
use Rattle.evidence.proofs.Keeping.{Keeps}

either : (a b : Bool) → (a || b) ≡ true → (a ≡ true) ⊎ (b ≡ true)
either true b e = inl refl
either false b e = inr e

-- a row of two tables is one of the first or one of the second
pub in_either : (row : HostRow) (first later : List HostRow) → has_row (first ++ later) row ≡ true → (has_row first row ≡ true) ⊎ (has_row later row ≡ true)
in_either row first later has = either _ _ (sym (list_any-append (is_at (row_cmp row)) first later) ∙ has)

-- ---- what the wanted rows have, some interface gives

second : (a b : Bool) → (a && b) ≡ true → b ≡ true
second true b e = e
second false b e = cc

pub record Giver (P : Iface → Type 0) (row : HostRow) : Type 0 where
  pub iface : Iface
  pub is_such : P iface
  pub gives : has_row (iface_rows iface) row ≡ true

giver : (P : Iface → Type 0) (row : HostRow) (ifaces : List Iface) → AllByRecursion P ifaces
    → has_row (flat_map iface_rows ifaces) row ≡ true → Giver P row
giver P row [] all has = cc
giver P row (iface ∷ ifaces) all has =
    elim (in_either row (iface_rows iface) (flat_map iface_rows ifaces) has) [
      | inl here ↦ record { iface = iface; is_such = all.0; gives = here }
      | inr later ↦ giver P row ifaces all.1 later
    ]

-- an interface that gives a row which the client wants
pub wanted_giver : (P : Iface → Type 0) (row : HostRow) (client : Client) → AllByRecursion P client.ifaces → has_row (rows_of client) row ≡ true → Giver P row
wanted_giver P row client all has =
    let rows : List HostRow = flat_map iface_rows client.ifaces in
    giver P row client.ifaces all
    (second _ _ (sym (has_filter (is_kept rows) rows row) ∙ sym (in_order_has (filter (is_kept rows) rows) row) ∙ has))

-- ---- routes are no addresses

among_first : {X : Type 0} (xs : List X) (x : X) → Contains (x ∷ xs) x
among_first xs x = (0, omega arith, refl)

among_later : {X : Type 0} (first : X) (xs : List X) (x : X) → Contains xs x → Contains (first ∷ xs) x
among_later first xs x h = (suc h.0, omega (arith, h.1), h.2)

module _ (index : IfIndex) (net : Net) where
  no_network : (b : Bool) (iface : IfIndex) (dest : Net) (metric : ℕ) → has_row (cond b (Route iface dest OnLink metric ∷ []) []) (Addr index net) ≡ false
  no_network true iface dest metric = refl
  no_network false iface dest metric = refl

  no_gateway : (b : Bool) (iface : IfIndex) (dest : Net) (metric : ℕ) → has_row (cond b [] (Route iface dest OnLink metric ∷ [])) (Addr index net) ≡ false
  no_gateway true iface dest metric = refl
  no_gateway false iface dest metric = refl

  no_router : (outlet : Outlet) (address : Net4) (router : Option Ip4) → has_row (router_routes outlet address router) (Addr index net) ≡ false
  no_router outlet address None = refl
  no_router outlet address (Some router) = no_gateway (is_within router address) outlet.iface (Family.V4 (record { ip = router; len = 32 })) outlet.metric

  no_classless : (on_link : Bool) (outlet : Outlet) (address : Net4) (route : ClasslessRoute)
      → has_row (cond on_link (Route outlet.iface (Family.V4 route.dest) OnLink outlet.metric ∷ [])
      (Route outlet.iface (Family.V4 route.dest) (Gate4 route.via) outlet.metric ∷ gateway_routes outlet address route.via)) (Addr index net) ≡ false
  no_classless true outlet address route = refl
  no_classless false outlet address route =
      no_gateway (is_within route.via address) outlet.iface (Family.V4 (record { ip = route.via; len = 32 })) outlet.metric

  neither : (a b : Bool) → a ≡ false → b ≡ false → (a || b) ≡ false
  neither true b p q = absurd cc
  neither false b p q = q

  no_routes : (outlet : Outlet) (address : Net4) (routes : List ClasslessRoute)
      → has_row (flat_map (classless_rows outlet address) routes) (Addr index net) ≡ false
  no_routes outlet address [] = refl
  no_routes outlet address (route ∷ routes) =
      list_any-append (is_at (row_cmp (Addr index net))) (classless_rows outlet address route) (flat_map (classless_rows outlet address) routes)
      ∙ neither _ _ (no_classless (route.via.number == 0) outlet address route) (no_routes outlet address routes)

  no_lease_routes : (outlet : Outlet) (address : Net4) (routes : Option (List ClasslessRoute)) (router : Option Ip4)
      → has_row (lease_routes outlet address routes router) (Addr index net) ≡ false
  no_lease_routes outlet address (Some routes) router = no_routes outlet address routes
  no_lease_routes outlet address None router = no_router outlet address router

  or_none : (a b : Bool) → b ≡ false → (a || b) ≡ true → a ≡ true
  or_none true b none e = refl
  or_none false b none e = sym none ∙ e

  -- an address before routes gives this address alone
  of_first : (outlet : Outlet) (address : Net) (routes : List HostRow) → has_row routes (Addr index net) ≡ false
      → has_row (Addr outlet.iface address ∷ routes) (Addr index net) ≡ true → Addr index net ≡ Addr outlet.iface address
  of_first outlet address routes none has =
      row_cmp_exact (Addr index net) (Addr outlet.iface address) ((Equal-is (row_cmp (Addr index net) (Addr outlet.iface address))).0 (or_none _ _ none has))

  -- so with its network
  of_address : (outlet : Outlet) (address : Net4) → has_row (address_rows outlet address) (Addr index net) ≡ true
      → Addr index net ≡ Addr outlet.iface (Family.V4 address)
  of_address outlet address has =
      of_first outlet (Family.V4 address) (network_routes outlet address)
      (no_network (nat_lt address.len 32) outlet.iface (Family.V4 (network_of address)) outlet.metric) has

  -- ---- the basis

  pub record OfStatic (outlet : Outlet) (static : Option Net4) : Type 0 where
    pub address : Net4
    pub is_static : static ≡ Some address
    pub same : Addr index net ≡ Addr outlet.iface (Family.V4 address)

  pub of_static : (outlet : Outlet) (in_force : Bool) (static : Option Net4) (router : Option Ip4)
      → has_row (static_rows outlet in_force static router) (Addr index net) ≡ true
      → (in_force ≡ true) × OfStatic outlet static
  of_static outlet false static router has = cc
  of_static outlet true None router has = cc
  of_static outlet true (Some address) router has = (
    refl,
    record {
      address = address;
      is_static = refl;
      same = of_address outlet address (or_none _ _ (no_router outlet address router)
          (sym (list_any-append (is_at (row_cmp (Addr index net))) (address_rows outlet address) (router_routes outlet address router)) ∙ has));
    },
  )

  pub record OfStatic6 (outlet : Outlet) (static : Option Net6) : Type 0 where
    pub address : Net6
    pub is_static : static ≡ Some address
    pub same : Addr index net ≡ Addr outlet.iface (Family.V6 address)

  pub of_static6 : (outlet : Outlet) (in_force : Bool) (static : Option Net6) → has_row (static6_rows outlet in_force static) (Addr index net) ≡ true
      → (in_force ≡ true) × OfStatic6 outlet static
  of_static6 outlet false static has = cc
  of_static6 outlet true None has = cc
  of_static6 outlet true (Some address) has = (
    refl,
    record {
      address = address;
      is_static = refl;
      same = of_first outlet (Family.V6 address) (network6_routes outlet address)
          (no_network (nat_lt address.len 128) outlet.iface (Family.V6 (network6_of address)) outlet.metric) has;
    },
  )

  record OfLease (outlet : Outlet) (held : Option LeaseContent) : Type 0 where
    lease : LeaseContent
    is_held : held ≡ Some lease
    same : Addr index net ≡ Addr outlet.iface (Family.V4 lease.net)

  of_lease : (outlet : Outlet) (router : Option Ip4) (held : Option LeaseContent) → has_row (lease_rows outlet router held) (Addr index net) ≡ true
      → OfLease outlet held
  of_lease outlet router None has = cc
  of_lease outlet router (Some lease) has =
      let classless : Option (List ClasslessRoute) = classless_in lease.values in
      let chosen : Option Ip4 = router_for router lease.values in
      record {
        lease = lease;
        is_held = refl;
        same = of_address outlet lease.net (or_none _ _ (no_lease_routes outlet lease.net classless chosen)
            (sym (list_any-append (is_at (row_cmp (Addr index net))) (address_rows outlet lease.net) (lease_routes outlet lease.net classless chosen)) ∙ has));
      }

  -- ---- the items of a DHCPv6 lease

  -- the item is the address
  record IsAddress (outlet : Outlet) (kind : IaKind) (item : Item6) : Type 0 where
    kind_is : kind ≡ Na
    same : Addr index net ≡ Addr outlet.iface (Family.V6 item.net)

  -- the address is the first one of a subnet
  record OfSubnet (outlet : Outlet) (subnet : Option Net6) : Type 0 where
    found : Net6
    is_subnet : subnet ≡ Some found
    same : Addr index net ≡ Addr outlet.iface (Family.V6 (first_address found))

  of_subnet : (outlet : Outlet) (subnet : Option Net6) → has_row (subnet_rows outlet subnet) (Addr index net) ≡ true → OfSubnet outlet subnet
  of_subnet outlet None has = absurd cc
  of_subnet outlet (Some subnet) has = record {
    found = subnet;
    is_subnet = refl;
    same = of_first outlet (Family.V6 (first_address subnet)) (Route outlet.iface (Family.V6 subnet) OnLink outlet.metric ∷ []) refl has;
  }

  -- a share of the prefixes of an IA has its subnet of this prefix, and the address is the first one of it
  record OfShare (iaid : ℕ) (prefix : Net6) (shares : List ShareConf) : Type 0 where
    share : ShareConf
    among : Contains shares share
    of_the_prefixes : share.iaid ≡ iaid
    of : OfSubnet share.outlet (subnet_in prefix share.share)

  same_number : (a b : ℕ) → (a == b) ≡ true → a ≡ b
  same_number a b h = grind (arith, nat_tests)

  later_share : (iaid : ℕ) (prefix : Net6) (share : ShareConf) (shares : List ShareConf) → OfShare iaid prefix shares → OfShare iaid prefix (share ∷ shares)
  later_share iaid prefix share shares of =
      record { share = of.share; among = among_later share shares of.share of.among; of_the_prefixes = of.of_the_prefixes; of = of.of }

  abbrev SharesGive : (prefix : Net6) → List ShareConf → Type 0
  SharesGive prefix shares = has_row (flat_map (share_rows prefix) shares) (Addr index net) ≡ true

  one_more : (iaid : ℕ) (prefix : Net6) (share : ShareConf) (shares : List ShareConf)
      → (SharesGive prefix (shares_of iaid shares) → OfShare iaid prefix shares) → (own : Bool) → (share.iaid == iaid) ≡ own
      → SharesGive prefix (cond own (share ∷ shares_of iaid shares) (shares_of iaid shares)) → OfShare iaid prefix (share ∷ shares)
  one_more iaid prefix share shares others true own here =
      elim (in_either (Addr index net) (share_rows prefix share) (flat_map (share_rows prefix) (shares_of iaid shares)) here) [
        | inl first ↦
            record {
              share = share;
              among = among_first shares share;
              of_the_prefixes = same_number share.iaid iaid own;
              of = of_subnet share.outlet (subnet_in prefix share.share) first;
            }
        | inr later ↦ later_share iaid prefix share shares (others later)
      ]
  one_more iaid prefix share shares others false other later = later_share iaid prefix share shares (others later)

  of_shares : (iaid : ℕ) (prefix : Net6) (shares : List ShareConf) → SharesGive prefix (shares_of iaid shares) → OfShare iaid prefix shares
  of_shares iaid prefix [] has = absurd cc
  of_shares iaid prefix (share ∷ shares) has = one_more iaid prefix share shares (of_shares iaid prefix shares) (share.iaid == iaid) refl has

  -- or the item is such a prefix
  record IsPrefix (iaid : ℕ) (shares : List ShareConf) (kind : IaKind) (item : Item6) : Type 0 where
    kind_is : kind ≡ Pd
    of : OfShare iaid item.net shares

  module _ (outlet : Outlet) (shares : List ShareConf) where
    abbrev GivenBy : (iaid : ℕ) → IaKind → Item6 → Type 0
    GivenBy iaid kind item = IsAddress outlet kind item ⊎ IsPrefix iaid shares kind item

    record OfItem (iaid : ℕ) (kind : IaKind) (items : List Item6) : Type 0 where
      item : Item6
      among : Contains items item
      given : GivenBy iaid kind item

    abbrev rows_by : (iaid : ℕ) → IaKind → Item6 → List HostRow
    rows_by iaid kind item = item_rows outlet (shares_of iaid shares) kind item

    of_item : (iaid : ℕ) (kind : IaKind) (item : Item6) → has_row (rows_by iaid kind item) (Addr index net) ≡ true → GivenBy iaid kind item
    of_item iaid Na item has = inl (record { kind_is = refl; same = of_first outlet (Family.V6 item.net) [] refl has })
    of_item iaid Pd item has = inr (record { kind_is = refl; of = of_shares iaid item.net shares has })

    of_items : (iaid : ℕ) (kind : IaKind) (items : List Item6) → has_row (flat_map (rows_by iaid kind) items) (Addr index net) ≡ true
        → OfItem iaid kind items
    of_items iaid kind [] has = absurd cc
    of_items iaid kind (item ∷ items) has =
        elim (in_either (Addr index net) (rows_by iaid kind item) (flat_map (rows_by iaid kind) items) has) [
          | inl here ↦ record { item = item; among = among_first items item; given = of_item iaid kind item here }
          | inr later ↦
              let is = of_items iaid kind items later in record { item = is.item; among = among_later item items is.item is.among; given = is.given }
        ]

    record OfIa (ias : List IaLeaseContent) : Type 0 where
      ia : IaLeaseContent
      among_ias : Contains ias ia
      of : OfItem ia.iaid ia.kind ia.items

    of_ias : (ias : List IaLeaseContent) → has_row (flat_map (ia_rows outlet shares) ias) (Addr index net) ≡ true → OfIa ias
    of_ias [] has = absurd cc
    of_ias (ia ∷ ias) has =
        elim (in_either (Addr index net) (ia_rows outlet shares ia) (flat_map (ia_rows outlet shares) ias) has) [
          | inl here ↦ record { ia = ia; among_ias = among_first ias ia; of = of_items ia.iaid ia.kind ia.items here }
          | inr later ↦ let is = of_ias ias later in record { ia = is.ia; among_ias = among_later ia ias is.ia is.among_ias; of = is.of }
        ]

    record OfLease6 (held : Option Lease6Content) : Type 0 where
      lease : Lease6Content
      is_held : held ≡ Some lease
      of : OfIa lease.ias

    of_lease6 : (held : Option Lease6Content) → has_row (lease6_rows outlet shares held) (Addr index net) ≡ true → OfLease6 held
    of_lease6 None has = absurd cc
    of_lease6 (Some lease) has = record { lease = lease; is_held = refl; of = of_ias lease.ias has }

  of_local : (outlet : Outlet) (held : Option Ip4) → has_row (local_rows outlet held) (Addr index net) ≡ true
      → (addr : Ip4) × (held ≡ Some addr) × (Addr index net ≡ Addr outlet.iface (Family.V4 (local_net addr)))
  of_local outlet None has = cc
  of_local outlet (Some addr) has = (addr, refl, of_address outlet (local_net addr) has)

  pub same_index : (iface : IfIndex) (other : Net) → Addr index net ≡ Addr iface other → index ≡ iface
  same_index iface other same = λ i. record { number = row_iface (same i) }

  pub same_net : (iface : IfIndex) (other : Net) → Addr index net ≡ Addr iface other → net ≡ other
  same_net iface other same = ap row_net same

  module _ (site : Site) (clean : Type 0) (past : List Entry) where
    since_basis : (addr : Ip4) (last : Option ℕ) → net ≡ Family.V4 (local_net addr) → IsChoice addr → HeldSince (Undisturbed site) site addr last past
        → StrongBasis site net past
    since_basis addr last gives range h =
        record { addr = addr; gives = gives; in_range = range; probed = h.probed; alone = h.alone; apart = h.apart }

    phase_basis : (chosen addr : Ip4) (phase : Phase) → detection.held_in chosen phase ≡ Some addr → net ≡ Family.V4 (local_net addr)
        → IsChoice chosen → Carries (Undisturbed site) site chosen clean phase past → StrongBasis site net past
    phase_basis chosen addr (Probing n due) held gives range c = cc
    phase_basis chosen addr (Announcing due last) held gives range c =
        let same : chosen ≡ addr = cc in since_basis chosen last (gives ∙ ap (λ a. Family.V4 (local_net a)) (sym same)) range c
    phase_basis chosen addr (Held last) held gives range c =
        let same : chosen ≡ addr = cc in since_basis chosen last (gives ∙ ap (λ a. Family.V4 (local_net a)) (sym same)) range c
    phase_basis chosen addr Over held gives range c = cc

    state_basis : (addr : Ip4) (state : State) → held_in state ≡ Some addr → net ≡ Family.V4 (local_net addr)
        → Bears (Undisturbed site) site clean state past → StrongBasis site net past
    state_basis addr Off held gives b = cc
    state_basis addr (Armed due waits fallback) held gives b = cc
    state_basis addr (Chosen conflicts acd) held gives b = phase_basis acd.addr addr acd.phase held gives b.0 b.1
    state_basis addr (Waiting conflicts due) held gives b = cc

  both_up : (up stopped : Bool) → (up && not stopped) ≡ true → (up ≡ true) × (stopped ≡ false)
  both_up true false h = (refl, refl)
  both_up true true h = cc
  both_up false true h = cc
  both_up false false h = cc

  -- An item of a DHCPv6 lease that the interface holds is a prefix, and the address is that of a share of it.
  pub record Delegates (iface : Iface) : Type 0 where
    pub lease : Lease6Content
    pub held : dhcp6.held_of iface.dhcp6 ≡ Some lease
    pub ia : IaLeaseContent
    pub among_ias : Contains lease.ias ia
    pub is_prefix : ia.kind ≡ Pd
    pub item : Item6
    pub among_items : Contains ia.items item
    pub share : ShareConf
    pub configured : Contains iface.managed.conf.dhcp6.shares share
    pub of_the_prefixes : share.iaid ≡ ia.iaid
    pub is_for : index ≡ share.outlet.iface
    pub subnet : Net6
    pub is_subnet : subnet_in item.net share.share ≡ Some subnet
    pub gives : net ≡ Family.V6 (first_address subnet)

  -- `Lease` is what is known of an address that a lease gives, and `Lease6` so of DHCPv6
  module _ (Lease Lease6 : Net → Type 0) (own : List Mac) (start : Bool) (opened : turns.Found) (clean : Type 0) (iface : Iface) (past : List Entry) where
    abbrev site : Site
    site = site_by own start opened iface.managed

    abbrev here : IfIndex
    here = iface.managed.spec.index

    abbrev outlet : Outlet
    outlet = outlet_of iface.managed

    abbrev conf : IfConf
    conf = iface.managed.conf

    abbrev configured_rows : List HostRow
    configured_rows = static_rows outlet (is_in_force iface) conf.address conf.router

    abbrev configured6_rows : List HostRow
    configured6_rows = static6_rows outlet (is_in_force iface) conf.address6

    abbrev leased_rows : List HostRow
    leased_rows = lease_rows outlet conf.router (held_of iface.dhcp4)

    abbrev own_rows : List HostRow
    own_rows = local_rows outlet (held_in iface.local.state)

    abbrev item_rows6 : List HostRow
    item_rows6 = lease6_rows outlet conf.dhcp6.shares (dhcp6.held_of iface.dhcp6)

    abbrev HasRow : List HostRow → Type 0
    HasRow rows = has_row rows (Addr index net) ≡ true

    abbrev Found : Type 0
    Found = (index ≡ here) × (StaticBasis site net past ⊎ (StrongBasis site net past ⊎ (Lease net ⊎ Lease6 net)))

    by_conf : Keeps site clean iface past → HasRow configured_rows → Found
    by_conf k h =
        let g = of_static outlet (is_in_force iface) conf.address conf.router h in
        let on : (iface.up ≡ true) × (iface.stopped ≡ false) = both_up iface.up iface.stopped g.0 in (
          same_index here (Family.V4 g.1.address) g.1.same,
          inl (record {
            is_static = inl (record { address = g.1.address; configured = g.1.is_static; gives = same_net here (Family.V4 g.1.address) g.1.same });
            up = sym (k.carrier on.1) ∙ on.0;
            running = sym k.stopped ∙ on.1;
          }),
        )

    by_conf6 : Keeps site clean iface past → HasRow configured6_rows → Found
    by_conf6 k h =
        let g = of_static6 outlet (is_in_force iface) conf.address6 h in
        let on : (iface.up ≡ true) × (iface.stopped ≡ false) = both_up iface.up iface.stopped g.0 in (
          same_index here (Family.V6 g.1.address) g.1.same,
          inl (record {
            is_static = inr (record { address = g.1.address; configured = g.1.is_static; gives = same_net here (Family.V6 g.1.address) g.1.same });
            up = sym (k.carrier on.1) ∙ on.0;
            running = sym k.stopped ∙ on.1;
          }),
        )

    by_choice : Keeps site clean iface past → HasRow own_rows → Found
    by_choice k h =
        let g = of_local outlet (held_in iface.local.state) h in (
          same_index here (Family.V4 (local_net g.0)) g.2,
          inr (inl (state_basis site clean past g.0 iface.local.state g.1 (same_net here (Family.V4 (local_net g.0)) g.2) k.bears)),
        )

    -- what is known of the lease that is held
    abbrev pub Leases : Type 0
    Leases = (lease : LeaseContent) → held_of iface.dhcp4 ≡ Some lease → Lease (Family.V4 lease.net)

    by_lease : Leases → HasRow leased_rows → Found
    by_lease leases h =
        let g = of_lease outlet conf.router (held_of iface.dhcp4) h in (
          same_index here (Family.V4 g.lease.net) g.same,
          inr (inr (inl (subst Lease (sym (same_net here (Family.V4 g.lease.net) g.same)) (leases g.lease g.is_held)))),
        )

    abbrev pub Leases6 : Type 0
    Leases6 = (lease : Lease6Content) (ia : IaLeaseContent) (item : Item6) → dhcp6.held_of iface.dhcp6 ≡ Some lease → Contains lease.ias ia
        → Contains ia.items item → ia.kind ≡ Na → Lease6 (Family.V6 item.net)

    abbrev pub Given : Type 0
    Given = Found ⊎ Delegates iface

    of_the_item : Leases6 → (g : OfLease6 outlet conf.dhcp6.shares (dhcp6.held_of iface.dhcp6))
        → GivenBy outlet conf.dhcp6.shares g.of.ia.iaid g.of.ia.kind g.of.of.item → Given
    of_the_item leases g (inl a) =
        inl (
          same_index here (Family.V6 g.of.of.item.net) a.same,
          inr (inr (inr (subst Lease6 (sym (same_net here (Family.V6 g.of.of.item.net) a.same))
              (leases g.lease g.of.ia g.of.of.item g.is_held g.of.among_ias g.of.of.among a.kind_is)))),
        )
    of_the_item leases g (inr p) =
        inr (record {
          lease = g.lease;
          held = g.is_held;
          ia = g.of.ia;
          among_ias = g.of.among_ias;
          is_prefix = p.kind_is;
          item = g.of.of.item;
          among_items = g.of.of.among;
          share = p.of.share;
          configured = p.of.among;
          of_the_prefixes = p.of.of_the_prefixes;
          is_for = same_index p.of.share.outlet.iface (Family.V6 (first_address p.of.of.found)) p.of.of.same;
          subnet = p.of.of.found;
          is_subnet = p.of.of.is_subnet;
          gives = same_net p.of.share.outlet.iface (Family.V6 (first_address p.of.of.found)) p.of.of.same;
        })

    by_lease6 : Leases6 → HasRow item_rows6 → Given
    by_lease6 leases h =
        let g = of_lease6 outlet conf.dhcp6.shares (dhcp6.held_of iface.dhcp6) h in of_the_item leases g g.of.of.given

    parted : (first later : List HostRow) → HasRow (first ++ later) → HasRow first ⊎ HasRow later
    parted first later has = in_either (Addr index net) first later has

    by_static : Keeps site clean iface past → HasRow configured_rows ⊎ HasRow configured6_rows → Found
    by_static k (inl four) = by_conf k four
    by_static k (inr six) = by_conf6 k six

    by_dhcp4 : Keeps site clean iface past → Leases → HasRow (configured_rows ++ configured6_rows) ⊎ HasRow leased_rows → Found
    by_dhcp4 k leases (inl static) = by_static k (parted configured_rows configured6_rows static)
    by_dhcp4 k leases (inr leased) = by_lease leases leased

    by_local : Keeps site clean iface past → Leases → HasRow ((configured_rows ++ configured6_rows) ++ leased_rows) ⊎ HasRow own_rows → Found
    by_local k leases (inl other) = by_dhcp4 k leases (parted (configured_rows ++ configured6_rows) leased_rows other)
    by_local k leases (inr choice) = by_choice k choice

    by_all : Keeps site clean iface past → Leases → Leases6
        → HasRow (((configured_rows ++ configured6_rows) ++ leased_rows) ++ own_rows) ⊎ HasRow item_rows6 → Given
    by_all k leases leases6 (inl other) = inl (by_local k leases (parted ((configured_rows ++ configured6_rows) ++ leased_rows) own_rows other))
    by_all k leases leases6 (inr items) = by_lease6 leases6 items

    pub iface_basis : Keeps site clean iface past → Leases → Leases6 → HasRow (iface_rows iface) → Given
    iface_basis k leases leases6 has =
        by_all k leases leases6 (parted (((configured_rows ++ configured6_rows) ++ leased_rows) ++ own_rows) item_rows6 has)
