-- The rows of an interface have its addresses.
use Rattle.std.proofs.Common.{◌≡◌, Bool, true, false, not, ◌||◌, ◌&&◌, List, [], ◌∷◌, ◌++◌, Option, Some, None, refl, ap, subst, ◌∙◌}
use Rattle.std.specs.Prelude.{filter, flat_map, IfSome}
use Rattle.std.specs.List.{AllByRecursion, list_any}
use Rattle.std.proofs.lemmas.Bool.{false≢true}
use Rattle.std.specs.Ordering.{is_eq}
use Rattle.std.specs.Cmp.{tied_itself}
use Rattle.net_types.specs.declared.address.Ip4.{Ip4}
use Rattle.net_types.specs.declared.address.Net4.{Net4}
use Rattle.net_types.specs.declared.address.Net6.{Net6}
use Rattle.net_types.specs.declared.address.Net.{Net}
use Rattle.net_types.specs.declared.address.Net.TheVariants.{V4, V6}
use Rattle.net_types.specs.declared.interface.IfIndex.{IfIndex}
use Rattle.net_types.proofs.AllLaws.{all_map}
use Rattle.world.specs.declared.rows.HostRow.{HostRow}
use Rattle.world.specs.declared.rows.HostRow.TheVariants.{Addr, Route}
use Rattle.world.specs.RowOrder.{row_cmp, row_cmp_total, has_row}
use Rattle.world.proofs.RowLists.{in_order_has}
use Rattle.ipv4ll.specs.Table.{held_in}
use Rattle.lease_text.specs.Leases.{LeaseContent}
use Rattle.lease6_text.specs.declared.lease.Item6.{Item6}
use Rattle.lease6_text.specs.Leases.{IaLeaseContent, Lease6Content}
use Rattle.v4_client.specs.Clients.{held_of}
use Rattle.v6_client.specs.Clients as dhcp6
use Rattle.v6_options.specs.declared.ia.IaKind.{IaKind}
use Rattle.v6_options.specs.declared.ia.IaKind.TheVariants.{Na}
use Rattle.settings.specs.declared.dhcp6_conf.ShareConf.{ShareConf}
use Rattle.settings.specs.declared.outlet.Outlet.{Outlet}
use Rattle.host_model.specs.Precedence.{outranks, is_kept}
use Rattle.host_model.proofs.HostTableRows.{has_filter}
use Rattle.client_model.specs.declared.interfaces.Iface.{Iface}
use Rattle.client_model.specs.WantedRows.{outlet_of, network_routes, network6_routes, router_routes, static_rows, static6_rows, classless_in, router_for, lease_routes, lease_rows, local_net, local_rows, shares_of, item_rows, ia_rows, lease6_rows, is_in_force, iface_rows, wanted_rows}
use Rattle.progress.specs.AddressesReach.{AddressesAreThere}

-- ---- rows among rows

or_left : (a b : Bool) → a ≡ true → (a || b) ≡ true
or_left true b e = refl
or_left false b e = absurd (false≢true e)

or_right : (a b : Bool) → b ≡ true → (a || b) ≡ true
or_right true b e = refl
or_right false b e = e

front_or : (b p q : Bool) → (p ≡ true → q ≡ true) → (b || p) ≡ true → (b || q) ≡ true
front_or true p q f e = refl
front_or false p q f e = f e

in_front : (xs ys : List HostRow) (row : HostRow) → has_row xs row ≡ true → has_row (xs ++ ys) row ≡ true
in_front [] ys row has = absurd (false≢true has)
in_front (x ∷ xs) ys row has = front_or (is_eq (row_cmp row x)) (has_row xs row) (has_row (xs ++ ys) row) (in_front xs ys row) has

behind : (xs ys : List HostRow) (row : HostRow) → has_row ys row ≡ true → has_row (xs ++ ys) row ≡ true
behind [] ys row has = has
behind (x ∷ xs) ys row has = or_right (is_eq (row_cmp row x)) (has_row (xs ++ ys) row) (behind xs ys row has)

first : (row : HostRow) (rows : List HostRow) → has_row (row ∷ rows) row ≡ true
first row rows = or_left (is_eq (row_cmp row row)) (has_row rows row) (ap is_eq (tied_itself row_cmp_total row))

-- the addresses among some rows are among others
abbrev pub AddressesWithin : (some rows : List HostRow) → Type 0
AddressesWithin some rows = (index : IfIndex) (net : Net) → has_row some (Addr index net) ≡ true → has_row rows (Addr index net) ≡ true

front_within : (xs ys rows : List HostRow) → AddressesWithin (xs ++ ys) rows → AddressesWithin xs rows
front_within xs ys rows all index net has = all index net (in_front xs ys (Addr index net) has)

back_within : (xs ys rows : List HostRow) → AddressesWithin (xs ++ ys) rows → AddressesWithin ys rows
back_within xs ys rows all index net has = all index net (behind xs ys (Addr index net) has)

-- the addresses that each element gives
pub each_within : {A : Type 0} (f : A → List HostRow) (xs : List A) (rows : List HostRow) → AddressesWithin (flat_map f xs) rows
    → AllByRecursion (λ x. AddressesWithin (f x) rows) xs
each_within f [] rows all = tt
each_within f (x ∷ xs) rows all =
    (front_within (f x) (flat_map f xs) rows all, each_within f xs rows (back_within (f x) (flat_map f xs) rows all))

-- ---- the rows of a part

module _ (outlet : Outlet) (rows : List HostRow) where
  -- the host has an address at the outlet
  abbrev Has : Net → Type 0
  Has net = has_row rows (Addr outlet.iface net) ≡ true

  heads : (net : Net) (more : List HostRow) → AddressesWithin (Addr outlet.iface net ∷ more) rows → Has net
  heads net more all = all outlet.iface net (first (Addr outlet.iface net) more)

  lease_there : (router : Option Ip4) (held : Option LeaseContent) → AddressesWithin (lease_rows outlet router held) rows
      → IfSome held (λ lease. Has (V4 lease.net))
  lease_there router None all = tt
  lease_there router (Some lease) all =
      heads (V4 lease.net) (network_routes outlet lease.net ++ lease_routes outlet lease.net (classless_in lease.values) (router_for router lease.values)) all

  local_there : (held : Option Ip4) → AddressesWithin (local_rows outlet held) rows → IfSome held (λ ip. Has (V4 (local_net ip)))
  local_there None all = tt
  local_there (Some ip) all = heads (V4 (local_net ip)) (network_routes outlet (local_net ip)) all

  static_there : (address : Option Net4) (router : Option Ip4) → AddressesWithin (static_rows outlet true address router) rows
      → IfSome address (λ net. Has (V4 net))
  static_there None router all = tt
  static_there (Some net) router all = heads (V4 net) (network_routes outlet net ++ router_routes outlet net router) all

  static6_there : (address : Option Net6) → AddressesWithin (static6_rows outlet true address) rows → IfSome address (λ net. Has (V6 net))
  static6_there None all = tt
  static6_there (Some net) all = heads (V6 net) (network6_routes outlet net) all

  items_there : (shares : List ShareConf) (items : List Item6) → AddressesWithin (flat_map (item_rows outlet shares Na) items) rows
      → AllByRecursion (λ item. Has (V6 item.net)) items
  items_there shares items all =
      all_map (λ (item : Item6). AddressesWithin (item_rows outlet shares Na item) rows) (λ (item : Item6). Has (V6 item.net))
      (λ item within. heads (V6 item.net) [] within) items (each_within (item_rows outlet shares Na) items rows all)

  abbrev Granted : IaLeaseContent → Type 0
  Granted ia = ia.kind ≡ Na → AllByRecursion (λ item. Has (V6 item.net)) ia.items

  ia_there : (shares : List ShareConf) (ia : IaLeaseContent) → AddressesWithin (ia_rows outlet shares ia) rows → Granted ia
  ia_there shares ia all is_na =
      items_there (shares_of ia.iaid shares) ia.items
      (subst (λ (kind : IaKind). AddressesWithin (flat_map (item_rows outlet (shares_of ia.iaid shares) kind) ia.items) rows) is_na all)

  lease6_there : (shares : List ShareConf) (held : Option Lease6Content) → AddressesWithin (lease6_rows outlet shares held) rows
      → IfSome held (λ lease. AllByRecursion Granted lease.ias)
  lease6_there shares None all = tt
  lease6_there shares (Some lease) all =
      all_map (λ (ia : IaLeaseContent). AddressesWithin (ia_rows outlet shares ia) rows) Granted (ia_there shares) lease.ias
      (each_within (ia_rows outlet shares) lease.ias rows all)

-- ---- an interface

module _ (rows : List HostRow) (iface : Iface) (all : AddressesWithin (iface_rows iface) rows) where
  abbrev outlet : Outlet
  outlet = outlet_of iface.managed

  abbrev of_static : Bool → List HostRow
  of_static in_force = static_rows outlet in_force iface.managed.conf.address iface.managed.conf.router

  abbrev of_static6 : Bool → List HostRow
  of_static6 in_force = static6_rows outlet in_force iface.managed.conf.address6

  abbrev of_lease : List HostRow
  of_lease = lease_rows outlet iface.managed.conf.router (held_of iface.dhcp4)

  abbrev of_local : List HostRow
  of_local = local_rows outlet (held_in iface.local.state)

  abbrev of_lease6 : List HostRow
  of_lease6 = lease6_rows outlet iface.managed.conf.dhcp6.shares (dhcp6.held_of iface.dhcp6)

  abbrev statics : List HostRow
  statics = of_static (is_in_force iface) ++ of_static6 (is_in_force iface)

  to_local : AddressesWithin ((statics ++ of_lease) ++ of_local) rows
  to_local = front_within ((statics ++ of_lease) ++ of_local) of_lease6 rows all

  to_lease : AddressesWithin (statics ++ of_lease) rows
  to_lease = front_within (statics ++ of_lease) of_local rows to_local

  to_static : AddressesWithin statics rows
  to_static = front_within statics of_lease rows to_lease

  pub addresses_there : AddressesAreThere rows iface
  addresses_there = record {
    lease4 = lease_there outlet rows iface.managed.conf.router (held_of iface.dhcp4) (back_within statics of_lease rows to_lease);
    lease6 = lease6_there outlet rows iface.managed.conf.dhcp6.shares (dhcp6.held_of iface.dhcp6)
        (back_within ((statics ++ of_lease) ++ of_local) of_lease6 rows all);
    local = local_there outlet rows (held_in iface.local.state) (back_within (statics ++ of_lease) of_local rows to_local);
    static4 = λ e. static_there outlet rows iface.managed.conf.address iface.managed.conf.router
        (subst (λ (b : Bool). AddressesWithin (of_static b) rows) e
        (front_within (of_static (is_in_force iface)) (of_static6 (is_in_force iface)) rows to_static));
    static6 = λ e. static6_there outlet rows iface.managed.conf.address6
        (subst (λ (b : Bool). AddressesWithin (of_static6 b) rows) e
        (back_within (of_static (is_in_force iface)) (of_static6 (is_in_force iface)) rows to_static));
  }

-- ---- no route takes the place of an address

unranked : (index : IfIndex) (net : Net) (rows : List HostRow) → list_any (λ other. outranks other (Addr index net)) rows ≡ false
unfolding outranks
unranked index net [] = refl
unranked index net (Addr i a ∷ rows) = unranked index net rows
unranked index net (Route i a v p ∷ rows) = unranked index net rows

both : (a b : Bool) → a ≡ true → b ≡ true → (a && b) ≡ true
both true b e f = f
both false b e f = absurd (false≢true e)

pub wanted_too : (ifaces : List Iface) → AddressesWithin (flat_map iface_rows ifaces) (wanted_rows ifaces)
wanted_too ifaces index net given =
    let rows : List HostRow = flat_map iface_rows ifaces in
    in_order_has (filter (is_kept rows) rows) (Addr index net)
    ∙ has_filter (is_kept rows) rows (Addr index net)
    ∙ both (is_kept rows (Addr index net)) (has_row rows (Addr index net)) (ap not (unranked index net rows)) given
