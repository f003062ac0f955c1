-- Where a route can lead, and the routes of a lease.
use Rattle.std.specs.Prelude.{◌≤◌}
use Rattle.net_types.specs.declared.address.Net4.{Net4}
use Rattle.net_types.specs.declared.address.Net.TheVariants as Family
use Rattle.v4_options.specs.declared.routes.ClasslessRoute.{ClasslessRoute}
use Rattle.std.specs.Prelude.{Option, List}
use Rattle.net_types.specs.declared.address.Ip4.{Ip4}
use Rattle.world.specs.declared.rows.HostRow.{HostRow}
use Rattle.world.specs.Rows.{IsNetwork}
use Rattle.lease_text.specs.Leases.{LeaseContent}
use Rattle.settings.specs.declared.outlet.Outlet.{Outlet}
use Rattle.client_model.specs.WantedRows.{classless_in, lease_routes, router_for}

-- a network: no bit is set past its prefix
pub record IsDestination (net : Net4) : Type 0 where
  pub prefix : net.len ≤ 32
  pub clear : IsNetwork (Family.V4 net)

abbrev pub HasDestination : ClasslessRoute → Type 0
HasDestination route = IsDestination route.dest

-- the routes that a lease brings beside its network; `fixed` is the interface's static router
abbrev pub routes_by : Outlet → (fixed : Option Ip4) → LeaseContent → List HostRow
routes_by outlet fixed lease = lease_routes outlet lease.net (classless_in lease.values) (router_for fixed lease.values)
