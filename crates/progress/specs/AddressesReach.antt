-- That the addresses which are held reach the host, where no call of it fails.
use Rattle.std.specs.Prelude.{◌≡◌, true, List, [], IfSome}
use Rattle.std.specs.List.{AllByRecursion}
use Rattle.net_types.specs.declared.address.Net.{Net}
use Rattle.net_types.specs.declared.address.Net.TheVariants.{V4, V6}
use Rattle.net_types.specs.declared.interface.IfSpec.{IfSpec}
use Rattle.world.specs.declared.rows.HostRow.{HostRow}
use Rattle.world.specs.declared.rows.HostRow.TheVariants.{Addr}
use Rattle.world.specs.LinkCalls.{Given}
use Rattle.world.specs.RowOrder.{has_row}
use Rattle.ipv4ll.specs.Table.{held_in}
use Rattle.lease6_text.specs.Leases.{IaLeaseContent}
use Rattle.v4_client.specs.Clients.{held_of}
use Rattle.v6_client.specs.Clients as dhcp6
use Rattle.v6_options.specs.declared.ia.IaKind.TheVariants.{Na}
use Rattle.settings.specs.declared.interfaces.Managed.{Managed}
use Rattle.settings.specs.ManagedRows.{SharesAreManaged}
use Rattle.host_model.specs.HostTable.{InRowOrder, NoneFails, unknown_table}
use Rattle.client_model.specs.declared.interfaces.Iface.{Iface}
use Rattle.client_model.specs.Clients.{rows_of}
use Rattle.client_model.specs.WantedRows.{is_in_force, local_net}
use Rattle.device_calls.specs.Worlds.{World}
use Rattle.turn_model.specs.HostInLife.{Running, running_opened, running_turned, life_run, table_of}

-- The host has the address on the interface.
abbrev pub HasAddress : (rows : List HostRow) → Iface → Net → Type 0
HasAddress rows iface net = has_row rows (Addr iface.managed.spec.index net) ≡ true

-- Each address that was granted for an IA is there. Prefixes aren't addresses.
abbrev pub GrantedAreThere : (rows : List HostRow) → Iface → IaLeaseContent → Type 0
GrantedAreThere rows iface ia = ia.kind ≡ Na → AllByRecursion (λ item. HasAddress rows iface (V6 item.net)) ia.items

-- The addresses of an interface are there: of the leases that it holds, its link-local one, and those configured, while
-- these are in force.
pub record AddressesAreThere (rows : List HostRow) (iface : Iface) : Type 0 where
  pub lease4 : IfSome (held_of iface.dhcp4) (λ lease. HasAddress rows iface (V4 lease.net))
  pub lease6 : IfSome (dhcp6.held_of iface.dhcp6) (λ lease. AllByRecursion (GrantedAreThere rows iface) lease.ias)
  pub local : IfSome (held_in iface.local.state) (λ ip. HasAddress rows iface (V4 (local_net ip)))
  pub static4 : is_in_force iface ≡ true → IfSome iface.managed.conf.address (λ net. HasAddress rows iface (V4 net))
  pub static6 : is_in_force iface ≡ true → IfSome iface.managed.conf.address6 (λ net. HasAddress rows iface (V6 net))

-- so those of all interfaces
abbrev pub AllAreThere : Running → Type 0
AllAreThere running = AllByRecursion (AddressesAreThere running.world.host.told.rows) running.life.client.ifaces

-- so after an opening in which no call of the host failed,
abbrev pub OpeningReachesHost : Type 0
OpeningReachesHost = (managed : List Managed) (specs : List IfSpec) (world : World) → SharesAreManaged managed
    → InRowOrder world.host.told.rows
    → let after = running_opened managed specs world in
    NoneFails managed world.host.failing (rows_of after.life.client) (unknown_table world.host.told) → AllAreThere after

-- and after every such turn, whatever failed before
abbrev pub TurnsReachHost : Type 0
TurnsReachHost = (managed : List Managed) (specs : List IfSpec) (world : World) (earlier : List Given) (given : Given)
    → SharesAreManaged managed → InRowOrder world.host.told.rows
    → let before = life_run managed specs world earlier in
    let after = running_turned managed before given in
    NoneFails managed world.host.failing (rows_of after.life.client) (table_of before) → AllAreThere after

-- So over a host of which no call fails they are there after the opening and after every turn.
abbrev pub AlwaysReachesHost : Type 0
AlwaysReachesHost = (managed : List Managed) (specs : List IfSpec) (world : World) (turns : List Given)
    → SharesAreManaged managed → InRowOrder world.host.told.rows → world.host.failing ≡ []
    → AllAreThere (life_run managed specs world turns)
