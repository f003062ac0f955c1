-- That the leases which are kept reach their files, and what the interfaces tell the resolver its file, where no change
-- of files fails.
use Rattle.std.specs.Prelude.{◌≡◌, nat_eq, true, List, map, Some, IfSome}
use Rattle.std.specs.List.{AllByRecursion, IsDistinct}
use Rattle.net_types.specs.declared.interface.IfSpec.{IfSpec}
use Rattle.lease_text.specs.LeaseLines.{lease4_text}
use Rattle.lease6_text.specs.LeaseLines.{lease6_text}
use Rattle.world.specs.FileLists.{StoreFile, file_name, file_at}
use Rattle.world.specs.LinkCalls.{Given}
use Rattle.world.specs.NamedLists.{InNameOrder}
use Rattle.settings.specs.declared.interfaces.Managed.{Managed}
use Rattle.client_model.specs.declared.interfaces.Iface.{Iface}
use Rattle.client_model.specs.ClientSettings.{runs_dhcp4}
use Rattle.client_model.specs.ClientSettings6.{runs_dhcp6}
use Rattle.client_model.specs.ResolverParts.{resolver_wanted}
use Rattle.device_calls.specs.Worlds.{World}
use Rattle.turn_model.specs.FilesInLife.{AreNamedApart, all_done}
use Rattle.turn_model.specs.Foretold.{ran_opening, ran_turn}
use Rattle.turn_model.specs.HostInLife.{Running, running_opened, running_turned, life_run}
use Rattle.turn_model.specs.Loading.{lease4_file, lease6_file, resolver_file}

-- no two interfaces have one number
abbrev pub AreNumberedApart : List Managed → Type 0
AreNumberedApart managed = IsDistinct nat_eq (map (λ m. m.spec.index.number) managed)

-- The file of the lease that an interface keeps is the lease's text, where its protocol runs. The lease that it
-- holds is the one that it keeps.
abbrev pub Lease4IsFiled : (files : List StoreFile) → Iface → Type 0
Lease4IsFiled files iface = runs_dhcp4 iface.managed.conf ≡ true
    → IfSome iface.dhcp4.kept (λ lease. file_at (lease4_file iface.managed) files ≡ Some (lease4_text lease))

abbrev pub Lease6IsFiled : (files : List StoreFile) → Iface → Type 0
Lease6IsFiled files iface = runs_dhcp6 iface.managed.conf ≡ true
    → IfSome iface.dhcp6.kept (λ lease. file_at (lease6_file iface.managed) files ≡ Some (lease6_text lease))

-- The resolver's file is what the interfaces tell it, and there is none where they tell it nothing.
pub record FilesAreThere (after : Running) : Type 0 where
  pub leases4 : AllByRecursion (Lease4IsFiled after.world.store.told.files) after.life.client.ifaces
  pub leases6 : AllByRecursion (Lease6IsFiled after.world.store.told.files) after.life.client.ifaces
  pub resolver : file_at resolver_file after.world.store.told.files ≡ resolver_wanted after.life.client.ifaces

-- so after an opening in which each call that was to change files was done,
abbrev pub OpeningReachesFiles : Type 0
OpeningReachesFiles = (managed : List Managed) (specs : List IfSpec) (world : World) → AreNamedApart managed
    → AreNumberedApart managed → InNameOrder file_name world.store.told.files
    → all_done (ran_opening managed specs world).calls ≡ true → FilesAreThere (running_opened managed specs world)

-- and after every such turn, whatever failed before
abbrev pub TurnsReachFiles : Type 0
TurnsReachFiles = (managed : List Managed) (specs : List IfSpec) (world : World) (earlier : List Given) (given : Given)
    → AreNamedApart managed → AreNumberedApart managed → InNameOrder file_name world.store.told.files
    → let before = life_run managed specs world earlier in
    all_done (ran_turn managed before.life before.world given).calls ≡ true
    → FilesAreThere (running_turned managed before given)
