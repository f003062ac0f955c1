-- The files of a life over devices that tell what they hold and which of their calls fail.
use Rattle.std.specs.Prelude.{◌≡◌, ◌⊎◌, ℕ, bytes_eq, Bool, true, false, List, [], ◌∷◌, ◌++◌, map, flat_map, Option}
use Rattle.std.specs.List.{AllByRecursion, AllPairs, IsDistinct, list_all}
use Rattle.net_types.specs.declared.interface.IfSpec.{IfSpec}
use Rattle.net_types.specs.NameText.{name_text}
use Rattle.world.specs.FileLists.{file_name, file_at}
use Rattle.world.specs.LinkCalls.{Given}
use Rattle.world.specs.NamedLists.{InNameOrder}
use Rattle.world.specs.StoreCalls.{StoreCall, ListedAsides, ReadFile, WroteAside, SyncedAside, RenamedAside, RemovedFile, SettledFiles}
use Rattle.client_model.specs.IfaceSettings.declared.interfaces.Managed.{Managed}
use Rattle.client_model.specs.IfaceSettings.Fitting.{AreManaged}
use Rattle.client_model.specs.ScriptModel.Scripts.{Unlike}
use Rattle.client_model.specs.ClientSettings.{runs_dhcp4}
use Rattle.client_model.specs.ClientSettings6.{runs_dhcp6, some_need_duid}
use Rattle.device_calls.specs.Calls.{Call, store_call}
use Rattle.turn_model.specs.KeptFiles.{Known, Holds, Unknown, Unread, Keeps, Duid, Lease4, Lease6, Resolver, KeptFile, wanted_in, is_left}
use Rattle.turn_model.specs.Loading.{duid_file, lease4_file, lease6_file, resolver_file}
use Rattle.device_calls.specs.Worlds.{World}
use Rattle.turn_model.specs.Foretold.{ran_opening, ran_turn, foretold_life}
use Rattle.turn_model.specs.HostInLife.{Running, running_opened, running_turned, life_run}

-- no two interfaces have one name
abbrev pub AreNamedApart : List Managed → Type 0
AreNamedApart managed = IsDistinct bytes_eq (map (λ m. name_text m.spec.name) managed)

-- so the interfaces of a script
abbrev pub UnlikeAreNamedApart : Type 0
UnlikeAreNamedApart =
    (managed : List Managed) → AreManaged managed → AllPairs Unlike (map (λ m. m.spec) managed) → AreNamedApart managed

-- what is filed, and under which name
pub record Filed : Type 0 where
  pub keeps : Keeps
  pub name : List ℕ

abbrev pub filed_if : (is_kept : Bool) → Keeps → (name : List ℕ) → List Filed
filed_if true keeps name = record { keeps = keeps; name = name } ∷ []
filed_if false keeps name = []

-- the leases of an interface, each where its protocol runs
abbrev pub filed_for : Managed → List Filed
filed_for m =
    filed_if (runs_dhcp4 m.conf) (Lease4 m.spec.index.number) (lease4_file m)
    ++ filed_if (runs_dhcp6 m.conf) (Lease6 m.spec.index.number) (lease6_file m)

-- the DUID, where some interface needs it, the leases, and what the resolver is told
abbrev pub filed_by : (duid : List ℕ) → List Managed → List Filed
filed_by duid managed =
    filed_if (some_need_duid managed) (Duid duid) duid_file
    ++ (flat_map filed_for managed ++ filed_if true Resolver resolver_file)

abbrev pub filed_as : KeptFile → Filed
filed_as file = record { keeps = file.keeps; name = file.name }

-- what the store reads the file as
abbrev pub reads : Running → KeptFile → Option (List ℕ)
reads running file = file_at file.name running.world.store.told.files

-- Where the content of a file is known, this is it.
abbrev pub KnownTruly : Known → (reads : Option (List ℕ)) → Type 0
KnownTruly (Holds content) reads = reads ≡ content
KnownTruly Unknown reads = Unit {0}
KnownTruly Unread reads = Unit {0}

-- what the file is to hold
abbrev pub wanted_of : Running → KeptFile → Option (List ℕ)
wanted_of running file = wanted_in running.life.client.ifaces file.keeps

-- The file is the text of what it keeps, and there is none where it keeps nothing; or it couldn't be read, and is left
-- alone.
abbrev pub IsAsKept : Running → KeptFile → Type 0
IsAsKept running file =
    (reads running file ≡ wanted_of running file)
    ⊎ ((file.known ≡ Unread) × (is_left file.keeps (wanted_of running file) ≡ true))

-- whether a call that is to change files was done
abbrev pub was_done : StoreCall → Bool
was_done (ListedAsides names) = true
was_done (ReadFile name reading) = true
was_done (WroteAside name bytes done) = done
was_done (SyncedAside name done) = done
was_done (RenamedAside name done) = done
was_done (RemovedFile name done) = done
was_done (SettledFiles done) = done

abbrev pub all_done : List Call → Bool
all_done calls = list_all was_done (flat_map store_call calls)

-- After these calls the files are those that are to be kept, with one DUID, and what is known of each is so; where all
-- changes of files were done, each file is as it is to be.
pub record KeepsFiles (managed : List Managed) (calls : List Call) (after : Running) : Type 0 where
  pub duid : List ℕ
  pub filed : map filed_as after.life.files ≡ filed_by duid managed
  pub known : AllByRecursion (λ file. KnownTruly file.known (reads after file)) after.life.files
  pub kept : all_done calls ≡ true → AllByRecursion (IsAsKept after) after.life.files

-- so after the opening, over any store whose files stand in order,
abbrev pub OpeningKeepsFiles : Type 0
OpeningKeepsFiles = (managed : List Managed) (specs : List IfSpec) (world : World) → AreNamedApart managed
    → InNameOrder file_name world.store.told.files
    → KeepsFiles managed (ran_opening managed specs world).calls (running_opened managed specs world)

-- and after every turn
abbrev pub TurnsKeepFiles : Type 0
TurnsKeepFiles =
    (managed : List Managed) (specs : List IfSpec) (world : World) (earlier : List Given) (given : Given)
    → AreNamedApart managed
    → InNameOrder file_name world.store.told.files
    → let before = life_run managed specs world earlier in
    KeepsFiles managed (ran_turn managed before.life before.world given).calls (running_turned managed before given)

-- A store whose files stand in order is left so.
abbrev pub LeavesFilesInOrder : Type 0
LeavesFilesInOrder =
    (managed : List Managed) (specs : List IfSpec) (world : World) → InNameOrder file_name world.store.told.files
    → InNameOrder file_name (foretold_life managed specs world).left.store.told.files
