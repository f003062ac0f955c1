-- What the opening reads of the files that a life keeps.
use Rattle.std.specs.Prelude.{ℕ, Bool, true, false, List, [], ◌∷◌, ◌++◌, codes, flat_map, map, Option, Some, None, option_and_then}
use Rattle.net_types.specs.NameText.{name_text}
use Rattle.world.specs.StoreCalls as store
use Rattle.world.specs.StoreCalls.{Reading}
use Rattle.client_model.specs.IfaceSettings.declared.interfaces.Managed.{Managed}
use Rattle.client_model.specs.ClientSettings.{runs_dhcp4}
use Rattle.client_model.specs.ClientSettings6.{runs_dhcp6, some_need_duid}
use Rattle.client_model.specs.HostDuid.{host_duid}
use Rattle.client_model.specs.KeptLeases.{Beginning, kept_by}
use Rattle.client_model.specs.KeptLeases6.{kept6_by}
use Rattle.device_calls.specs.Calls.{Read}
use Rattle.device_calls.specs.Programs.{Asks, Done, Then, after}
use Rattle.turn_model.specs.KeptFiles.{Known, Holds, Unread, Keeps, Duid, Lease4, Lease6, Resolver, KeptFile}

-- ---- the names of the files

abbrev pub duid_file : List ℕ
duid_file = codes "duid"

abbrev pub resolver_file : List ℕ
resolver_file = codes "resolv.conf"

abbrev pub lease4_file : Managed → List ℕ
lease4_file managed = name_text managed.spec.name ++ codes ".lease4"

abbrev pub lease6_file : Managed → List ℕ
lease6_file managed = name_text managed.spec.name ++ codes ".lease6"

-- ---- what is read: the DUID where some interface needs it, each interface's leases where their protocols run, and
-- what the resolver is told

abbrev pub reading_if : (is_kept : Bool) → (name : List ℕ) → Asks (Option Reading)
reading_if true name = Then (Read name) (λ reading. Done (Some reading))
reading_if false name = Done None

-- a managed interface, and what reading the files of its leases gave
pub record Loaded : Type 0 where
  pub managed : Managed
  pub lease4 : Option Reading
  pub lease6 : Option Reading

abbrev pub loaded : Managed → (lease4 lease6 : Option Reading) → Loaded
loaded managed lease4 lease6 = record { managed = managed; lease4 = lease4; lease6 = lease6 }

abbrev pub loading_one : Managed → Asks Loaded
loading_one managed =
    after (reading_if (runs_dhcp4 managed.conf) (lease4_file managed)) (λ lease4.
    after (reading_if (runs_dhcp6 managed.conf) (lease6_file managed)) (λ lease6. Done (loaded managed lease4 lease6)))

-- one interface after another
abbrev pub loading : List Managed → Asks (List Loaded)
loading [] = Done []
loading (managed ∷ others) = after (loading_one managed) (λ first. after (loading others) (λ rest. Done (first ∷ rest)))

-- what reading the files gave
pub record FilesLoaded : Type 0 where
  pub duid : Option Reading
  pub ifaces : List Loaded
  pub resolver : Reading

abbrev pub files_loaded : Option Reading → List Loaded → (resolver : Reading) → FilesLoaded
files_loaded duid ifaces resolver = record { duid = duid; ifaces = ifaces; resolver = resolver }

abbrev pub loading_files : List Managed → Asks FilesLoaded
loading_files managed =
    after (reading_if (some_need_duid managed) duid_file) (λ duid.
    after (loading managed) (λ ifaces.
    Then (Read resolver_file) (λ resolver. Done (files_loaded duid ifaces resolver))))

-- ---- what is known then

abbrev pub known_by : Reading → Known
known_by (store.Found bytes) = Holds (Some bytes)
known_by store.Missing = Holds None
known_by store.Unread = Unread

-- a file that was read
abbrev pub file_with : Keeps → (name : List ℕ) → Option Reading → List KeptFile
file_with keeps name None = []
file_with keeps name (Some reading) = record { keeps = keeps; name = name; known = known_by reading } ∷ []

abbrev pub files_by : Loaded → List KeptFile
files_by one =
    file_with (Lease4 one.managed.spec.index.number) (lease4_file one.managed) one.lease4
    ++ file_with (Lease6 one.managed.spec.index.number) (lease6_file one.managed) one.lease6

abbrev pub duid_with : List Managed → FilesLoaded → List ℕ
duid_with managed files = host_duid managed files.duid

-- that of the resolver is the last
abbrev pub files_of : List Managed → FilesLoaded → List KeptFile
files_of managed files =
    file_with (Duid (duid_with managed files)) duid_file files.duid
    ++ (flat_map files_by files.ifaces ++ file_with Resolver resolver_file (Some files.resolver))

-- ---- how the interfaces begin

abbrev pub beginning_of : (duid : List ℕ) → Loaded → Beginning
beginning_of duid one = record {
  managed = one.managed;
  duid = duid;
  kept4 = option_and_then (kept_by one.managed.spec) one.lease4;
  kept6 = option_and_then (kept6_by one.managed.spec) one.lease6;
}

abbrev pub beginnings_of : List Managed → FilesLoaded → List Beginning
beginnings_of managed files = map (beginning_of (duid_with managed files)) files.ifaces
