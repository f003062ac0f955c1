-- What the opening knows of the files that it read, and that clearing asides leaves the files in order.
use Rattle.std.proofs.Common.{◌≡◌, ℕ, Bool, true, false, List, [], ◌∷◌, ◌++◌, Option, Some, None, refl, sym, ap, ap₂, subst, ◌∙◌}
use Rattle.std.specs.Prelude.{flat_map, if◌then◌else◌}
use Rattle.std.proofs.lemmas.List.{map-append}
use Rattle.net_types.proofs.CaseLaws.{gated}
use Rattle.world.specs.FileLists.{StoreFile, file_name, file_at, drop_file}
use Rattle.world.specs.NamedLists.{InNameOrder}
use Rattle.world.specs.StoreCalls as store
use Rattle.world.specs.StoreCalls.{Reading, reading_of}
use Rattle.world.proofs.NameOrder.{drop_in_order}
use Rattle.client_model.specs.IfaceSettings.declared.interfaces.Managed.{Managed}
use Rattle.client_model.specs.ClientSettings.{runs_dhcp4}
use Rattle.client_model.specs.ClientSettings6.{runs_dhcp6, some_need_duid}
use Rattle.client_model.specs.HostDuid.{host_duid}
use Rattle.device_calls.specs.Calls.{ListAsides, Read, RemoveFile}
use Rattle.device_calls.specs.Programs.{Asks, Done, Then, after}
use Rattle.device_calls.specs.Worlds.{World, Ran, run, fails_store, answer_to, world_with}
use Rattle.device_calls.proofs.Programs.{run_after, ran_both}
use Rattle.turn_model.specs.KeptFiles.{Keeps, Duid, Lease4, Lease6, Resolver, KeptFile}
use Rattle.turn_model.specs.Loading.{duid_file, resolver_file, lease4_file, lease6_file, reading_if, Loaded, loaded, loading_one, loading, FilesLoaded, files_loaded, loading_files, known_by, file_with, files_by, duid_with, files_of}
use Rattle.turn_model.specs.FilesInLife.{KnownTruly, Filed, filed_as, filed_if, filed_for, filed_by}
use Rattle.turn_model.specs.Opening.{removing, clearing_listed, clearing}
use Rattle.turn_model.proofs.Bringing.{files_in}
use Rattle.turn_model.proofs.Keeping.{all_filed, AreKnown}

-- ---- clearing

removing_order : (names : List (List ℕ)) (world : World) → InNameOrder file_name (files_in world)
    → InNameOrder file_name (files_in (run (removing names) world).world)
removing_order [] world order = order
removing_order (name ∷ names) world order =
    removing_order names (world_with (RemoveFile name) (answer_to (RemoveFile name) world) world)
    (gated (InNameOrder file_name) (answer_to (RemoveFile name) world) (drop_file name (files_in world)) (files_in world)
    (drop_in_order file_name name (files_in world) order) order)

listed_order : (names : Option (List (List ℕ))) (world : World) → InNameOrder file_name (files_in world)
    → InNameOrder file_name (files_in (run (clearing_listed names) world).world)
listed_order None world order = order
listed_order (Some []) world order = order
listed_order (Some (name ∷ names)) world order = removing_order (name ∷ names) world order

pub clearing_order : (world : World) → InNameOrder file_name (files_in world) → InNameOrder file_name (files_in (run clearing world).world)
clearing_order world order = listed_order (answer_to ListAsides world) (world_with ListAsides (answer_to ListAsides world) world) order

-- ---- reading

-- the files that reading gave are these, and what is known of them is so
pub record IsRead (wanted : List Filed) (before : List StoreFile) (files : List KeptFile) (world : World) : Type 0 where
  pub same : files_in world ≡ before
  pub filed : all_filed files ≡ wanted
  pub known : AreKnown before files

known_read : (fails : Bool) (content : Option (List ℕ)) → KnownTruly (known_by (if fails then store.Unread else reading_of content)) content
known_read true content = tt
known_read false None = refl
known_read false (Some bytes) = refl

abbrev ReadOne : Bool → Keeps → List ℕ → World → Ran (Option Reading) → Type 0
ReadOne is_kept keeps name world ran = IsRead (filed_if is_kept keeps name) (files_in world) (file_with keeps name ran.result) ran.world

one_read : (is_kept : Bool) (keeps : Keeps) (name : List ℕ) (world : World) → ReadOne is_kept keeps name world (run (reading_if is_kept name) world)
one_read true keeps name world = record { same = refl; filed = refl; known = (known_read (fails_store world.store) (file_at name (files_in world)), tt) }
one_read false keeps name world = record { same = refl; filed = refl; known = tt }

pub all_known : (before : List StoreFile) (a b : List KeptFile) → AreKnown before a → AreKnown before b → AreKnown before (a ++ b)
all_known before [] b known more = more
all_known before (f ∷ a) b known more = (known.0, all_known before a b known.1 more)

joined : (one others : List Filed) (before : List StoreFile) (a b : List KeptFile) (between later : World) → IsRead one before a between
    → IsRead others (files_in between) b later → IsRead (one ++ others) before (a ++ b) later
joined one others before a b between later first rest = record {
  same = rest.same ∙ first.same;
  filed = map-append filed_as a b ∙ ap₂ (λ (x y : List Filed). x ++ y) first.filed rest.filed;
  known = all_known before a b first.known (subst (λ (s : List StoreFile). AreKnown s b) first.same rest.known);
}

-- what was read first, and what then, lead to more
both_ran : {A B C : Type 0} (first : Asks A) (then_that : Asks B) (more : A → B → Asks C) (world : World)
    → run (after first (λ a. after then_that (λ b. more a b))) world
    ≡ ran_both (run first world) (ran_both (run then_that (run first world).world)
    (run (more (run first world).result (run then_that (run first world).world).result) (run then_that (run first world).world).world))
both_ran {A} {B} {C} first then_that more world =
    run_after first (λ a. after then_that (λ b. more a b)) world
    ∙ ap (λ (ran : Ran C). ran_both (run first world) ran) (run_after then_that (λ b. more (run first world).result b) (run first world).world)

abbrev ReadFor : Managed → World → Ran Loaded → Type 0
ReadFor m world ran = IsRead (filed_for m) (files_in world) (files_by ran.result) ran.world

iface_read : (m : Managed) (world : World) → ReadFor m world (run (loading_one m) world)
iface_read m world =
    let ask4 : Asks (Option Reading) = reading_if (runs_dhcp4 m.conf) (lease4_file m) in
    let ask6 : Asks (Option Reading) = reading_if (runs_dhcp6 m.conf) (lease6_file m) in
    let keeps4 : Keeps = Lease4 m.spec.index.number in
    let keeps6 : Keeps = Lease6 m.spec.index.number in
    let first : Ran (Option Reading) = run ask4 world in
    let rest : Ran (Option Reading) = run ask6 first.world in
    subst (ReadFor m world) (sym (both_ran ask4 ask6 (λ lease4 lease6. Done (loaded m lease4 lease6)) world))
    (joined (filed_if (runs_dhcp4 m.conf) keeps4 (lease4_file m)) (filed_if (runs_dhcp6 m.conf) keeps6 (lease6_file m)) (files_in world)
    (file_with keeps4 (lease4_file m) first.result) (file_with keeps6 (lease6_file m) rest.result) first.world rest.world
    (one_read (runs_dhcp4 m.conf) keeps4 (lease4_file m) world) (one_read (runs_dhcp6 m.conf) keeps6 (lease6_file m) first.world))

abbrev ReadAll : List Managed → World → Ran (List Loaded) → Type 0
ReadAll managed world ran = IsRead (flat_map filed_for managed) (files_in world) (flat_map files_by ran.result) ran.world

all_read : (managed : List Managed) (world : World) → ReadAll managed world (run (loading managed) world)
all_read [] world = record { same = refl; filed = refl; known = tt }
all_read (m ∷ managed) world =
    let first : Ran Loaded = run (loading_one m) world in
    let rest : Ran (List Loaded) = run (loading managed) first.world in
    subst (ReadAll (m ∷ managed) world) (sym (both_ran (loading_one m) (loading managed) (λ one more. Done (one ∷ more)) world))
    (joined (filed_for m) (flat_map filed_for managed) (files_in world) (files_by first.result) (flat_map files_by rest.result) first.world rest.world
    (iface_read m world) (all_read managed first.world))

abbrev ReadFiles : List Managed → World → Ran FilesLoaded → Type 0
ReadFiles managed world ran = IsRead (filed_by (duid_with managed ran.result) managed) (files_in world) (files_of managed ran.result) ran.world

pub files_read : (managed : List Managed) (world : World) → ReadFiles managed world (run (loading_files managed) world)
files_read managed world =
    let ask : Asks (Option Reading) = reading_if (some_need_duid managed) duid_file in
    let first : Ran (Option Reading) = run ask world in
    let rest : Ran (List Loaded) = run (loading managed) first.world in
    let resolver : Ran (Option Reading) = run (reading_if true resolver_file) rest.world in
    let keeps : Keeps = Duid (host_duid managed first.result) in
    let leases : List Filed = flat_map filed_for managed in
    let resolver_filed : List Filed = filed_if true Resolver resolver_file in
    let resolver_kept : List KeptFile = file_with Resolver resolver_file resolver.result in
    subst (ReadFiles managed world)
    (sym (both_ran ask (loading managed) (λ duid ifaces. Then (Read resolver_file) (λ reading. Done (files_loaded duid ifaces reading))) world))
    (joined (filed_if (some_need_duid managed) keeps duid_file) (leases ++ resolver_filed) (files_in world)
    (file_with keeps duid_file first.result) (flat_map files_by rest.result ++ resolver_kept) first.world resolver.world
    (one_read (some_need_duid managed) keeps duid_file world)
    (joined leases resolver_filed (files_in first.world) (flat_map files_by rest.result) resolver_kept rest.world resolver.world
    (all_read managed first.world) (one_read true Resolver resolver_file rest.world)))
