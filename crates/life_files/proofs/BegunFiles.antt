-- What was begun of the files, as the code asks it.
use Rattle.std.proofs.Common.{ℕ, ◌≡◌, ◌+◌, ◌<◌, ◌≤◌, Bool, true, false, cond, List, [], ◌∷◌, length, get_or, set, drop, Option, Some, None, refl, sym, ap, subst, ◌∙◌, arith}
use Rattle.std.proofs.lemmas.List.{drop_all, drop-set-lt}
use Rattle.std.specs.Prelude.{map, String}
use Rattle.std.specs.Global.{Global}
use Rattle.std.specs.String.{string_bytes}
use Rattle.world.specs.StoreCalls.{Reading}
use Rattle.settings.specs.declared.interfaces.Managed.{Managed}
use Rattle.client_model.specs.declared.interfaces.Iface.{Iface}
use Rattle.client_model.specs.ClientSettings.{runs_dhcp4}
use Rattle.client_model.specs.ClientSettings6.{runs_dhcp6, some_need_duid}
use Rattle.client_model.specs.KeptLeases.{Beginning}
use Rattle.device_calls.specs.Calls.{ListAsides, Read, WriteAside, SyncAside, RenameAside, RemoveFile, Settle}
use Rattle.device_calls.specs.Programs.{Asks, Done, Then, after}
use Rattle.device_calls.specs.Worlds.{Seen}
use Rattle.device_calls.specs.Does.{Does}
use Rattle.device_calls.specs.Fronts.{HasBegun}
use Rattle.device_calls.proofs.Begun.{first_front, begun_first, begun_later, begun_ask, begun_next}
use Rattle.turn_model.specs.KeptFiles.{KeptFile, if_done, bringing, is_settled, wanted_in, known_after, keeping_one, keeping}
use Rattle.turn_model.specs.Loading.{reading_if, duid_file, resolver_file, lease4_file, lease6_file, Loaded, loaded, loading_one, loading, files_loaded, loading_files}
use Rattle.turn_model.specs.Opening.{removing, clearing_listed, clearing}
use Rattle.life_files.specs.Loading.{loading_own, LoadsOwn}
use Rattle.life_devices.proofs.Begins.{leads_on, begun_wider, one_dropped}
use Rattle.life_files.proofs.Bringing.{settling, placing, syncing}
use Rattle.life_files.proofs.KeepingSteps.{brought}

-- ---- a file that is brought to what it is to hold

module _ {old new : Seen} (name : List ℕ) where
  pub written_begun : (bytes : List ℕ) → HasBegun (Then (WriteAside name bytes) Done) old new → HasBegun (bringing name (Some bytes)) old new
  written_begun bytes begun = begun_ask (WriteAside name bytes) (λ written. if_done written (syncing name)) old new begun

  pub synced_begun : HasBegun (Then (SyncAside name) Done) old new → HasBegun (syncing name) old new
  synced_begun begun = begun_ask (SyncAside name) (λ synced. if_done synced (placing name)) old new begun

  pub renamed_begun : HasBegun (Then (RenameAside name) Done) old new → HasBegun (placing name) old new
  renamed_begun begun = begun_ask (RenameAside name) (λ renamed. if_done renamed settling) old new begun

  pub removed_begun : HasBegun (Then (RemoveFile name) Done) old new → HasBegun (bringing name None) old new
  removed_begun begun = begun_ask (RemoveFile name) (λ removed. if_done removed settling) old new begun

module _ {old mid new : Seen} {t u : List ℕ} (name : List ℕ) where
  pub written_later : (bytes : List ℕ) (done : Bool) → done ≡ true → Does (Then (WriteAside name bytes) Done) done old mid t u → HasBegun (syncing name) mid new
      → HasBegun (bringing name (Some bytes)) old new
  written_later bytes done is did begun =
      leads_on (WriteAside name bytes) (λ written. if_done written (syncing name)) done (syncing name) old mid new t u
      (ap (λ (d : Bool). if_done d (syncing name)) is) did begun

  pub synced_later : (done : Bool) → done ≡ true → Does (Then (SyncAside name) Done) done old mid t u → HasBegun (placing name) mid new
      → HasBegun (syncing name) old new
  synced_later done is did begun =
      leads_on (SyncAside name) (λ synced. if_done synced (placing name)) done (placing name) old mid new t u
      (ap (λ (d : Bool). if_done d (placing name)) is) did begun

  pub renamed_later : (done : Bool) → done ≡ true → Does (Then (RenameAside name) Done) done old mid t u → HasBegun settling mid new
      → HasBegun (placing name) old new
  renamed_later done is did begun =
      leads_on (RenameAside name) (λ renamed. if_done renamed settling) done settling old mid new t u (ap (λ (d : Bool). if_done d settling) is) did begun

  pub removed_later : (done : Bool) → done ≡ true → Does (Then (RemoveFile name) Done) done old mid t u → HasBegun settling mid new
      → HasBegun (bringing name None) old new
  removed_later done is did begun =
      leads_on (RemoveFile name) (λ removed. if_done removed settling) done settling old mid new t u (ap (λ (d : Bool). if_done d settling) is) did begun

pub kept_begun : (wanted held : Option (List ℕ)) (file : KeptFile) (name : List ℕ) (settled : Bool) (old new : Seen) → held ≡ wanted → name ≡ file.name
    → settled ≡ is_settled file.keeps file.known held → settled ≡ false → HasBegun (bringing name held) old new → HasBegun (keeping_one wanted file) old new
kept_begun wanted held file name settled old new same name_is is so begun =
    subst (λ (w : Option (List ℕ)). HasBegun (keeping_one w file) old new) same
    (subst (λ (b : Bool). HasBegun (cond b (Done file) (brought held file)) old new) (sym (sym is ∙ so))
    (begun_first (bringing file.name held) (λ done. Done (record file { known = known_after held done })) old new
    (subst (λ (n : List ℕ). HasBegun (bringing n held) old new) name_is begun)))

-- ---- all files

pub keeping_begun : (ifaces : List Iface) (files : List KeptFile) (i : ℕ) (d : KeptFile) (old new : Seen) → i < length files
    → HasBegun (keeping_one (wanted_in ifaces (get_or files i d).keeps) (get_or files i d)) old new → HasBegun (keeping ifaces (drop i files)) old new
keeping_begun ifaces files i d old new lt begun =
    let file : KeptFile = get_or files i d in
    subst (λ (fs : List KeptFile). HasBegun (keeping ifaces fs) old new) (sym (one_dropped files i d lt))
    (begun_first (keeping_one (wanted_in ifaces file.keeps) file)
    (λ first. after (keeping ifaces (drop (i + 1) files)) (λ rest. Done (first ∷ rest))) old new begun)

pub keeping_later : (ifaces : List Iface) (files : List KeptFile) (i : ℕ) (d next : KeptFile) (old mid new : Seen) (t u : List ℕ) → i < length files
    → Does (keeping_one (wanted_in ifaces (get_or files i d).keeps) (get_or files i d)) next old mid t u
    → HasBegun (keeping ifaces (drop (i + 1) (set files i next))) mid new → HasBegun (keeping ifaces (drop i files)) old new
keeping_later ifaces files i d next old mid new t u lt one begun =
    let file : KeptFile = get_or files i d in
    let later : HasBegun (keeping ifaces (drop (i + 1) files)) mid new =
    subst (λ (fs : List KeptFile). HasBegun (keeping ifaces fs) mid new) (drop-set-lt (i + 1) files i next (omega arith)) begun in
    subst (λ (fs : List KeptFile). HasBegun (keeping ifaces fs) old new) (sym (one_dropped files i d lt))
    (begun_later (keeping_one (wanted_in ifaces file.keeps) file)
    (λ first. after (keeping ifaces (drop (i + 1) files)) (λ rest. Done (first ∷ rest))) next old mid new t u one
    (begun_first (keeping ifaces (drop (i + 1) files)) (λ rest. Done (next ∷ rest)) mid new later))

-- ---- asides

pub removing_begun : (names : List (String Global)) (i : ℕ) (d name : String Global) (old new : Seen) → name ≡ get_or names i d → i < length names
    → HasBegun (Then (RemoveFile (string_bytes name)) Done) old new → HasBegun (removing (map string_bytes (drop i names))) old new
removing_begun names i d name old new is lt begun =
    subst (λ (ns : List (String Global)). HasBegun (removing (map string_bytes ns)) old new) (sym (one_dropped names i d lt))
    (begun_ask (RemoveFile (string_bytes (get_or names i d))) (λ done. removing (map string_bytes (drop (i + 1) names))) old new
    (subst (λ (n : String Global). HasBegun (Then (RemoveFile (string_bytes n)) Done) old new) is begun))

pub removing_later : (names : List (String Global)) (i : ℕ) (d name : String Global) (done : Bool) (old mid new : Seen) (t u : List ℕ) → name ≡ get_or names i d
    → i < length names
    → Does (Then (RemoveFile (string_bytes name)) Done) done old mid t u
    → HasBegun (removing (map string_bytes (drop (i + 1) names))) mid new → HasBegun (removing (map string_bytes (drop i names))) old new
removing_later names i d name done old mid new t u is lt one begun =
    subst (λ (ns : List (String Global)). HasBegun (removing (map string_bytes ns)) old new) (sym (one_dropped names i d lt))
    (begun_next (RemoveFile (string_bytes (get_or names i d))) (λ done. removing (map string_bytes (drop (i + 1) names))) done old mid new t u
    (subst (λ (n : String Global). Does (Then (RemoveFile (string_bytes n)) Done) done old mid t u) is one) begun)

pub removing_settles : (names : List (String Global)) (i : ℕ) (old new : Seen) → length names ≤ i → HasBegun (Then Settle Done) old new
    → HasBegun (removing (map string_bytes (drop i names))) old new
removing_settles names i old new le begun =
    subst (λ (ns : List (String Global)). HasBegun (removing (map string_bytes ns)) old new) (sym (drop_all i names le))
    (begun_ask Settle (λ done. Done tt) old new begun)

pub some_begun : (names : List (String Global)) (old new : Seen) → (names ≡ [] → ⊥) → HasBegun (removing (map string_bytes names)) old new
    → HasBegun (clearing_listed (Some (map string_bytes names))) old new
some_begun [] old new some begun = absurd (some refl)
some_begun (name ∷ names) old new some begun = begun

pub cleared_later : (listed : Option (List (List ℕ))) (names : List (List ℕ)) (old mid new : Seen) (t u : List ℕ) → listed ≡ Some names
    → Does (Then ListAsides Done) listed old mid t u → HasBegun (clearing_listed (Some names)) mid new → HasBegun clearing old new
cleared_later listed names old mid new t u is did begun =
    begun_next ListAsides clearing_listed (Some names) old mid new t u
    (subst (λ (ns : Option (List (List ℕ))). Does (Then ListAsides Done) ns old mid t u) is did) begun

-- ---- what the opening reads

pub reads_begun : (is_kept : Bool) (name : List ℕ) (old new : Seen) → is_kept ≡ true → HasBegun (Then (Read name) Done) old new
    → HasBegun (reading_if is_kept name) old new
reads_begun is_kept name old new some begun =
    subst (λ (b : Bool). HasBegun (reading_if b name) old new) (sym some) (begun_ask (Read name) (λ reading. Done (Some reading)) old new begun)

module _ (managed : Managed) (runs4 : Bool) (name4 : List ℕ) (is4 : runs4 ≡ runs_dhcp4 managed.conf) (named4 : name4 ≡ lease4_file managed) where
  pub lease4_begun : (old new : Seen) → HasBegun (reading_if runs4 name4) old new → HasBegun (loading_one managed) old new
  lease4_begun old new begun =
      begun_first (reading_if (runs_dhcp4 managed.conf) (lease4_file managed))
      (λ l4. after (reading_if (runs_dhcp6 managed.conf) (lease6_file managed)) (λ l6. Done (loaded managed l4 l6))) old new
      (subst (λ (asks : Asks (Option Reading)). HasBegun asks old new) (λ i. reading_if (is4 i) (named4 i)) begun)

  pub lease6_begun : (runs6 : Bool) (name6 : List ℕ) (lease4 : Option Reading) (old mid new : Seen) (t u : List ℕ) → runs6 ≡ runs_dhcp6 managed.conf
      → name6 ≡ lease6_file managed
      → Does (reading_if runs4 name4) lease4 old mid t u → HasBegun (reading_if runs6 name6) mid new → HasBegun (loading_one managed) old new
  lease6_begun runs6 name6 lease4 old mid new t u is6 named6 did begun =
      begun_later (reading_if (runs_dhcp4 managed.conf) (lease4_file managed))
      (λ l4. after (reading_if (runs_dhcp6 managed.conf) (lease6_file managed)) (λ l6. Done (loaded managed l4 l6))) lease4 old mid new t u
      (subst (λ (asks : Asks (Option Reading)). Does asks lease4 old mid t u) (λ i. reading_if (is4 i) (named4 i)) did)
      (begun_first (reading_if (runs_dhcp6 managed.conf) (lease6_file managed)) (λ l6. Done (loaded managed lease4 l6)) mid new
      (subst (λ (asks : Asks (Option Reading)). HasBegun asks mid new) (λ i. reading_if (is6 i) (named6 i)) begun))

pub loading_begun : (managed : List Managed) (i : ℕ) (m : Managed) (old new : Seen) → m ≡ get_or managed i m → i < length managed
    → HasBegun (loading_one m) old new → HasBegun (loading (drop i managed)) old new
loading_begun managed i m old new is lt begun =
    subst (λ (ms : List Managed). HasBegun (loading ms) old new) (sym (one_dropped managed i m lt))
    (begun_first (loading_one (get_or managed i m)) (λ first. after (loading (drop (i + 1) managed)) (λ rest. Done (first ∷ rest))) old new
    (subst (λ (here : Managed). HasBegun (loading_one here) old new) is begun))

pub loading_later : (managed : List Managed) (i : ℕ) (m : Managed) (first : Loaded) (old mid new : Seen) (t u : List ℕ) → m ≡ get_or managed i m
    → i < length managed
    → Does (loading_one m) first old mid t u → HasBegun (loading (drop (i + 1) managed)) mid new → HasBegun (loading (drop i managed)) old new
loading_later managed i m first old mid new t u is lt one begun =
    subst (λ (ms : List Managed). HasBegun (loading ms) old new) (sym (one_dropped managed i m lt))
    (begun_later (loading_one (get_or managed i m)) (λ first. after (loading (drop (i + 1) managed)) (λ rest. Done (first ∷ rest))) first old mid new t u
    (subst (λ (here : Managed). Does (loading_one here) first old mid t u) is one)
    (begun_first (loading (drop (i + 1) managed)) (λ rest. Done (first ∷ rest)) mid new begun))

module _ (managed : List Managed) (is_kept : Bool) (name : List ℕ) (kept_is : is_kept ≡ some_need_duid managed) (name_is : name ≡ duid_file) where
  pub duid_begun : (old new : Seen) → HasBegun (reading_if is_kept name) old new → HasBegun (loading_own managed) old new
  duid_begun old new begun =
      begun_first (reading_if (some_need_duid managed) duid_file) (λ duid. loading managed) old new
      (subst (λ (asks : Asks (Option Reading)). HasBegun asks old new) (λ i. reading_if (kept_is i) (name_is i)) begun)

  pub leases_begun : (duid : Option Reading) (old mid new : Seen) (t u : List ℕ) → Does (reading_if is_kept name) duid old mid t u
      → HasBegun (loading managed) mid new → HasBegun (loading_own managed) old new
  leases_begun duid old mid new t u did begun =
      begun_later (reading_if (some_need_duid managed) duid_file) (λ duid. loading managed) duid old mid new t u
      (subst (λ (asks : Asks (Option Reading)). Does asks duid old mid t u) (λ i. reading_if (kept_is i) (name_is i)) did) begun

pub own_begun : (managed : List Managed) (old new : Seen) → HasBegun (loading_own managed) old new → HasBegun (loading_files managed) old new
own_begun managed old new begun =
    begun_wider (reading_if (some_need_duid managed) duid_file) (λ duid. loading managed)
    (λ duid. after (loading managed) (λ ifaces. Then (Read resolver_file) (λ resolver. Done (files_loaded duid ifaces resolver))))
    (λ duid calls front. first_front (loading managed) (λ ifaces. Then (Read resolver_file) (λ resolver. Done (files_loaded duid ifaces resolver))) calls front)
    old new begun

pub resolver_begun : (managed : List Managed) (beginnings : List Beginning) (files : List KeptFile) (name : List ℕ) (old mid new : Seen) (t u : List ℕ)
    → name ≡ resolver_file
    → LoadsOwn managed beginnings files old mid t u → HasBegun (Then (Read name) Done) mid new → HasBegun (loading_files managed) old new
resolver_begun managed beginnings files name old mid new t u name_is own begun =
    begun_later (reading_if (some_need_duid managed) duid_file)
    (λ duid. after (loading managed) (λ ifaces. Then (Read resolver_file) (λ resolver. Done (files_loaded duid ifaces resolver))))
    own.duid old own.mid new t own.text_mid own.reads_duid
    (begun_later (loading managed)
    (λ ifaces. Then (Read resolver_file) (λ resolver. Done (files_loaded own.duid ifaces resolver))) own.leases own.mid mid new own.text_mid u
    own.reads_leases
    (begun_ask (Read resolver_file) (λ resolver. Done (files_loaded own.duid own.leases resolver)) mid new
    (subst (λ (file : List ℕ). HasBegun (Then (Read file) Done) mid new) name_is begun)))
