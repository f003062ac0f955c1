-- The files that the opening reads.
use Rattle.std.proofs.Common.{ℕ, ◌≡◌, ◌+◌, ◌<◌, ◌≤◌, add-one, Bool, true, false, List, [], ◌∷◌, ◌++◌, length, get_or, drop, drop-cons, map, Option, Some, None, sym, ap, subst, ◌∙◌, append-nil, append_assoc}
use Rattle.std.specs.Prelude.{flat_map, option_to_list, slice_get}
use Rattle.std.proofs.lemmas.List.{drop_all, map-append}
use Rattle.std.proofs.lemmas.List.Concat.{flat_map-append}
use Rattle.std.specs.List.{AllByRecursion}
use Rattle.net_types.proofs.ReadsLaws.{some_same}
use Rattle.world.specs.StoreCalls.{Reading}
use Rattle.settings.specs.declared.interfaces.Managed.{Managed}
use Rattle.client_model.specs.ClientSettings.{runs_dhcp4}
use Rattle.client_model.specs.ClientSettings6.{runs_dhcp6, some_need_duid}
use Rattle.client_model.specs.HostDuid.{host_duid}
use Rattle.client_model.specs.KeptLeases.{Beginning}
use Rattle.device_calls.specs.Calls.{Read}
use Rattle.device_calls.specs.Programs.{Asks, Done, Then, after}
use Rattle.device_calls.specs.Worlds.{Seen}
use Rattle.device_calls.specs.Does.{Does}
use Rattle.device_calls.proofs.Doing.{does_done, does_then, does_after}
use Rattle.turn_model.specs.KeptFiles.{KeptFile, Duid, Resolver}
use Rattle.turn_model.specs.Loading.{reading_if, duid_file, resolver_file, lease4_file, lease6_file, Loaded, loaded, loading_one, loading, FilesLoaded, files_loaded, file_with, files_by, beginning_of}
use Rattle.life_files.specs.Loading.{LoadsLeases, LoadsOwn, LoadsAll}

-- ---- one file

pub reads_none : (is_kept : Bool) (name : List ℕ) (seen : Seen) (text : List ℕ) → is_kept ≡ false → Does (reading_if is_kept name) None seen seen text text
reads_none is_kept name seen text none = subst (λ (b : Bool). Does (reading_if b name) None seen seen text text) (sym none) (does_done None seen text)

pub reads_some : (is_kept : Bool) (name : List ℕ) (reading : Reading) (old new : Seen) (t u : List ℕ) → is_kept ≡ true
    → Does (Then (Read name) Done) reading old new t u
    → Does (reading_if is_kept name) (Some reading) old new t u
reads_some is_kept name reading old new t u some did =
    subst (λ (b : Bool). Does (reading_if b name) (Some reading) old new t u) (sym some)
    (does_then (Read name) (λ reading. Done (Some reading)) reading (Some reading) old new new t u u did (does_done (Some reading) new u))

-- ---- the files of one interface

pub loads_one : (managed : Managed) (runs4 runs6 : Bool) (name4 name6 : List ℕ) (lease4 lease6 : Option Reading) (old mid new : Seen) (t u v : List ℕ)
    → runs4 ≡ runs_dhcp4 managed.conf → runs6 ≡ runs_dhcp6 managed.conf → name4 ≡ lease4_file managed → name6 ≡ lease6_file managed
    → Does (reading_if runs4 name4) lease4 old mid t u → Does (reading_if runs6 name6) lease6 mid new u v
    → Does (loading_one managed) (loaded managed lease4 lease6) old new t v
loads_one managed runs4 runs6 name4 name6 lease4 lease6 old mid new t u v is4 is6 named4 named6 first later =
    let did4 : Does (reading_if (runs_dhcp4 managed.conf) (lease4_file managed)) lease4 old mid t u =
    subst (λ (asks : Asks (Option Reading)). Does asks lease4 old mid t u) (λ i. reading_if (is4 i) (named4 i)) first in
    let did6 : Does (reading_if (runs_dhcp6 managed.conf) (lease6_file managed)) lease6 mid new u v =
    subst (λ (asks : Asks (Option Reading)). Does asks lease6 mid new u v) (λ i. reading_if (is6 i) (named6 i)) later in
    does_after (reading_if (runs_dhcp4 managed.conf) (lease4_file managed))
    (λ l4. after (reading_if (runs_dhcp6 managed.conf) (lease6_file managed)) (λ l6. Done (loaded managed l4 l6))) lease4 (loaded managed lease4 lease6)
    old mid new t u v did4
    (does_after (reading_if (runs_dhcp6 managed.conf) (lease6_file managed)) (λ l6. Done (loaded managed lease4 l6)) lease6 (loaded managed lease4 lease6)
    mid new new u v v did6 (does_done (loaded managed lease4 lease6) new v))

-- ---- those of all interfaces

drop_one : (managed : List Managed) (i : ℕ) (d : Managed) → i < length managed → drop i managed ≡ get_or managed i d ∷ drop (i + 1) managed
drop_one managed i d lt = rw add-one (drop-cons managed i d lt)

pub loading_more : (managed : List Managed) (i : ℕ) (m : Managed) (first : Loaded) (rest : List Loaded) (old mid new : Seen) (t u v : List ℕ)
    → m ≡ get_or managed i m → i < length managed
    → Does (loading_one m) first old mid t u → Does (loading (drop (i + 1) managed)) rest mid new u v
    → Does (loading (drop i managed)) (first ∷ rest) old new t v
loading_more managed i m first rest old mid new t u v is lt one more =
    subst (λ (ms : List Managed). Does (loading ms) (first ∷ rest) old new t v) (sym (drop_one managed i m lt))
    (does_after (loading_one (get_or managed i m)) (λ first. after (loading (drop (i + 1) managed)) (λ rest. Done (first ∷ rest))) first
    (first ∷ rest) old mid new t u v
    (subst (λ (here : Managed). Does (loading_one here) first old mid t u) is one)
    (does_after (loading (drop (i + 1) managed)) (λ rest. Done (first ∷ rest)) rest (first ∷ rest) mid new new u v v more (does_done (first ∷ rest) new v)))

pub loading_end : (managed : List Managed) (i : ℕ) (seen : Seen) (text : List ℕ) → length managed ≤ i → Does (loading (drop i managed)) [] seen seen text text
loading_end managed i seen text le =
    subst (λ (ms : List Managed). Does (loading ms) [] seen seen text text) (sym (drop_all i managed le)) (does_done [] seen text)

-- all were found
pub loading_all : (managed : List Managed) (front : List Loaded) (old new : Seen) (t u : List ℕ) → Does (loading managed) (front ++ []) old new t u
    → Does (loading managed) front old new t u
loading_all managed front old new t u did = subst (λ (all : List Loaded). Does (loading managed) all old new t u) (append-nil front) did

-- what was found so far, and one more
pub front_more : (front : List Loaded) (first : Loaded) (rest : List Loaded) → front ++ first ∷ rest ≡ (front ++ first ∷ []) ++ rest
front_more front first rest = sym (append_assoc front (first ∷ []) rest)

pub beginnings_more : {X : Type 0} (content : X → Beginning) (duid : List ℕ) (front : List Loaded) (first : Loaded) (all next : List X) (one : X)
    → next ≡ all ++ one ∷ [] → map content all ≡ map (beginning_of duid) front → content one ≡ beginning_of duid first
    → map content next ≡ map (beginning_of duid) (front ++ first ∷ [])
beginnings_more content duid front first all next one next_is are is =
    ap (map content) next_is ∙ map-append content all (one ∷ []) ∙ ap (λ (bs : List Beginning). bs ++ content one ∷ []) are
    ∙ ap (λ (b : Beginning). map (beginning_of duid) front ++ b ∷ []) is ∙ sym (map-append (beginning_of duid) front (first ∷ []))

-- both files of one more interface
pub files_more : (before : List KeptFile) (front : List Loaded) (first : Loaded) (files mid next : List KeptFile) (file4 file6 : Option KeptFile)
    → mid ≡ files ++ option_to_list file4 → next ≡ mid ++ option_to_list file6 → files ≡ before ++ flat_map files_by front
    → option_to_list file4 ++ option_to_list file6 ≡ files_by first → next ≡ before ++ flat_map files_by (front ++ first ∷ [])
files_more before front first files mid next file4 file6 mid_is next_is are is =
    next_is ∙ ap (λ (fs : List KeptFile). fs ++ option_to_list file6) mid_is ∙ append_assoc files (option_to_list file4) (option_to_list file6)
    ∙ ap (λ (fs : List KeptFile). files ++ fs) is ∙ ap (λ (fs : List KeptFile). fs ++ files_by first) are
    ∙ append_assoc before (flat_map files_by front) (files_by first)
    ∙ ap (λ (fs : List KeptFile). before ++ (flat_map files_by front ++ fs)) (sym (append-nil (files_by first)))
    ∙ ap (λ (fs : List KeptFile). before ++ fs) (sym (flat_map-append files_by front (first ∷ [])))

all_with : {X : Type 0} (P : X → Type 0) (xs : List X) (x : X) → AllByRecursion P xs → P x → AllByRecursion P (xs ++ x ∷ [])
all_with P [] x all holds = (holds, tt)
all_with P (y ∷ xs) x all holds = (all.0, all_with P xs x all.1 holds)

pub fit_more : {X : Type 0} (P : Beginning → Type 0) (content : X → Beginning) (all next : List X) (one : X) → next ≡ all ++ one ∷ []
    → AllByRecursion P (map content all) → P (content one) → AllByRecursion P (map content next)
fit_more P content all next one next_is fit holds =
    subst (AllByRecursion P) (sym (ap (map content) next_is ∙ map-append content all (one ∷ []))) (all_with P (map content all) (content one) fit holds)

-- ---- those of the DUID and of leases

-- none, where no interface is managed
pub loads_nothing : (managed : List Managed) (beginnings : List Beginning) (files : List KeptFile) (seen : Seen) (text : List ℕ)
    → slice_get managed 0 ≡ None → beginnings ≡ [] → files ≡ [] → LoadsOwn managed beginnings files seen seen text text
loads_nothing [] beginnings files seen text none no_beginnings no_files = record {
  duid = None;
  leases = [];
  mid = seen;
  text_mid = text;
  reads_duid = does_done None seen text;
  reads_leases = does_done [] seen text;
  beginnings_are = no_beginnings;
  files_are = no_files;
}
loads_nothing (m ∷ managed) beginnings files seen text none no_beginnings no_files = absurd cc

-- the first of them is the host's, whose hardware address makes a DUID where none was read
made_by_first : (managed : List Managed) (first : Managed) (read : Option Reading) → slice_get managed 0 ≡ Some first
    → host_duid (first ∷ []) read ≡ host_duid managed read
made_by_first [] first read is = absurd cc
made_by_first (m ∷ managed) first read is = ap (λ (one : Managed). host_duid (one ∷ []) read) (sym (some_same is))

pub loads_with : (managed : List Managed) (first : Managed) (is_kept : Bool) (name duid : List ℕ) (read : Option Reading) (before : List KeptFile)
    (beginnings : List Beginning) (files : List KeptFile) (old mid new : Seen) (t u v : List ℕ)
    → slice_get managed 0 ≡ Some first → is_kept ≡ some_need_duid managed → name ≡ duid_file → duid ≡ host_duid (first ∷ []) read
    → before ≡ file_with (Duid duid) duid_file read → Does (reading_if is_kept name) read old mid t u
    → LoadsLeases managed duid before beginnings files mid new u v → LoadsOwn managed beginnings files old new t v
loads_with managed first is_kept name duid read before beginnings files old mid new t u v first_is kept_is name_is duid_is before_is reads loads =
    let same : duid ≡ host_duid managed read = duid_is ∙ made_by_first managed first read first_is in
    record {
      duid = read;
      leases = loads.loaded;
      mid = mid;
      text_mid = u;
      reads_duid = subst (λ (asks : Asks (Option Reading)). Does asks read old mid t u) (λ i. reading_if (kept_is i) (name_is i)) reads;
      reads_leases = loads.does;
      beginnings_are = loads.beginnings_are ∙ ap (λ (d : List ℕ). map (beginning_of d) loads.loaded) same;
      files_are = loads.files_are ∙ ap (λ (fs : List KeptFile). fs ++ flat_map files_by loads.loaded) before_is
          ∙ ap (λ (d : List ℕ). file_with (Duid d) duid_file read ++ flat_map files_by loads.loaded) same;
    }

-- ---- all that a life keeps

pub loads_all : (managed : List Managed) (beginnings : List Beginning) (files all : List KeptFile) (name : List ℕ) (reading : Reading) (old mid new : Seen)
    (t u v : List ℕ)
    → LoadsOwn managed beginnings files old mid t u → name ≡ resolver_file → Does (Then (Read name) Done) reading mid new u v
    → all ≡ files ++ file_with Resolver resolver_file (Some reading) → LoadsAll managed beginnings all old new t v
loads_all managed beginnings files all name reading old mid new t u v own name_is reads all_is =
    let loaded : FilesLoaded = files_loaded own.duid own.leases reading in
    let duid_files : List KeptFile = file_with (Duid (host_duid managed own.duid)) duid_file own.duid in
    let read : Does (Then (Read resolver_file) Done) reading mid new u v =
    subst (λ (file : List ℕ). Does (Then (Read file) Done) reading mid new u v) name_is reads in
    record {
      loaded = loaded;
      does = does_after (reading_if (some_need_duid managed) duid_file)
          (λ d. after (loading managed) (λ ifaces. Then (Read resolver_file) (λ r. Done (files_loaded d ifaces r)))) own.duid loaded
          old own.mid new t own.text_mid v own.reads_duid
          (does_after (loading managed) (λ ifaces. Then (Read resolver_file) (λ r. Done (files_loaded own.duid ifaces r))) own.leases loaded
          own.mid mid new own.text_mid u v own.reads_leases
          (does_then (Read resolver_file) (λ r. Done (files_loaded own.duid own.leases r)) reading loaded mid new new u v v read (does_done loaded new v)));
      beginnings_are = own.beginnings_are;
      files_are = all_is ∙ ap (λ (fs : List KeptFile). fs ++ file_with Resolver resolver_file (Some reading)) own.files_are
          ∙ append_assoc duid_files (flat_map files_by own.leases) (file_with Resolver resolver_file (Some reading));
    }
