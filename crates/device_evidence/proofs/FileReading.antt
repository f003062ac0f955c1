-- What an opening reads of the files of a store, whatever is answered.
use Rattle.std.proofs.Common.{◌≡◌, ◌⊎◌, inl, inr, ℕ, Bool, true, false, List, [], ◌∷◌, ◌++◌, Option, Some, None, refl, sym, ap, ap₂, subst, ◌∙◌, append-nil}
use Rattle.std.specs.Prelude.{flat_map}
use Rattle.std.proofs.lemmas.List.{map-append}
use Rattle.world.specs.FileLists.{StoreFile, file_at}
use Rattle.world.specs.StoreCalls as store
use Rattle.world.specs.StoreCalls.{Reading, StoreCall, ReadFile, reading_of}
use Rattle.settings.specs.declared.interfaces.Managed.{Managed}
use Rattle.client_model.specs.ClientSettings.{runs_dhcp4}
use Rattle.client_model.specs.ClientSettings6.{runs_dhcp6, some_need_duid}
use Rattle.client_model.specs.HostDuid.{host_duid}
use Rattle.device_calls.specs.Calls.{Call, Read, made, store_call}
use Rattle.device_calls.specs.Programs.{Asks, Done, Then, after, Makes}
use Rattle.device_calls.proofs.Programs.{makes_both}
use Rattle.turn_model.specs.KeptFiles.{Keeps, Duid, Lease4, Lease6, Resolver, KeptFile}
use Rattle.turn_model.specs.Loading.{duid_file, resolver_file, lease4_file, lease6_file, reading_if, Loaded, loaded, loading_one, loading, FilesLoaded, files_loaded, loading_files, known_by, file_with, files_by, duid_with, files_of}
use Rattle.turn_model.specs.FilesInLife.{KnownTruly, Filed, filed_as, filed_if, filed_for, filed_by}
use Rattle.turn_model.proofs.Keeping.{all_filed, AreKnown}
use Rattle.turn_model.proofs.Reading.{all_known}
use Rattle.device_evidence.proofs.FilesGoing.{FilesGo, FilesSplit, files_split, was_read}
use Rattle.device_evidence.proofs.Bringing.{store_part}
use Rattle.device_evidence.proofs.Parts.{parts_of}

-- the files that reading gave are these, and what is known of them is so
pub record FilesRead (wanted : List Filed) (old : List StoreFile) (files : List KeptFile) (new : List StoreFile) : Type 0 where
  pub same : new ≡ old
  pub filed : all_filed files ≡ wanted
  pub known : AreKnown old files

known_of : (content : Option (List ℕ)) → KnownTruly (known_by (reading_of content)) content
known_of None = refl
known_of (Some bytes) = refl

known_read : (reading : Reading) (content : Option (List ℕ)) → (reading ≡ store.Unread) ⊎ (reading ≡ reading_of content)
    → KnownTruly (known_by reading) content
known_read reading content (inl e) = subst (λ (r : Reading). KnownTruly (known_by r) content) (sym e) tt
known_read reading content (inr e) = subst (λ (r : Reading). KnownTruly (known_by r) content) (sym e) (known_of content)

went_so : (old new : List StoreFile) (a b : List Call) → a ≡ b → FilesGo (store_part a) old new → FilesGo (store_part b) old new
went_so old new a b e goes = subst (λ (cs : List Call). FilesGo (store_part cs) old new) e goes

-- ---- one file

a_reading : (keeps : Keeps) (name : List ℕ) (reading : Reading) (old new : List StoreFile) → FilesGo (ReadFile name reading ∷ []) old new
    → FilesRead (filed_if true keeps name) old (file_with keeps name (Some reading)) new
a_reading keeps name reading old new (mid, truly, leaves, same) = record {
  same = same ∙ was_read name reading old mid leaves;
  filed = refl;
  known = (known_read reading (file_at name old) truly, tt);
}

one_read : (is_kept : Bool) (keeps : Keeps) (name : List ℕ) (calls : List Call) (reading : Option Reading) (old new : List StoreFile)
    → Makes (reading_if is_kept name) calls reading → FilesGo (store_part calls) old new
    → FilesRead (filed_if is_kept keeps name) old (file_with keeps name reading) new
one_read true keeps name calls reading old new makes goes =
    subst (λ (r : Option Reading). FilesRead (filed_if true keeps name) old (file_with keeps name r) new) (sym makes.result_is)
    (a_reading keeps name makes.answers.0 old new (went_so old new calls (made (Read name) makes.answers.0 ∷ []) makes.calls_are goes))
one_read false keeps name calls reading old new makes goes =
    subst (λ (r : Option Reading). FilesRead (filed_if false keeps name) old (file_with keeps name r) new) (sym makes.result_is)
    (record { same = went_so old new calls [] makes.calls_are goes; filed = refl; known = tt })

joined : (one others : List Filed) (old mid new : List StoreFile) (a b : List KeptFile) → FilesRead one old a mid → FilesRead others mid b new
    → FilesRead (one ++ others) old (a ++ b) new
joined one others old mid new a b first rest = record {
  same = rest.same ∙ first.same;
  filed = map-append filed_as a b ∙ ap₂ (λ (x y : List Filed). x ++ y) first.filed rest.filed;
  known = all_known old a b first.known (subst (λ (s : List StoreFile). AreKnown s b) first.same rest.known);
}

-- what went in two parts, of which the second only hands on a result
record TwoParts (a b : List Call) (old new : List StoreFile) : Type 0 where
  mid : List StoreFile
  first : FilesGo (store_part a) old mid
  later : FilesGo (store_part b) mid new

in_two : (calls a rest b end : List Call) (old new : List StoreFile) → calls ≡ a ++ rest → rest ≡ b ++ end → end ≡ [] → FilesGo (store_part calls) old new
    → TwoParts a b old new
in_two calls a rest b end old new one two none goes =
    let all : calls ≡ a ++ b = one ∙ ap (λ cs. a ++ cs) (two ∙ ap (λ cs. b ++ cs) none ∙ append-nil b) in
    let split : FilesSplit (store_part a) (store_part b) old new =
    files_split (store_part a) (store_part b) old new
    (subst (λ (cs : List StoreCall). FilesGo cs old new) (ap store_part all ∙ parts_of store_call a b) goes) in
    record { mid = split.mid; first = split.first; later = split.later }

-- ---- an interface, and all of them

iface_read : (m : Managed) (calls : List Call) (result : Loaded) (old new : List StoreFile) → Makes (loading_one m) calls result
    → FilesGo (store_part calls) old new → FilesRead (filed_for m) old (files_by result) new
iface_read m calls result old new makes goes =
    let ask4 : Asks (Option Reading) = reading_if (runs_dhcp4 m.conf) (lease4_file m) in
    let ask6 : Asks (Option Reading) = reading_if (runs_dhcp6 m.conf) (lease6_file m) in
    let first = makes_both ask4 (λ lease4. after ask6 (λ lease6. Done (loaded m lease4 lease6))) calls result makes in
    let rest = makes_both ask6 (λ lease6. Done (loaded m first.between lease6)) first.later result first.makes_later in
    let parts = in_two calls first.first first.later rest.first rest.later old new first.calls_are rest.calls_are rest.makes_later.calls_are goes in
    subst (λ (r : Loaded). FilesRead (filed_for m) old (files_by r) new) (sym rest.makes_later.result_is)
    (joined (filed_if (runs_dhcp4 m.conf) (Lease4 m.spec.index.number) (lease4_file m))
    (filed_if (runs_dhcp6 m.conf) (Lease6 m.spec.index.number) (lease6_file m)) old parts.mid new
    (file_with (Lease4 m.spec.index.number) (lease4_file m) first.between) (file_with (Lease6 m.spec.index.number) (lease6_file m) rest.between)
    (one_read (runs_dhcp4 m.conf) (Lease4 m.spec.index.number) (lease4_file m) first.first first.between old parts.mid first.makes_first parts.first)
    (one_read (runs_dhcp6 m.conf) (Lease6 m.spec.index.number) (lease6_file m) rest.first rest.between parts.mid new rest.makes_first parts.later))

all_read : (managed : List Managed) (calls : List Call) (result : List Loaded) (old new : List StoreFile) → Makes (loading managed) calls result
    → FilesGo (store_part calls) old new → FilesRead (flat_map filed_for managed) old (flat_map files_by result) new
all_read [] calls result old new makes goes =
    subst (λ (r : List Loaded). FilesRead [] old (flat_map files_by r) new) (sym makes.result_is)
    (record { same = went_so old new calls [] makes.calls_are goes; filed = refl; known = tt })
all_read (m ∷ managed) calls result old new makes goes =
    let first = makes_both (loading_one m) (λ one. after (loading managed) (λ others. Done (one ∷ others))) calls result makes in
    let rest = makes_both (loading managed) (λ others. Done (first.between ∷ others)) first.later result first.makes_later in
    let parts = in_two calls first.first first.later rest.first rest.later old new first.calls_are rest.calls_are rest.makes_later.calls_are goes in
    subst (λ (r : List Loaded). FilesRead (flat_map filed_for (m ∷ managed)) old (flat_map files_by r) new) (sym rest.makes_later.result_is)
    (joined (filed_for m) (flat_map filed_for managed) old parts.mid new (files_by first.between) (flat_map files_by rest.between)
    (iface_read m first.first first.between old parts.mid first.makes_first parts.first)
    (all_read managed rest.first rest.between parts.mid new rest.makes_first parts.later))

-- ---- all files

pub files_read : (managed : List Managed) (calls : List Call) (result : FilesLoaded) (old new : List StoreFile) → Makes (loading_files managed) calls result
    → FilesGo (store_part calls) old new
    → FilesRead (filed_by (duid_with managed result) managed) old (files_of managed result) new
files_read managed calls result old new makes goes =
    let ask : Asks (Option Reading) = reading_if (some_need_duid managed) duid_file in
    let last : Option Reading → List Loaded → Asks FilesLoaded =
    λ duid ifaces. Then (Read resolver_file) (λ reading. Done (files_loaded duid ifaces reading)) in
    let first = makes_both ask (λ duid. after (loading managed) (λ ifaces. last duid ifaces)) calls result makes in
    let rest = makes_both (loading managed) (λ ifaces. last first.between ifaces) first.later result first.makes_later in
    let reading : Reading = rest.makes_later.answers.0 in
    let read : List Call = made (Read resolver_file) reading ∷ [] in
    let all : calls ≡ first.first ++ (rest.first ++ read) =
    first.calls_are ∙ ap (λ cs. first.first ++ cs) (rest.calls_are ∙ ap (λ cs. rest.first ++ cs) rest.makes_later.calls_are) in
    let split = files_split (store_part first.first) (store_part (rest.first ++ read)) old new
    (subst (λ (cs : List StoreCall). FilesGo cs old new) (ap store_part all ∙ parts_of store_call first.first (rest.first ++ read)) goes) in
    let more = files_split (store_part rest.first) (store_part read) split.mid new
    (subst (λ (cs : List StoreCall). FilesGo cs split.mid new) (parts_of store_call rest.first read) split.later) in
    let keeps : Keeps = Duid (host_duid managed first.between) in
    subst (λ (r : FilesLoaded). FilesRead (filed_by (duid_with managed r) managed) old (files_of managed r) new) (sym rest.makes_later.result_is)
    (joined (filed_if (some_need_duid managed) keeps duid_file) (flat_map filed_for managed ++ filed_if true Resolver resolver_file) old split.mid new
    (file_with keeps duid_file first.between) (flat_map files_by rest.between ++ file_with Resolver resolver_file (Some reading))
    (one_read (some_need_duid managed) keeps duid_file first.first first.between old split.mid first.makes_first split.first)
    (joined (flat_map filed_for managed) (filed_if true Resolver resolver_file) split.mid more.mid new (flat_map files_by rest.between)
    (file_with Resolver resolver_file (Some reading))
    (all_read managed rest.first rest.between split.mid more.mid rest.makes_first more.first)
    (a_reading Resolver resolver_file reading more.mid new more.later)))
