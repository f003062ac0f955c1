-- What the calls of an opening show of a file is what reading the files gave of it.
use Rattle.std.proofs.Common.{◌≡◌, ℕ, Bool, true, false, List, [], ◌∷◌, ◌++◌, map, Option, Some, None, refl, sym, ap, subst, ◌∙◌, arith}
use Rattle.std.proofs.lemmas.List.{append_cancel_right}
use Rattle.std.proofs.lemmas.Slice.Eq.{bytes_eq-Decides}
use Rattle.std.specs.Prelude.{bytes_eq, codes, flat_map, if◌then◌else◌, option_and_then}
use Rattle.std.specs.List.{AllByRecursion, IsDistinct}
use Rattle.net_types.proofs.AllLaws.{all_both, all_map}
use Rattle.net_types.specs.NameText.{name_text}
use Rattle.world.specs.HookCalls.{HookCall, Job}
use Rattle.world.specs.HostCalls.{HostCall}
use Rattle.world.specs.StoreCalls.{StoreCall, Reading, ReadFile, ListedAsides, WroteAside, SyncedAside, RenamedAside, RemovedFile, SettledFiles}
use Rattle.turn_model.specs.IfaceSettings.declared.interfaces.Managed.{Managed}
use Rattle.turn_model.specs.ClientModel.ClientSettings.{runs_dhcp4}
use Rattle.turn_model.specs.ClientModel.ClientSettings6.{runs_dhcp6, some_need_duid}
use Rattle.turn_model.specs.ClientModel.Clients.{ClientStep, Sending, rows_of}
use Rattle.turn_model.specs.ClientModel.KeptLeases.{Beginning, kept_by}
use Rattle.turn_model.specs.ClientModel.KeptLeases6.{kept6_by}
use Rattle.turn_model.specs.DeviceCalls.Calls.{Call, Link, Host, Store, Hook, Dropped, store_call}
use Rattle.turn_model.specs.DeviceCalls.Programs.{Asks, Done, Then, after, Answers, calls_with, Makes}
use Rattle.turn_model.proofs.DeviceCalls.Programs.{MakesBoth, makes_both}
use Rattle.turn_model.specs.FilesInLife.{AreNamedApart}
use Rattle.turn_model.specs.Hooking.{hooking}
use Rattle.turn_model.specs.KeptFiles.{keeping}
use Rattle.turn_model.specs.Loading.{Loaded, loaded, loading_one, loading, reading_if, lease4_file, lease6_file, duid_file, resolver_file, FilesLoaded, files_loaded, loading_files, beginning_of}
use Rattle.turn_model.specs.Turns.{Outlook, marked, offering, hosting, acting}
use Rattle.turn_model.specs.Opening.{clearing}
use Rattle.turn_model.proofs.Loading.{files_are_loaded}
use Rattle.evidence_words.specs.FiledLeases.{kept4_shown, kept6_shown}
use Rattle.evidence_words.specs.HostDuids.{read_in, first_of, read_among, duid_read}
use Rattle.evidence_words.proofs.EachCall.{IsNoRead, Each, reading_resolver, both_each, by_answers, done_each, clearing_each, hosting_each, hooking_each, keeping_each}

-- ---- the first of several readings

first_then : (a b c : Option Reading) → first_of (first_of a b) c ≡ first_of a (first_of b c)
first_then (Some reading) b c = refl
first_then None b c = refl

first_alone : (a : Option Reading) → first_of a None ≡ a
first_alone (Some reading) = refl
first_alone None = refl

-- ---- what is read of a file

module _ (file : List ℕ) where
  abbrev pub read_from : List Call → Option Reading
  read_from calls = read_among file (flat_map store_call calls)

  pub both_read : (first later : List Call) → read_from (first ++ later) ≡ first_of (read_from first) (read_from later)
  both_read [] later = refl
  both_read (Link call ∷ first) later = both_read first later
  both_read (Host call ∷ first) later = both_read first later
  both_read (Store call ∷ first) later =
      ap (λ (more : Option Reading). first_of (read_in file call) more) (both_read first later)
      ∙ sym (first_then (read_in file call) (read_from first) (read_from later))
  both_read (Hook number call ∷ first) later = both_read first later
  both_read (Dropped job ∷ first) later = both_read first later

  -- ---- calls that don't read it

  abbrev pub IsOther : Call → Type 0
  IsOther (Link call) = Unit {0}
  IsOther (Host call) = Unit {0}
  IsOther (Store call) = read_in file call ≡ None
  IsOther (Hook number call) = Unit {0}
  IsOther (Dropped job) = Unit {0}

  none_read : (calls : List Call) → AllByRecursion IsOther calls → read_from calls ≡ None
  none_read [] others = refl
  none_read (Link call ∷ calls) others = none_read calls others.1
  none_read (Host call ∷ calls) others = none_read calls others.1
  none_read (Store call ∷ calls) others = ap (λ (found : Option Reading). first_of found (read_from calls)) others.0 ∙ none_read calls others.1
  none_read (Hook number call ∷ calls) others = none_read calls others.1
  none_read (Dropped job ∷ calls) others = none_read calls others.1

  host_other : (call : HostCall) → IsOther (Host call)
  host_other call = tt

  hook_other : (number : ℕ) (call : HookCall) → IsOther (Hook number call)
  hook_other number call = tt

  dropped_other : (job : Job) → IsOther (Dropped job)
  dropped_other job = tt

  store_other : (call : StoreCall) → IsNoRead call → IsOther (Store call)
  store_other (ReadFile name reading) h = absurd h
  store_other (ListedAsides names) h = refl
  store_other (WroteAside name bytes done) h = refl
  store_other (SyncedAside name done) h = refl
  store_other (RenamedAside name done) h = refl
  store_other (RemovedFile name done) h = refl
  store_other (SettledFiles done) h = refl

  offering_other : (sends : List Sending) (set : ℕ) (answers : Answers (offering sends set)) → AllByRecursion IsOther (calls_with (offering sends set) answers)
  offering_other [] set answers = tt
  offering_other (s ∷ sends) set answers = (tt, offering_other sends (marked set s.iface.number answers.0) answers.1)

  pub acting_other : (managed : List Managed) (outlook : Outlook) (step : ClientStep) (moment : ℕ) (stop : Option ℕ)
      → Each IsOther (acting managed outlook step moment stop)
  acting_other managed outlook step moment stop =
      both_each IsOther (offering step.sends 0) _ (by_answers IsOther (offering step.sends 0) (offering_other step.sends 0))
      (λ unsent. both_each IsOther (hosting managed (rows_of step.client) outlook.known) _
      (hosting_each IsOther host_other store_other managed (rows_of step.client) outlook.known)
      (λ known. both_each IsOther (hooking moment step.jobs outlook.hooks) _ (hooking_each IsOther hook_other dropped_other moment step.jobs outlook.hooks)
      (λ hooks. both_each IsOther (keeping step.client.ifaces outlook.files) _ (keeping_each IsOther host_other store_other step.client.ifaces outlook.files)
      (λ files. done_each IsOther _))))

  pub clearing_other : Each IsOther clearing
  clearing_other = clearing_each IsOther host_other store_other

  -- ---- what reading the files gave of it

  abbrev if_this : (name : List ℕ) → Option Reading → Option Reading
  if_this name read = if bytes_eq file name then read else None

  abbrev one_gives : Loaded → Option Reading
  one_gives one = first_of (if_this (lease4_file one.managed) one.lease4) (if_this (lease6_file one.managed) one.lease6)

  abbrev all_give : List Loaded → Option Reading
  all_give [] = None
  all_give (one ∷ all) = first_of (one_gives one) (all_give all)

  abbrev files_give : FilesLoaded → Option Reading
  files_give files = first_of (if_this duid_file files.duid) (first_of (all_give files.ifaces) (if_this resolver_file (Some files.resolver)))

  abbrev unread : Option Reading
  unread = None

  if_none : (b : Bool) → (if b then unread else unread) ≡ unread
  if_none true = refl
  if_none false = refl

  reading_gives : (is_kept : Bool) (name : List ℕ) (calls : List Call) (read : Option Reading) → Makes (reading_if is_kept name) calls read
      → read_from calls ≡ if_this name read
  reading_gives true name calls read makes =
      ap read_from makes.calls_are ∙ first_alone (if_this name (Some makes.answers.0)) ∙ sym (ap (if_this name) makes.result_is)
  reading_gives false name calls read makes =
      ap read_from makes.calls_are ∙ sym (if_none (bytes_eq file name)) ∙ sym (ap (if_this name) makes.result_is)

  -- this is done last
  done_last : {A : Type 0} (x : A) (first later : List Call) (result : A) → Makes (Done x) later result → read_from (first ++ later) ≡ read_from first
  done_last x first later result makes =
      both_read first later ∙ ap (λ (calls : List Call). first_of (read_from first) (read_from calls)) makes.calls_are ∙ first_alone (read_from first)

  one_shown : (m : Managed) (calls : List Call) (one : Loaded) → Makes (loading_one m) calls one → read_from calls ≡ one_gives one
  one_shown m calls one makes =
      let ask4 : Asks (Option Reading) = reading_if (runs_dhcp4 m.conf) (lease4_file m) in
      let ask6 : Asks (Option Reading) = reading_if (runs_dhcp6 m.conf) (lease6_file m) in
      let four : MakesBoth ask4 (λ lease4. after ask6 (λ lease6. Done (loaded m lease4 lease6))) calls one =
      makes_both ask4 (λ lease4. after ask6 (λ lease6. Done (loaded m lease4 lease6))) calls one makes in
      let six : MakesBoth ask6 (λ lease6. Done (loaded m four.between lease6)) four.later one =
      makes_both ask6 (λ lease6. Done (loaded m four.between lease6)) four.later one four.makes_later in
      let first : read_from four.first ≡ if_this (lease4_file m) four.between =
      reading_gives (runs_dhcp4 m.conf) (lease4_file m) four.first four.between four.makes_first in
      let later : read_from four.later ≡ if_this (lease6_file m) six.between =
      ap read_from six.calls_are ∙ done_last (loaded m four.between six.between) six.first six.later one six.makes_later
      ∙ reading_gives (runs_dhcp6 m.conf) (lease6_file m) six.first six.between six.makes_first in
      ap read_from four.calls_are ∙ both_read four.first four.later ∙ (λ i. first_of (first i) (later i)) ∙ sym (ap one_gives six.makes_later.result_is)

  all_shown : (managed : List Managed) (calls : List Call) (all : List Loaded) → Makes (loading managed) calls all → read_from calls ≡ all_give all
  all_shown [] calls all makes = ap read_from makes.calls_are ∙ sym (ap all_give makes.result_is)
  all_shown (m ∷ managed) calls all makes =
      let one : MakesBoth (loading_one m) (λ first. after (loading managed) (λ rest. Done (first ∷ rest))) calls all =
      makes_both (loading_one m) (λ first. after (loading managed) (λ rest. Done (first ∷ rest))) calls all makes in
      let more : MakesBoth (loading managed) (λ rest. Done (one.between ∷ rest)) one.later all =
      makes_both (loading managed) (λ rest. Done (one.between ∷ rest)) one.later all one.makes_later in
      let later : read_from one.later ≡ all_give more.between =
      ap read_from more.calls_are ∙ done_last (one.between ∷ more.between) more.first more.later all more.makes_later
      ∙ all_shown managed more.first more.between more.makes_first in
      ap read_from one.calls_are ∙ both_read one.first one.later ∙ (λ i. first_of (one_shown m one.first one.between one.makes_first i) (later i))
      ∙ sym (ap all_give more.makes_later.result_is)

  resolver_shown : (duid : Option Reading) (ifaces : List Loaded) (calls : List Call) (files : FilesLoaded) → Makes (reading_resolver duid ifaces) calls files
      → read_from calls ≡ if_this resolver_file (Some files.resolver)
  resolver_shown duid ifaces calls files makes =
      ap read_from makes.calls_are ∙ first_alone (if_this resolver_file (Some makes.answers.0))
      ∙ sym (ap (λ (f : FilesLoaded). if_this resolver_file (Some f.resolver)) makes.result_is)

  pub files_shown : (managed : List Managed) (calls : List Call) (files : FilesLoaded) → Makes (loading_files managed) calls files
      → read_from calls ≡ files_give files
  files_shown managed calls files makes =
      let duid : MakesBoth (reading_if (some_need_duid managed) duid_file)
      (λ duid. after (loading managed) (λ ifaces. reading_resolver duid ifaces)) calls files =
      makes_both (reading_if (some_need_duid managed) duid_file) (λ duid. after (loading managed) (λ ifaces. reading_resolver duid ifaces)) calls files makes in
      let ifaces : MakesBoth (loading managed) (λ ifaces. reading_resolver duid.between ifaces) duid.later files =
      makes_both (loading managed) (λ ifaces. reading_resolver duid.between ifaces) duid.later files duid.makes_later in
      let last : files ≡ files_loaded duid.between ifaces.between files.resolver =
      ifaces.makes_later.result_is ∙ ap (λ (f : FilesLoaded). files_loaded duid.between ifaces.between f.resolver) (sym ifaces.makes_later.result_is) in
      let later : read_from duid.later ≡ first_of (all_give ifaces.between) (if_this resolver_file (Some files.resolver)) =
      ap read_from ifaces.calls_are ∙ both_read ifaces.first ifaces.later
      ∙
      (λ i. first_of (all_shown managed ifaces.first ifaces.between ifaces.makes_first i)
      (resolver_shown duid.between ifaces.between ifaces.later files ifaces.makes_later i))
      in
      ap read_from duid.calls_are ∙ both_read duid.first duid.later
      ∙ (λ i. first_of (reading_gives (some_need_duid managed) duid_file duid.first duid.between duid.makes_first i) (later i))
      ∙ sym (ap files_give last)

-- ---- names and their ends

last_of : ℕ → List ℕ → ℕ
last_of d [] = d
last_of d (x ∷ xs) = last_of x xs

last_is : (d : ℕ) (front : List ℕ) (x : ℕ) (end : List ℕ) → last_of d (front ++ x ∷ end) ≡ last_of x end
unfolding last_of
last_is d [] x end = refl
last_is d (y ∷ front) x end = last_is y front x end

unlike : (a b : List ℕ) → (a ≡ b → ⊥) → bytes_eq a b ≡ false
unlike a b apart = by (bytes_eq a b) (bytes_eq-Decides a b).0
  where
    by : (is : Bool) → (is ≡ true → a ≡ b) → is ≡ false
    by true is = absurd (apart (is refl))
    by false is = refl

itself : (name : List ℕ) → bytes_eq name name ≡ true
itself name = (bytes_eq-Decides name name).1 refl

-- names with unlike ends
ends_differ : (a b : List ℕ) (x y : ℕ) → last_of 0 a ≡ x → last_of 0 b ≡ y → (x ≡ y → ⊥) → bytes_eq a b ≡ false
ends_differ a b x y here there apart = unlike a b (λ e. apart (sym here ∙ ap (last_of 0) e ∙ there))

duid_ends : last_of 0 duid_file ≡ 100
unfolding last_of
duid_ends = refl

resolver_ends : last_of 0 resolver_file ≡ 102
unfolding last_of
resolver_ends = refl

ends4 : (m : Managed) → last_of 0 (lease4_file m) ≡ 52
unfolding last_of
ends4 m = last_is 0 (name_text m.spec.name) 46 (codes "lease4")

ends6 : (m : Managed) → last_of 0 (lease6_file m) ≡ 54
unfolding last_of
ends6 m = last_is 0 (name_text m.spec.name) 46 (codes "lease6")

-- one name before unlike ends of names
with_end : (end : List ℕ) (a b : Managed) → bytes_eq (name_text a.spec.name) (name_text b.spec.name) ≡ false
    → bytes_eq (name_text a.spec.name ++ end) (name_text b.spec.name ++ end) ≡ false
with_end end a b apart =
    unlike (name_text a.spec.name ++ end) (name_text b.spec.name ++ end)
    (λ e. absurd (let same : true ≡ false =
    sym ((bytes_eq-Decides _ _).1 (append_cancel_right (name_text a.spec.name) (name_text b.spec.name) end e)) ∙ apart in cc))

not_this : (b : Bool) (read : Option Reading) → b ≡ false → (if b then read else None) ≡ None
not_this b read other = ap (λ (is : Bool). if is then read else None) other

this : (b : Bool) (read : Option Reading) → b ≡ true → (if b then read else None) ≡ read
this b read same = ap (λ (is : Bool). if is then read else None) same

-- ---- a file that holds no lease of these interfaces

record HasNoName (file : List ℕ) (one : Loaded) : Type 0 where
  four : bytes_eq file (lease4_file one.managed) ≡ false
  six : bytes_eq file (lease6_file one.managed) ≡ false

one_none : (file : List ℕ) (one : Loaded) → HasNoName file one → one_gives file one ≡ None
one_none file one other =
    λ i. first_of (not_this (bytes_eq file (lease4_file one.managed)) one.lease4 other.four i)
    (not_this (bytes_eq file (lease6_file one.managed)) one.lease6 other.six i)

none_gives : (file : List ℕ) (all : List Loaded) → AllByRecursion (HasNoName file) all → all_give file all ≡ None
none_gives file [] others = refl
none_gives file (one ∷ all) others = λ i. first_of (one_none file one others.0 i) (none_gives file all others.1 i)

duid_apart : (all : List Loaded) → AllByRecursion (HasNoName duid_file) all
duid_apart [] = tt
duid_apart (one ∷ all) = (
  record {
    four = ends_differ duid_file (lease4_file one.managed) 100 52 duid_ends (ends4 one.managed) (λ e. absurd (omega (arith, e)));
    six = ends_differ duid_file (lease6_file one.managed) 100 54 duid_ends (ends6 one.managed) (λ e. absurd (omega (arith, e)));
  },
  duid_apart all,
)

duid_given : (files : FilesLoaded) → files_give duid_file files ≡ files.duid
duid_given files =
    (λ i. first_of (this (bytes_eq duid_file duid_file) files.duid (itself duid_file) i)
    (first_of (none_gives duid_file files.ifaces (duid_apart files.ifaces) i)
    (not_this (bytes_eq duid_file resolver_file) (Some files.resolver)
    (ends_differ duid_file resolver_file 100 102 duid_ends resolver_ends (λ e. absurd (omega (arith, e)))) i)))
    ∙ first_alone files.duid

-- ---- the leases of interfaces with unlike names

record AreOthers (a b : Loaded) : Type 0 where
  names : bytes_eq (name_text a.managed.spec.name) (name_text b.managed.spec.name) ≡ false

turned : (a b : List ℕ) → bytes_eq a b ≡ false → bytes_eq b a ≡ false
turned a b apart = unlike b a (λ e. absurd (let same : true ≡ false = sym ((bytes_eq-Decides a b).1 (sym e)) ∙ apart in cc))

has_no_name4 : (a b : Loaded) → AreOthers a b → HasNoName (lease4_file a.managed) b
has_no_name4 a b others = record {
  four = with_end (codes ".lease4") a.managed b.managed others.names;
  six = ends_differ (lease4_file a.managed) (lease6_file b.managed) 52 54 (ends4 a.managed) (ends6 b.managed) (λ e. absurd (omega (arith, e)));
}

has_no_name6 : (a b : Loaded) → AreOthers a b → HasNoName (lease6_file a.managed) b
has_no_name6 a b others = record {
  four = ends_differ (lease6_file a.managed) (lease4_file b.managed) 54 52 (ends6 a.managed) (ends4 b.managed) (λ e. absurd (omega (arith, e)));
  six = with_end (codes ".lease6") a.managed b.managed others.names;
}

-- what these readings give of its files is what was read of them
record IsGiven (all : List Loaded) (one : Loaded) : Type 0 where
  four : all_give (lease4_file one.managed) all ≡ one.lease4
  six : all_give (lease6_file one.managed) all ≡ one.lease6

first_given : (one : Loaded) (all : List Loaded) → AllByRecursion (AreOthers one) all → IsGiven (one ∷ all) one
first_given one all others =
    let four : one_gives (lease4_file one.managed) one ≡ first_of one.lease4 None =
    λ i. first_of (this (bytes_eq (lease4_file one.managed) (lease4_file one.managed)) one.lease4 (itself (lease4_file one.managed)) i)
    (not_this (bytes_eq (lease4_file one.managed) (lease6_file one.managed)) one.lease6
    (ends_differ (lease4_file one.managed) (lease6_file one.managed) 52 54 (ends4 one.managed) (ends6 one.managed) (λ e. absurd (omega (arith, e)))) i) in
    let six : one_gives (lease6_file one.managed) one ≡ one.lease6 =
    λ i. first_of (not_this (bytes_eq (lease6_file one.managed) (lease4_file one.managed)) one.lease4
    (ends_differ (lease6_file one.managed) (lease4_file one.managed) 54 52 (ends6 one.managed) (ends4 one.managed) (λ e. absurd (omega (arith, e)))) i)
    (this (bytes_eq (lease6_file one.managed) (lease6_file one.managed)) one.lease6 (itself (lease6_file one.managed)) i) in
    record {
      four =
          (λ i. first_of (four i)
          (none_gives (lease4_file one.managed) all (all_map (AreOthers one) (HasNoName (lease4_file one.managed)) (has_no_name4 one) all others) i))
          ∙ first_alone (first_of one.lease4 None) ∙ first_alone one.lease4;
      six =
          (λ i. first_of (six i)
          (none_gives (lease6_file one.managed) all (all_map (AreOthers one) (HasNoName (lease6_file one.managed)) (has_no_name6 one) all others) i))
          ∙ first_alone one.lease6;
    }

later_given : (first : Loaded) (all : List Loaded) (one : Loaded) → AreOthers first one → IsGiven all one → IsGiven (first ∷ all) one
later_given first all one others given =
    let back : AreOthers one first = record { names = turned (name_text first.managed.spec.name) (name_text one.managed.spec.name) others.names } in
    record {
      four = (λ i. first_of (one_none (lease4_file one.managed) first (has_no_name4 one first back) i) (given.four i));
      six = (λ i. first_of (one_none (lease6_file one.managed) first (has_no_name6 one first back) i) (given.six i));
    }

abbrev names_of : List Loaded → List (List ℕ)
names_of all = map (λ (m : Managed). name_text m.spec.name) (map (λ (one : Loaded). one.managed) all)

unlike_names : (first : Loaded) (all : List Loaded) → AllByRecursion (λ name. bytes_eq (name_text first.managed.spec.name) name ≡ false) (names_of all)
    → AllByRecursion (AreOthers first) all
unlike_names first [] apart = tt
unlike_names first (one ∷ all) apart = (record { names = apart.0 }, unlike_names first all apart.1)

each_given : (all : List Loaded) → IsDistinct bytes_eq (names_of all) → AllByRecursion (IsGiven all) all
unfolding IsDistinct
each_given [] apart = tt
each_given (one ∷ all) apart =
    let others : AllByRecursion (AreOthers one) all = unlike_names one all apart.0 in
    (first_given one all others, all_both (AreOthers one) (IsGiven all) (IsGiven (one ∷ all)) (later_given one all) all others (each_given all apart.1))

-- ---- what the calls show

-- what the calls show of its files is what was read of them
pub record IsShown (calls : List Call) (one : Loaded) : Type 0 where
  pub four : read_from (lease4_file one.managed) calls ≡ one.lease4
  pub six : read_from (lease6_file one.managed) calls ≡ one.lease6

-- a lease's file among all that were read
among_files : (file : List ℕ) (byte : ℕ) → last_of 0 file ≡ byte → (byte ≡ 100 → ⊥) → (byte ≡ 102 → ⊥) → (files : FilesLoaded)
    → files_give file files ≡ all_give file files.ifaces
among_files file byte ends no_duid no_resolver files =
    (λ i. first_of (not_this (bytes_eq file duid_file) files.duid (ends_differ file duid_file byte 100 ends duid_ends no_duid) i)
    (first_of (all_give file files.ifaces)
    (not_this (bytes_eq file resolver_file) (Some files.resolver) (ends_differ file resolver_file byte 102 ends resolver_ends no_resolver) i)))
    ∙ first_alone (all_give file files.ifaces)

module _ (managed : List Managed) (front reads rest : List Call) (files : FilesLoaded) (makes : Makes (loading_files managed) reads files)
    (before : (file : List ℕ) → AllByRecursion (IsOther file) front) (behind : (file : List ℕ) → AllByRecursion (IsOther file) rest) where
  shown_of : (file : List ℕ) → read_from file (front ++ (reads ++ rest)) ≡ files_give file files
  shown_of file =
      both_read file front (reads ++ rest)
      ∙ ap (λ (found : Option Reading). first_of found (read_from file (reads ++ rest))) (none_read file front (before file))
      ∙ both_read file reads rest ∙ ap (λ (found : Option Reading). first_of (read_from file reads) found) (none_read file rest (behind file))
      ∙ first_alone (read_from file reads) ∙ files_shown file managed reads files makes

  pub duid_is : duid_read (front ++ (reads ++ rest)) ≡ files.duid
  duid_is = shown_of duid_file ∙ duid_given files

  lease_shown : (one : Loaded) → IsGiven files.ifaces one → IsShown (front ++ (reads ++ rest)) one
  lease_shown one given = record {
    four =
        shown_of (lease4_file one.managed)
        ∙ among_files (lease4_file one.managed) 52 (ends4 one.managed) (λ e. absurd (omega (arith, e))) (λ e. absurd (omega (arith, e))) files ∙ given.four;
    six =
        shown_of (lease6_file one.managed)
        ∙ among_files (lease6_file one.managed) 54 (ends6 one.managed) (λ e. absurd (omega (arith, e))) (λ e. absurd (omega (arith, e))) files ∙ given.six;
  }

  pub leases_shown : AreNamedApart managed → AllByRecursion (IsShown (front ++ (reads ++ rest))) files.ifaces
  leases_shown apart =
      all_map (IsGiven files.ifaces) (IsShown (front ++ (reads ++ rest))) lease_shown files.ifaces
      (each_given files.ifaces
      (subst (λ (ms : List Managed). IsDistinct bytes_eq (map (λ (m : Managed). name_text m.spec.name) ms))
      (sym (files_are_loaded managed reads files makes)) apart))

-- ---- the leases with which the interfaces begin

-- they are those that the calls show
pub record KeepsShown (calls : List Call) (b : Beginning) : Type 0 where
  pub four : b.kept4 ≡ kept4_shown calls b.managed
  pub six : b.kept6 ≡ kept6_shown calls b.managed

pub beginnings_shown : (duid : List ℕ) (calls : List Call) (all : List Loaded) → AllByRecursion (IsShown calls) all
    → AllByRecursion (KeepsShown calls) (map (beginning_of duid) all)
beginnings_shown duid calls [] shown = tt
beginnings_shown duid calls (one ∷ all) shown = (
  record {
    four = ap (option_and_then (kept_by one.managed.spec)) (sym shown.0.four);
    six = ap (option_and_then (kept6_by one.managed.spec)) (sym shown.0.six);
  },
  beginnings_shown duid calls all shown.1,
)
