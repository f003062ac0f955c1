-- A life makes its calls of the store in their turn, wherever it is cut off: no aside is put in place that it didn't write and sync
-- right before, and what it puts in place or removes is one of its files or an aside.
use Rattle.std.proofs.Common.{◌≡◌, ◌||◌, ℕ, Bool, true, false, ◌⊎◌, inl, inr, List, [], ◌∷◌, ◌++◌, map, Option, Some, None, refl, sym, ap, ap₂, subst, ◌∙◌, cond, append_assoc}
use Rattle.std.specs.Prelude.{flat_map}
use Rattle.std.specs.List.{AllByRecursion}
use Rattle.std.proofs.lemmas.List.{map-append}
use Rattle.std.proofs.lemmas.Grind.{flat_map-append}
use Rattle.net_types.proofs.CaseLaws.{gated}
use Rattle.net_types.proofs.AllLaws.{all_map, all_mapped}
use Rattle.net_types.specs.declared.interface.IfSpec.{IfSpec}
use Rattle.world.specs.declared.wakes.Begin.{Begin}
use Rattle.world.specs.declared.wakes.Wake.{Wake}
use Rattle.world.specs.FileNames.{is_name}
use Rattle.world.specs.FileLists.{is_aside}
use Rattle.world.specs.StoreCalls.{StoreCall, Reading}
use Rattle.world.proofs.NameOrder.{name_itself}
use Rattle.file_choices.specs.Savings.{Saving, Idle, Written, Synced, Put, saving_after, IsFree, is_kept, MayCome, NamesAsides, AreInTurn}
use Rattle.file_choices.proofs.Choosing.{stay_whole}
use Rattle.settings.specs.declared.interfaces.Managed.{Managed}
use Rattle.turn_model.specs.ClientModel.declared.interfaces.Iface.{Iface}
use Rattle.turn_model.specs.ClientModel.ClientSettings.{runs_dhcp4}
use Rattle.turn_model.specs.ClientModel.ClientSettings6.{runs_dhcp6, some_need_duid}
use Rattle.turn_model.specs.ClientModel.Clients.{ClientStep, rows_of}
use Rattle.machine.specs.Moment.{moment_of}
use Rattle.device_calls.specs.Calls.{Call, Link, Host, Store, Hook, Dropped, Ask, AnswerTo, made, store_call, Read, SyncAside, RenameAside, Settle}
use Rattle.device_calls.specs.Programs.{Asks, Done, Then, after, Answers, calls_with, result_with}
use Rattle.device_calls.specs.Fronts.{Fronts}
use Rattle.turn_model.specs.KeptFiles.{Keeps, Duid, Lease4, Lease6, Resolver, KeptFile, wanted_in, if_done, bringing, is_settled, keeping_one, keeping, known_after}
use Rattle.turn_model.specs.Loading.{Loaded, loaded, reading_if, loading_one, loading, FilesLoaded, files_loaded, loading_files, duid_file, resolver_file, lease4_file, lease6_file, file_with, files_by, files_of, duid_with}
use Rattle.turn_model.specs.Hooking.{polling, hooking}
use Rattle.turn_model.specs.Turns.{Life, Outlook, turn_asks, acting, offering, hosting, outlook_with, step_of, turn_moment, stop_after}
use Rattle.turn_model.specs.Opening.{removing, clearing_listed, clearing, opening_asks, opening_step, outlook_from}
use Rattle.turn_model.specs.Lives.{Met, AreTurns, life_after, turns_calls}
use Rattle.turn_model.specs.LifeFronts.{FailsWait, BeginsTurn, FrontOfTurn, FrontOfLife}
use Rattle.turn_model.specs.FilesInLife.{Filed, filed_if, filed_for}
use Rattle.file_evidence.specs.WholeFiles.{kept_names, LifeStaysWhole}
use Rattle.turn_model.proofs.Asking.{AsksOnly, LinkAsks, HostAsks, HookAsks, offering_only, hosting_only, polling_only, hooking_only}

-- the names of files
abbrev names_of : List KeptFile → List (List ℕ)
names_of files = map (λ (file : KeptFile). file.name) files

abbrev filed_names : List Filed → List (List ℕ)
filed_names filed = map (λ (f : Filed). f.name) filed

module _ (names : List (List ℕ)) where
  -- ---- questions one after another

  abbrev May : Call → Saving → Type 0
  May (Store call) saving = MayCome names call saving
  May (Link call) saving = Unit {0}
  May (Host call) saving = Unit {0}
  May (Hook number call) saving = Unit {0}
  May (Dropped job) saving = Unit {0}

  abbrev then_saving : Call → Saving → Saving
  then_saving (Store call) saving = saving_after call saving
  then_saving (Link call) saving = saving
  then_saving (Host call) saving = saving
  then_saving (Hook number call) saving = saving
  then_saving (Dropped job) saving = saving

  abbrev Lists : Call → Type 0
  Lists (Store call) = NamesAsides call
  Lists (Link call) = Unit {0}
  Lists (Host call) = Unit {0}
  Lists (Hook number call) = Unit {0}
  Lists (Dropped job) = Unit {0}

  -- whatever is answered, where listings name asides alone each call comes in its turn, and at the end nothing is left to be settled
  abbrev InTurn : {A : Type 0} → (A → Type 0) → Asks A → Saving → Type 0
  InTurn Gives (Done x) saving = IsFree saving × Gives x
  InTurn Gives (Then ask next) saving =
      (answer : AnswerTo ask) → Lists (made ask answer) → May (made ask answer) saving × InTurn Gives (next answer) (then_saving (made ask answer) saving)

  abbrev Always : {A : Type 0} → (A → Type 0) → Asks A → Type 0
  Always Gives asks = (saving : Saving) → IsFree saving → InTurn Gives asks saving

  turn_then : {A B : Type 0} (P : A → Type 0) (Q : B → Type 0) (asks : Asks A) (more : A → Asks B) (saving : Saving) → InTurn P asks saving
      → ((x : A) → P x → Always Q (more x))
      → InTurn Q (after asks more) saving
  turn_then P Q (Done x) more saving first later = later x first.1 saving first.0
  turn_then P Q (Then ask next) more saving first later =
      λ answer lists. ((first answer lists).0, turn_then P Q (next answer) more (then_saving (made ask answer) saving) (first answer lists).1 later)

  always_then : {A B : Type 0} (P : A → Type 0) (Q : B → Type 0) (asks : Asks A) (more : A → Asks B) → Always P asks → ((x : A) → P x → Always Q (more x))
      → Always Q (after asks more)
  always_then P Q asks more first later saving free = turn_then P Q asks more saving (first saving free) later

  done_always : {A : Type 0} (P : A → Type 0) (x : A) → P x → Always P (Done x)
  done_always P x is saving free = (free, is)

  -- ---- questions that put no aside in place

  abbrev IsEasy : Ask → Type 0
  IsEasy ask = (answer : AnswerTo ask) (saving : Saving) → IsFree saving → May (made ask answer) saving × IsFree (then_saving (made ask answer) saving)

  abbrev Any : {A : Type 0} → A → Type 0
  Any x = Unit {0}

  easy : {A : Type 0} (asks : Asks A) → AsksOnly IsEasy asks → Always Any asks
  easy (Done x) only saving free = (free, tt)
  easy (Then ask next) only saving free =
      λ answer lists. ((only.0 answer saving free).0, easy (next answer) (only.1 answer) (then_saving (made ask answer) saving) (only.0 answer saving free).1)

  link_easy : LinkAsks IsEasy
  link_easy = record { offer = λ iface frame answer saving free. (tt, free) }

  host_easy : HostAsks IsEasy
  host_easy = record { list = λ answer saving free. (tt, free); change = λ change answer saving free. (tt, free) }

  hooks_easy : HookAsks IsEasy
  hooks_easy = record {
    start = λ job answer saving free. (tt, free);
    poll = λ number answer saving free. (tt, free);
    abandon = λ number answer saving free. (tt, free);
    drop = λ job answer saving free. (tt, free);
  }

  -- ---- clearing

  aside_removed : (name : List ℕ) (done : Bool) (saving : Saving) → is_aside name ≡ true → IsFree (saving_after (StoreCall.RemovedFile name done) saving)
  aside_removed name done saving aside = subst (λ (b : Bool). IsFree (cond b Idle (cond done Put Idle))) (sym aside) tt

  removing_always : (listed : List (List ℕ)) → AllByRecursion (λ name. is_aside name ≡ true) listed → Always Any (removing listed)
  removing_always [] asides saving free = λ done lists. (tt, (tt, tt))
  removing_always (name ∷ listed) asides saving free =
      λ done lists. (
        (free, ap (λ (b : Bool). b || is_kept names name) asides.0),
        removing_always listed asides.1 (saving_after (StoreCall.RemovedFile name done) saving) (aside_removed name done saving asides.0),
      )

  listed_always : (listed : Option (List (List ℕ))) → NamesAsides (StoreCall.ListedAsides listed) → Always Any (clearing_listed listed)
  listed_always None asides = λ saving free. (free, tt)
  listed_always (Some []) asides = λ saving free. (free, tt)
  listed_always (Some (name ∷ listed)) asides = removing_always (name ∷ listed) asides

  clearing_always : Always Any clearing
  clearing_always saving free = λ listed asides. (free, listed_always listed asides Idle tt)

  -- ---- reading: the files that are known then are those that are to be kept

  abbrev ReadAs : Bool → List ℕ → Option Reading → Type 0
  ReadAs is_read name reading = (keeps : Keeps) → names_of (file_with keeps name reading) ≡ filed_names (filed_if is_read keeps name)

  reading_always : (is_read : Bool) (name : List ℕ) → Always (ReadAs is_read name) (reading_if is_read name)
  reading_always true name saving free = λ reading lists. (free, (tt, λ keeps. refl))
  reading_always false name saving free = (free, λ keeps. refl)

  abbrev LoadedAs : Managed → Loaded → Type 0
  LoadedAs managed one = names_of (files_by one) ≡ filed_names (filed_for managed)

  loaded_as : (m : Managed) (lease4 lease6 : Option Reading) → ReadAs (runs_dhcp4 m.conf) (lease4_file m) lease4
      → ReadAs (runs_dhcp6 m.conf) (lease6_file m) lease6 → LoadedAs m (loaded m lease4 lease6)
  loaded_as m lease4 lease6 is4 is6 =
      map-append (λ (file : KeptFile). file.name) (file_with (Lease4 m.spec.index.number) (lease4_file m) lease4)
      (file_with (Lease6 m.spec.index.number) (lease6_file m) lease6)
      ∙ ap₂ (λ (a b : List (List ℕ)). a ++ b) (is4 (Lease4 m.spec.index.number)) (is6 (Lease6 m.spec.index.number))
      ∙ sym
      (map-append (λ (f : Filed). f.name) (filed_if (runs_dhcp4 m.conf) (Lease4 m.spec.index.number) (lease4_file m))
      (filed_if (runs_dhcp6 m.conf) (Lease6 m.spec.index.number) (lease6_file m)))

  one_always : (m : Managed) → Always (LoadedAs m) (loading_one m)
  one_always m =
      let asks6 : Asks (Option Reading) = reading_if (runs_dhcp6 m.conf) (lease6_file m) in
      always_then (ReadAs (runs_dhcp4 m.conf) (lease4_file m)) (LoadedAs m) (reading_if (runs_dhcp4 m.conf) (lease4_file m))
      (λ lease4. after asks6 (λ lease6. Done (loaded m lease4 lease6)))
      (reading_always (runs_dhcp4 m.conf) (lease4_file m))
      (λ lease4 is4. always_then (ReadAs (runs_dhcp6 m.conf) (lease6_file m)) (LoadedAs m) asks6 (λ lease6. Done (loaded m lease4 lease6))
      (reading_always (runs_dhcp6 m.conf) (lease6_file m))
      (λ lease6 is6. done_always (LoadedAs m) (loaded m lease4 lease6) (loaded_as m lease4 lease6 is4 is6)))

  abbrev AllLoaded : List Managed → List Loaded → Type 0
  AllLoaded managed ifaces = names_of (flat_map files_by ifaces) ≡ filed_names (flat_map filed_for managed)

  more_loaded : (m : Managed) (managed : List Managed) (first : Loaded) (rest : List Loaded) → LoadedAs m first → AllLoaded managed rest
      → AllLoaded (m ∷ managed) (first ∷ rest)
  more_loaded m managed first rest one others =
      map-append (λ (file : KeptFile). file.name) (files_by first) (flat_map files_by rest)
      ∙ ap₂ (λ (a b : List (List ℕ)). a ++ b) one others ∙ sym (map-append (λ (f : Filed). f.name) (filed_for m) (flat_map filed_for managed))

  loading_always : (managed : List Managed) → Always (AllLoaded managed) (loading managed)
  loading_always [] = done_always (AllLoaded []) [] refl
  loading_always (m ∷ managed) =
      always_then (LoadedAs m) (AllLoaded (m ∷ managed)) (loading_one m) (λ first. after (loading managed) (λ rest. Done (first ∷ rest))) (one_always m)
      (λ first one. always_then (AllLoaded managed) (AllLoaded (m ∷ managed)) (loading managed) (λ rest. Done (first ∷ rest)) (loading_always managed)
      (λ rest others. done_always (AllLoaded (m ∷ managed)) (first ∷ rest) (more_loaded m managed first rest one others)))

  abbrev FilesAs : List Managed → FilesLoaded → Type 0
  FilesAs managed files = names_of (files_of managed files) ≡ kept_names managed

  files_as : (managed : List Managed) (duid : Option Reading) (ifaces : List Loaded) (resolver : Reading) → ReadAs (some_need_duid managed) duid_file duid
      → AllLoaded managed ifaces
      → FilesAs managed (files_loaded duid ifaces resolver)
  files_as managed duid ifaces resolver is all =
      let files : FilesLoaded = files_loaded duid ifaces resolver in
      let last : List KeptFile = file_with Resolver resolver_file (Some resolver) in
      map-append (λ (file : KeptFile). file.name) (file_with (Duid (duid_with managed files)) duid_file duid) (flat_map files_by ifaces ++ last)
      ∙ ap₂ (λ (a b : List (List ℕ)). a ++ b) (is (Duid (duid_with managed files)) ∙ unkept (some_need_duid managed))
      (map-append (λ (file : KeptFile). file.name) (flat_map files_by ifaces) last ∙ ap (λ (a : List (List ℕ)). a ++ resolver_file ∷ []) all
      ∙ sym (map-append (λ (f : Filed). f.name) (flat_map filed_for managed) (filed_if true Resolver resolver_file)))
      ∙ sym
      (map-append (λ (f : Filed). f.name) (filed_if (some_need_duid managed) (Duid []) duid_file)
      (flat_map filed_for managed ++ filed_if true Resolver resolver_file))
    where
      unkept : (b : Bool)
          → filed_names (filed_if b (Duid (duid_with managed (files_loaded duid ifaces resolver))) duid_file) ≡ filed_names (filed_if b (Duid []) duid_file)
      unkept true = refl
      unkept false = refl

  files_always : (managed : List Managed) → Always (FilesAs managed) (loading_files managed)
  files_always managed =
      let resolver_asks : Option Reading → List Loaded → Asks FilesLoaded =
      λ duid ifaces. Then (Read resolver_file) (λ resolver. Done (files_loaded duid ifaces resolver)) in
      always_then (ReadAs (some_need_duid managed) duid_file) (FilesAs managed) (reading_if (some_need_duid managed) duid_file)
      (λ duid. after (loading managed) (resolver_asks duid))
      (reading_always (some_need_duid managed) duid_file)
      (λ duid is. always_then (AllLoaded managed) (FilesAs managed) (loading managed) (resolver_asks duid) (loading_always managed)
      (λ ifaces all saving free. λ resolver lists. (free, (tt, files_as managed duid ifaces resolver is all))))

  -- ---- a file that is brought to what it is to hold

  abbrev settling : Asks Bool
  settling = Then Settle (λ settled. Done settled)

  abbrev renaming : List ℕ → Asks Bool
  renaming name = Then (RenameAside name) (λ renamed. if_done renamed settling)

  abbrev syncing : List ℕ → Asks Bool
  syncing name = Then (SyncAside name) (λ synced. if_done synced (renaming name))

  -- what was put in place or removed is settled; where that failed, nothing was
  settled_turn : (done : Bool) (saving : Saving) → (done ≡ false → IsFree saving) → InTurn Any (if_done done settling) saving
  settled_turn true saving free = λ settled lists. (tt, (tt, tt))
  settled_turn false saving free = (free refl, tt)

  renamed_free : (done : Bool) → done ≡ false → IsFree (cond done Put Idle)
  renamed_free true e = cc
  renamed_free false e = tt

  removed_free : (aside done : Bool) → done ≡ false → IsFree (cond aside Idle (cond done Put Idle))
  removed_free true done e = tt
  removed_free false done e = renamed_free done e

  module _ (name : List ℕ) (kept : is_kept names name ≡ true) where
    renaming_turn : (bytes : List ℕ) → InTurn Any (renaming name) (Synced name bytes)
    renaming_turn bytes = λ renamed lists. ((name_itself name, kept), settled_turn renamed (cond renamed Put Idle) (renamed_free renamed))

    synced_turn : (bytes : List ℕ) (done : Bool)
        → InTurn Any (if_done done (renaming name)) (saving_after (StoreCall.SyncedAside name done) (Written name bytes))
    synced_turn bytes true =
        subst (λ (saving : Saving). InTurn Any (renaming name) saving) (sym (ap (λ (b : Bool). cond b (Synced name bytes) Idle) (name_itself name)))
        (renaming_turn bytes)
    synced_turn bytes false = (tt, tt)

    written_turn : (bytes : List ℕ) (done : Bool) → InTurn Any (if_done done (syncing name)) (cond done (Written name bytes) Idle)
    written_turn bytes true = λ synced lists. (tt, synced_turn bytes synced)
    written_turn bytes false = (tt, tt)

    or_kept : (b : Bool) → (b || is_kept names name) ≡ true
    or_kept true = refl
    or_kept false = kept

    bringing_always : (wanted : Option (List ℕ)) → Always Any (bringing name wanted)
    bringing_always (Some bytes) saving free = λ written lists. (free, written_turn bytes written)
    bringing_always None saving free =
        λ removed lists.
        ((free, or_kept (is_aside name)), settled_turn removed (cond (is_aside name) Idle (cond removed Put Idle)) (removed_free (is_aside name) removed))

  abbrev SameName : KeptFile → KeptFile → Type 0
  SameName file later = later.name ≡ file.name

  kept_always : (wanted : Option (List ℕ)) (file : KeptFile) → is_kept names file.name ≡ true → Always (SameName file) (keeping_one wanted file)
  kept_always wanted file kept =
      let then_known : Bool → Asks KeptFile = λ done. Done (record file { known = known_after wanted done }) in
      gated (Always (SameName file)) (is_settled file.keeps file.known wanted) (Done file) (after (bringing file.name wanted) then_known)
      (done_always (SameName file) file refl)
      (always_then Any (SameName file) (bringing file.name wanted) then_known (bringing_always file.name kept wanted)
      (λ done any. done_always (SameName file) (record file { known = known_after wanted done }) refl))

  abbrev SameNames : List KeptFile → List KeptFile → Type 0
  SameNames files later = names_of later ≡ names_of files

  keeping_always : (ifaces : List Iface) (files : List KeptFile) → AllByRecursion (λ (file : KeptFile). is_kept names file.name ≡ true) files
      → Always (SameNames files) (keeping ifaces files)
  keeping_always ifaces [] kept = done_always (SameNames []) [] refl
  keeping_always ifaces (file ∷ files) kept =
      always_then (SameName file) (SameNames (file ∷ files)) (keeping_one (wanted_in ifaces file.keeps) file)
      (λ first. after (keeping ifaces files) (λ rest. Done (first ∷ rest)))
      (kept_always (wanted_in ifaces file.keeps) file kept.0)
      (λ first same. always_then (SameNames files) (SameNames (file ∷ files)) (keeping ifaces files) (λ rest. Done (first ∷ rest))
      (keeping_always ifaces files kept.1)
      (λ rest sames. done_always (SameNames (file ∷ files)) (first ∷ rest) (ap₂ (λ (n : List ℕ) (ns : List (List ℕ)). n ∷ ns) same sames)))

-- ---- the opening, and a turn

any_more : (name other : List ℕ) (names : List (List ℕ)) → is_kept names name ≡ true → is_kept (other ∷ names) name ≡ true
any_more name other names is = by (is_name name other)
  where
    by : (b : Bool) → (b || is_kept names name) ≡ true
    by true = refl
    by false = is

each_kept : (names : List (List ℕ)) → AllByRecursion (λ name. is_kept names name ≡ true) names
each_kept [] = tt
each_kept (name ∷ names) = (
  ap (λ (b : Bool). b || is_kept names name) (name_itself name),
  all_map (λ n. is_kept names n ≡ true) (λ n. is_kept (name ∷ names) n ≡ true) (λ n is. any_more n name names is) names (each_kept names),
)

all_kept : (names : List (List ℕ)) (files : List KeptFile) → names_of files ≡ names → AllByRecursion (λ (file : KeptFile). is_kept names file.name ≡ true) files
all_kept names files are =
    all_mapped (λ name. is_kept names name ≡ true) (λ (file : KeptFile). file.name) files
    (subst (λ (ns : List (List ℕ)). AllByRecursion (λ name. is_kept names name ≡ true) ns) (sym are) (each_kept names))

module _ (names : List (List ℕ)) where
  abbrev KeepsNames : Life → Type 0
  KeepsNames life = names_of life.files ≡ names

  acting_always : (managed : List Managed) (outlook : Outlook) (step : ClientStep) (moment : ℕ) (stop : Option ℕ) → names_of outlook.files ≡ names
      → Always names KeepsNames (acting managed outlook step moment stop)
  acting_always managed outlook step moment stop are =
      always_then names (Any names) KeepsNames (offering step.sends 0) _
      (easy names (offering step.sends 0) (offering_only (IsEasy names) (link_easy names) step.sends 0))
      (λ unsent any. always_then names (Any names) KeepsNames (hosting managed (rows_of step.client) outlook.known) _
      (easy names _ (hosting_only (IsEasy names) (host_easy names) managed (rows_of step.client) outlook.known))
      (λ known any. always_then names (Any names) KeepsNames (hooking moment step.jobs outlook.hooks) _
      (easy names _ (hooking_only (IsEasy names) (hooks_easy names) moment step.jobs outlook.hooks))
      (λ hooks any. always_then names (SameNames names outlook.files) KeepsNames (keeping step.client.ifaces outlook.files) _
      (keeping_always names step.client.ifaces outlook.files (all_kept names outlook.files are))
      (λ files same saving free. (free, same ∙ are)))))

  turn_always : (managed : List Managed) (life : Life) (wake : Wake) (bytes : List ℕ) → KeepsNames life
      → Always names KeepsNames (turn_asks managed life wake bytes)
  unfolding turn_asks
  turn_always managed life wake bytes are =
      always_then names (Any names) KeepsNames (polling (turn_moment life wake) life.hooks) _
      (easy names _ (polling_only (IsEasy names) (hooks_easy names) (turn_moment life wake) life.hooks))
      (λ hooks any. acting_always managed (outlook_with life hooks) (step_of life wake bytes) (turn_moment life wake)
      (stop_after life.stop wake.event (turn_moment life wake)) are)

opening_always : (managed : List Managed) (specs : List IfSpec) (begin : Begin)
    → Always (kept_names managed) (KeepsNames (kept_names managed)) (opening_asks managed specs begin)
unfolding opening_asks
opening_always managed specs begin =
    let names : List (List ℕ) = kept_names managed in
    always_then names (Any names) (KeepsNames names) clearing _ (clearing_always names)
    (λ _ any. always_then names (FilesAs names managed) (KeepsNames names) (loading_files managed) _ (files_always names managed)
    (λ files are. acting_always names managed (outlook_from managed files) (opening_step managed files specs begin) (moment_of begin.at) None are))

-- ---- fronts

module _ (names : List (List ℕ)) where
  -- a call, and those after it
  one_more : (call : Call) (rest : List StoreCall) (saving : Saving)
      → (Lists names call → May names call saving × AreInTurn names rest (then_saving names call saving))
      → AreInTurn names (store_call call ++ rest) saving
  one_more (Store call) rest saving h = h
  one_more (Link call) rest saving h = (h tt).1
  one_more (Host call) rest saving h = (h tt).1
  one_more (Hook number call) rest saving h = (h tt).1
  one_more (Dropped job) rest saving h = (h tt).1

  front_comes : {A : Type 0} (P : A → Type 0) (asks : Asks A) (calls : List Call) (saving : Saving) → Fronts asks calls → InTurn names P asks saving
      → AreInTurn names (flat_map store_call calls) saving
  front_comes P (Done x) [] saving front turn = tt
  front_comes P (Done x) (call ∷ calls) saving front turn = absurd front
  front_comes P (Then ask next) [] saving front turn = tt
  front_comes P (Then ask next) (call ∷ calls) saving front turn =
      subst (λ (c : Call). AreInTurn names (store_call c ++ flat_map store_call calls) saving) (sym front.1)
      (one_more (made ask front.0) (flat_map store_call calls) saving
      (λ lists. ((turn front.0 lists).0, front_comes P (next front.0) calls (then_saving names (made ask front.0) saving) front.2 (turn front.0 lists).1)))

  one_and : (call : Call) (here rest : List StoreCall) (saving : Saving)
      → (Lists names call → May names call saving × AreInTurn names (here ++ rest) (then_saving names call saving))
      → AreInTurn names ((store_call call ++ here) ++ rest) saving
  one_and (Store call) here rest saving h = h
  one_and (Link call) here rest saving h = (h tt).1
  one_and (Host call) here rest saving h = (h tt).1
  one_and (Hook number call) here rest saving h = (h tt).1
  one_and (Dropped job) here rest saving h = (h tt).1

  -- all of it, and what comes then
  whole_comes : {A : Type 0} (P : A → Type 0) (asks : Asks A) (answers : Answers asks) (rest : List StoreCall) (saving : Saving) → InTurn names P asks saving
      → (P (result_with asks answers) → (then : Saving) → IsFree then → AreInTurn names rest then)
      → AreInTurn names (flat_map store_call (calls_with asks answers) ++ rest) saving
  whole_comes P (Done x) answers rest saving turn later = later turn.1 saving turn.0
  whole_comes P (Then ask next) answers rest saving turn later =
      one_and (made ask answers.0) (flat_map store_call (calls_with (next answers.0) answers.1)) rest saving
      (λ lists. (
        (turn answers.0 lists).0,
        whole_comes P (next answers.0) answers.1 rest (then_saving names (made ask answers.0) saving) (turn answers.0 lists).1 later,
      ))

  module _ (managed : List Managed) where
    last_comes : (life : Life) (last : List Call) → KeepsNames names life → FrontOfTurn managed life last → (saving : Saving) → IsFree saving
        → AreInTurn names (flat_map store_call last) saving
    last_comes life [] are front saving free = tt
    last_comes life (call ∷ calls) are front saving free = by front.1
      where
        by : FailsWait life call calls ⊎ BeginsTurn managed life call calls → AreInTurn names (flat_map store_call (call ∷ calls)) saving
        by (inl fails) =
            subst (λ (cs : List Call). AreInTurn names (flat_map store_call cs) saving) (sym (ap₂ (λ (c : Call) (cs : List Call). c ∷ cs) fails.0 fails.1)) tt
        by (inr begins) =
            subst (λ (c : Call). AreInTurn names (flat_map store_call (c ∷ calls)) saving) (sym begins.waited)
            (front_comes (KeepsNames names) (turn_asks managed life begins.wake begins.bytes) calls saving begins.front
            (turn_always names managed life begins.wake begins.bytes are saving free))

    turns_come : (life : Life) (mets : List Met) (last : List Call) → AreTurns managed life mets → KeepsNames names life
        → FrontOfTurn managed (life_after life mets) last
        → (saving : Saving) → IsFree saving → AreInTurn names (flat_map store_call (turns_calls life mets ++ last)) saving
    turns_come life [] last turns are front saving free = last_comes life last are front saving free
    turns_come life (met ∷ mets) last turns are front saving free =
        let makes = turns.0.makes in
        let asks : Asks Life = turn_asks managed life met.wake met.bytes in
        let rest : List Call = turns_calls met.life mets ++ last in
        subst (λ (calls : List StoreCall). AreInTurn names calls saving)
        (sym (ap (λ (cs : List Call). flat_map store_call ((cs ++ turns_calls met.life mets) ++ last)) makes.calls_are
        ∙ ap (flat_map store_call) (append_assoc (calls_with asks makes.answers) (turns_calls met.life mets) last)
        ∙ flat_map-append store_call (calls_with asks makes.answers) rest))
        (whole_comes (KeepsNames names) asks makes.answers (flat_map store_call rest) saving (turn_always names managed life met.wake met.bytes are saving free)
        (λ named then freed. turns_come met.life mets last turns.1 (subst (KeepsNames names) (sym makes.result_is) named) front then freed))

pub life_comes : (managed : List Managed) (specs : List IfSpec) (calls : List Call) → FrontOfLife managed specs calls
    → AreInTurn (kept_names managed) (flat_map store_call calls) Idle
life_comes managed specs calls (inl opening) =
    front_comes (kept_names managed) (KeepsNames (kept_names managed)) (opening_asks managed specs opening.begin) calls Idle opening.front
    (opening_always managed specs opening.begin Idle tt)
life_comes managed specs calls (inr life) =
    let names : List (List ℕ) = kept_names managed in
    let asks : Asks Life = opening_asks managed specs life.opening.begin in
    let rest : List Call = turns_calls life.opening.life life.mets ++ life.last in
    subst (λ (cs : List StoreCall). AreInTurn names cs Idle)
    (sym (ap (flat_map store_call) life.calls_are ∙ ap (λ (cs : List Call). flat_map store_call (cs ++ rest)) life.opens.calls_are
    ∙ flat_map-append store_call (calls_with asks life.opens.answers) rest))
    (whole_comes names (KeepsNames names) asks life.opens.answers (flat_map store_call rest) Idle (opening_always managed specs life.opening.begin Idle tt)
    (λ named
    then free. turns_come names managed life.opening.life life.mets life.last life.turns
    (subst (KeepsNames names) (sym life.opens.result_is) named) life.front
    then free))

pub life_stays_whole : LifeStaysWhole
life_stays_whole managed specs calls front failing before =
    stay_whole failing (kept_names managed) (flat_map store_call calls) before (life_comes managed specs calls front)
