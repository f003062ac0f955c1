-- What each call of a program is, where it holds of every call of its kind.
use Rattle.std.proofs.Common.{ℕ, Bool, true, false, List, [], ◌∷◌, Option, Some, None, sym, subst}
use Rattle.std.specs.List.{AllByRecursion}
use Rattle.net_types.proofs.AllLaws.{all_join}
use Rattle.net_types.proofs.CaseLaws.{gated}
use Rattle.world.specs.HookCalls.{HookCall, Job}
use Rattle.world.specs.HostCalls.{HostCall}
use Rattle.world.specs.StoreCalls.{StoreCall, Reading, ReadFile}
use Rattle.world.specs.declared.rows.HostRow.{HostRow}
use Rattle.turn_model.specs.IfaceSettings.declared.interfaces.Managed.{Managed}
use Rattle.turn_model.specs.HostModel.declared.changes.HostChange.{HostChange}
use Rattle.turn_model.specs.HostModel.HostTurn.{changes}
use Rattle.turn_model.specs.ClientModel.declared.interfaces.Iface.{Iface}
use Rattle.turn_model.specs.ClientModel.ClientSettings.{runs_dhcp4}
use Rattle.turn_model.specs.ClientModel.ClientSettings6.{runs_dhcp6}
use Rattle.turn_model.specs.DeviceCalls.Calls.{Call, Host, Store, Hook, Dropped, Ask, AnswerTo, Read, SyncAside, RenameAside, Settle, made}
use Rattle.turn_model.specs.DeviceCalls.Programs.{Asks, Done, Then, after, Answers, calls_with, Makes}
use Rattle.turn_model.proofs.DeviceCalls.Programs.{MakesBoth, makes_both}
use Rattle.turn_model.specs.HookChild.Supervision.{Supervision}
use Rattle.turn_model.specs.Hooking.{hooking, polling}
use Rattle.turn_model.proofs.Asking.{AsksOnly, HookAsks, hooking_only, polling_only}
use Rattle.turn_model.specs.KeptFiles.{KeptFile, if_done, bringing, is_settled, known_after, keeping_one, keeping, wanted_in}
use Rattle.turn_model.specs.Loading.{Loaded, loaded, FilesLoaded, files_loaded, loading_one, loading, reading_if, lease4_file, lease6_file, resolver_file}
use Rattle.turn_model.specs.Turns.{known_with, changing, rows_on, hosting_listed, hosting}
use Rattle.turn_model.specs.Opening.{removing, clearing_listed, clearing}

-- a call that reads no file
abbrev pub IsNoRead : StoreCall → Type 0
IsNoRead (ReadFile name reading) = ⊥
IsNoRead call = Unit {0}

-- the last question about files
abbrev pub reading_resolver : (duid : Option Reading) → List Loaded → Asks FilesLoaded
reading_resolver duid ifaces = Then (Read resolver_file) (λ resolver. Done (files_loaded duid ifaces resolver))

module _ (N : Call → Type 0) where
  -- whatever the answers
  abbrev pub Each : {A : Type 0} → Asks A → Type 0
  Each {A} asks = (calls : List Call) (result : A) → Makes asks calls result → AllByRecursion N calls

  pub both_each : {A B : Type 0} (asks : Asks A) (more : A → Asks B) → Each asks → ((x : A) → Each (more x)) → Each (after asks more)
  both_each {A} {B} asks more first later calls result makes =
      let both : MakesBoth asks more calls result = makes_both asks more calls result makes in
      subst (AllByRecursion N) (sym both.calls_are)
      (all_join N both.first both.later (first both.first both.between both.makes_first) (later both.between both.later result both.makes_later))

  pub by_answers : {A : Type 0} (asks : Asks A) → ((answers : Answers asks) → AllByRecursion N (calls_with asks answers)) → Each asks
  by_answers asks all calls result makes = subst (AllByRecursion N) (sym makes.calls_are) (all makes.answers)

  pub done_each : {A : Type 0} (x : A) → Each (Done x)
  done_each x = by_answers (Done x) (λ answers. tt)

  -- ---- calls to the host, and those to the store that read no file

  module _ (host : (call : HostCall) → N (Host call)) (store : (call : StoreCall) → IsNoRead call → N (Store call)) where
    changing_each : (cs : List HostChange) (known : Option (List HostRow)) (answers : Answers (changing cs known))
        → AllByRecursion N (calls_with (changing cs known) answers)
    changing_each [] known answers = tt
    changing_each (c ∷ cs) known answers = (host _, changing_each cs (known_with answers.0 c known) answers.1)

    listed_each : (managed : List Managed) (wanted : List HostRow) (rows : Option (List HostRow)) (answers : Answers (hosting_listed managed wanted rows))
        → AllByRecursion N (calls_with (hosting_listed managed wanted rows) answers)
    listed_each managed wanted None answers = tt
    listed_each managed wanted (Some rows) answers = changing_each (changes (rows_on managed rows) wanted) (Some (rows_on managed rows)) answers

    hosting_answers : (managed : List Managed) (wanted : List HostRow) (known : Option (List HostRow)) (answers : Answers (hosting managed wanted known))
        → AllByRecursion N (calls_with (hosting managed wanted known) answers)
    hosting_answers managed wanted None answers = (host _, listed_each managed wanted answers.0 answers.1)
    hosting_answers managed wanted (Some known) answers = changing_each (changes known wanted) (Some known) answers

    pub hosting_each : (managed : List Managed) (wanted : List HostRow) (known : Option (List HostRow)) → Each (hosting managed wanted known)
    hosting_each managed wanted known = by_answers (hosting managed wanted known) (hosting_answers managed wanted known)

    removing_each : (names : List (List ℕ)) (answers : Answers (removing names)) → AllByRecursion N (calls_with (removing names) answers)
    removing_each [] answers = (store _ tt, tt)
    removing_each (name ∷ names) answers = (store _ tt, removing_each names answers.1)

    cleared_each : (names : Option (List (List ℕ))) (answers : Answers (clearing_listed names)) → AllByRecursion N (calls_with (clearing_listed names) answers)
    cleared_each None answers = tt
    cleared_each (Some []) answers = tt
    cleared_each (Some (name ∷ names)) answers = removing_each (name ∷ names) answers

    pub clearing_each : Each clearing
    clearing_each = by_answers clearing (λ answers. (store _ tt, cleared_each answers.0 answers.1))

    if_done_each : (done : Bool) (more : Asks Bool) → ((answers : Answers more) → AllByRecursion N (calls_with more answers))
        → (answers : Answers (if_done done more)) → AllByRecursion N (calls_with (if_done done more) answers)
    if_done_each true more all answers = all answers
    if_done_each false more all answers = tt

    bringing_each : (name : List ℕ) (wanted : Option (List ℕ)) (answers : Answers (bringing name wanted))
        → AllByRecursion N (calls_with (bringing name wanted) answers)
    bringing_each name (Some bytes) answers =
        let settle : Asks Bool = Then Settle (λ settled. Done settled) in
        let rename : Asks Bool = Then (RenameAside name) (λ renamed. if_done renamed settle) in
        let sync : Asks Bool = Then (SyncAside name) (λ synced. if_done synced rename) in (
          store _ tt,
          if_done_each answers.0 sync
              (λ a. (store _ tt, if_done_each a.0 rename (λ b. (store _ tt, if_done_each b.0 settle (λ c. (store _ tt, tt)) b.1)) a.1)) answers.1,
        )
    bringing_each name None answers = (store _ tt, if_done_each answers.0 (Then Settle (λ settled. Done settled)) (λ a. (store _ tt, tt)) answers.1)

    kept_each : (wanted : Option (List ℕ)) (file : KeptFile) → Each (keeping_one wanted file)
    kept_each wanted file =
        gated Each (is_settled file.keeps file.known wanted) (Done file)
        (after (bringing file.name wanted) (λ done. Done (record file { known = known_after wanted done })))
        (done_each file)
        (both_each (bringing file.name wanted) (λ done. Done (record file { known = known_after wanted done }))
        (by_answers (bringing file.name wanted) (bringing_each file.name wanted))
        (λ done. done_each (record file { known = known_after wanted done })))

    pub keeping_each : (ifaces : List Iface) (files : List KeptFile) → Each (keeping ifaces files)
    keeping_each ifaces [] calls result makes = done_each {A = List KeptFile} [] calls result makes
    keeping_each ifaces (file ∷ files) calls result makes =
        both_each (keeping_one (wanted_in ifaces file.keeps) file) (λ first. after (keeping ifaces files) (λ rest. Done (first ∷ rest)))
        (kept_each (wanted_in ifaces file.keeps) file)
        (λ first. both_each (keeping ifaces files) (λ rest. Done (first ∷ rest)) (keeping_each ifaces files) (λ rest. done_each (first ∷ rest))) calls result
        makes

  -- ---- calls to hooks, and jobs that are dropped

  -- each call of a question, whatever the answer
  abbrev EachMade : Ask → Type 0
  EachMade ask = (answer : AnswerTo ask) → N (made ask answer)

  only_made : {A : Type 0} (asks : Asks A) → AsksOnly EachMade asks → Each asks
  only_made {A} asks only = by_answers asks (by_asks asks only)
    where
      by_asks : (asks : Asks A) → AsksOnly EachMade asks → (answers : Answers asks) → AllByRecursion N (calls_with asks answers)
      by_asks (Done x) only answers = tt
      by_asks (Then ask next) only answers = (only.0 answers.0, by_asks (next answers.0) (only.1 answers.0) answers.1)

  module _ (hook : (number : ℕ) (call : HookCall) → N (Hook number call)) (dropped : (job : Job) → N (Dropped job)) where
    hook_made : HookAsks EachMade
    hook_made = record {
      start = λ job done. hook _ _;
      poll = λ number answer. hook _ _;
      abandon = λ number answer. hook _ _;
      drop = λ job answer. dropped job;
    }

    pub polling_each : (at : ℕ) (s : Supervision) → Each (polling at s)
    polling_each at s = only_made (polling at s) (polling_only EachMade hook_made at s)

    pub hooking_each : (at : ℕ) (jobs : List Job) (s : Supervision) → Each (hooking at jobs s)
    hooking_each at jobs s = only_made (hooking at jobs s) (hooking_only EachMade hook_made at jobs s)

  -- ---- reading the files

  -- each reading of such a file
  abbrev pub EachReading : (name : List ℕ) → Type 0
  EachReading name = (reading : Reading) → N (Store (ReadFile name reading))

  pub reading_each : (is_kept : Bool) (name : List ℕ) → EachReading name → Each (reading_if is_kept name)
  reading_each true name read = by_answers (reading_if true name) (λ answers. (read _, tt))
  reading_each false name read = done_each {A = Option Reading} None

  pub resolver_each : (duid : Option Reading) (ifaces : List Loaded) → EachReading resolver_file → Each (reading_resolver duid ifaces)
  resolver_each duid ifaces read = by_answers (reading_resolver duid ifaces) (λ answers. (read _, tt))

  module _ (read4 : (managed : Managed) → EachReading (lease4_file managed)) (read6 : (managed : Managed) → EachReading (lease6_file managed)) where
    abbrev lease6_asks : Managed → Asks (Option Reading)
    lease6_asks managed = reading_if (runs_dhcp6 managed.conf) (lease6_file managed)

    one_each : (managed : Managed) → Each (loading_one managed)
    one_each managed =
        both_each (reading_if (runs_dhcp4 managed.conf) (lease4_file managed))
        (λ lease4. after (lease6_asks managed) (λ lease6. Done (loaded managed lease4 lease6)))
        (reading_each (runs_dhcp4 managed.conf) (lease4_file managed) (read4 managed))
        (λ lease4. both_each (lease6_asks managed) (λ lease6. Done (loaded managed lease4 lease6))
        (reading_each (runs_dhcp6 managed.conf) (lease6_file managed) (read6 managed)) (λ lease6. done_each (loaded managed lease4 lease6)))

    pub loading_each : (managed : List Managed) → Each (loading managed)
    loading_each [] calls files makes = done_each {A = List Loaded} [] calls files makes
    loading_each (m ∷ managed) calls files makes =
        both_each (loading_one m) (λ first. after (loading managed) (λ rest. Done (first ∷ rest))) (one_each m)
        (λ first. both_each (loading managed) (λ rest. Done (first ∷ rest)) (loading_each managed) (λ rest. done_each (first ∷ rest))) calls files makes
