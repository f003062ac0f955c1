-- What holds of each question that the parts of an opening and of a turn ask, by the devices that are asked.
use Rattle.std.proofs.Common.{ℕ, Bool, true, false, List, [], ◌∷◌, Option, Some, None}
use Rattle.net_types.proofs.CaseLaws.{gated}
use Rattle.world.specs.declared.rows.HostRow.{HostRow}
use Rattle.world.specs.HookCalls.{Job}
use Rattle.world.specs.StoreCalls.{Reading}
use Rattle.client_model.specs.IfaceSettings.declared.interfaces.Managed.{Managed}
use Rattle.hook_child.specs.declared.child.Child.{Child}
use Rattle.hook_child.specs.Supervision as child
use Rattle.hook_child.specs.Supervision.{Supervision, Order, is_full, numbered, after_put, poll_order, after_poll, next_order, after_next}
use Rattle.client_model.specs.declared.interfaces.Iface.{Iface}
use Rattle.client_model.specs.ClientSettings.{runs_dhcp4}
use Rattle.client_model.specs.ClientSettings6.{runs_dhcp6, some_need_duid}
use Rattle.client_model.specs.Clients.{Sending}
use Rattle.client_model.specs.HostModel.declared.changes.HostChange.{HostChange}
use Rattle.client_model.specs.HostModel.HostTurn.{changes}
use Rattle.device_calls.specs.Calls.{Ask, AnswerTo, Offer, ListRows, Change, ListAsides, Read, WriteAside, SyncAside, RenameAside, RemoveFile, Settle, Start, Poll, Abandon, Drop}
use Rattle.device_calls.specs.Programs.{Asks, Done, Then, after}
use Rattle.turn_model.specs.KeptFiles.{KeptFile, wanted_in, if_done, bringing, is_settled, keeping_one, keeping, known_after}
use Rattle.turn_model.specs.Loading.{Loaded, loaded, reading_if, loading_one, loading, FilesLoaded, files_loaded, loading_files, duid_file, resolver_file, lease4_file, lease6_file}
use Rattle.turn_model.specs.Hooking.{heard, letting_go, polling_child, polling, putting_one, putting, starting, hooking}
use Rattle.turn_model.specs.Turns.{marked, offering, known_with, changing, rows_on, hosting_listed, hosting}
use Rattle.turn_model.specs.Opening.{removing, clearing_listed, clearing}

-- each question that a program may ask is so
abbrev pub AsksOnly : {A : Type 0} → (Ask → Type 0) → Asks A → Type 0
AsksOnly IsSo (Done x) = Unit {0}
AsksOnly IsSo (Then ask next) = IsSo ask × ((answer : AnswerTo ask) → AsksOnly IsSo (next answer))

-- the questions to each device are so
pub record LinkAsks (IsSo : Ask → Type 0) : Type 0 where
  pub offer : (iface : ℕ) (frame : List ℕ) → IsSo (Offer iface frame)

pub record HostAsks (IsSo : Ask → Type 0) : Type 0 where
  pub list : IsSo ListRows
  pub change : (change : HostChange) → IsSo (Change change)

pub record StoreAsks (IsSo : Ask → Type 0) : Type 0 where
  pub asides : IsSo ListAsides
  pub read : (name : List ℕ) → IsSo (Read name)
  pub write : (name bytes : List ℕ) → IsSo (WriteAside name bytes)
  pub sync : (name : List ℕ) → IsSo (SyncAside name)
  pub rename : (name : List ℕ) → IsSo (RenameAside name)
  pub remove : (name : List ℕ) → IsSo (RemoveFile name)
  pub settle : IsSo Settle

pub record HookAsks (IsSo : Ask → Type 0) : Type 0 where
  pub start : (job : Job) → IsSo (Start job)
  pub poll : (number : ℕ) → IsSo (Poll number)
  pub abandon : (number : ℕ) → IsSo (Abandon number)
  pub drop : (job : Job) → IsSo (Drop job)

module _ (IsSo : Ask → Type 0) where
  only_after : {A B : Type 0} (asks : Asks A) (more : A → Asks B) → AsksOnly IsSo asks → ((x : A) → AsksOnly IsSo (more x)) → AsksOnly IsSo (after asks more)
  only_after (Done x) more first later = later x
  only_after (Then ask next) more first later = (first.0, λ answer. only_after (next answer) more (first.1 answer) later)

  -- ---- the link

  module _ (link : LinkAsks IsSo) where
    pub offering_only : (sends : List Sending) (unsent : ℕ) → AsksOnly IsSo (offering sends unsent)
    offering_only [] unsent = tt
    offering_only (s ∷ sends) unsent = (link.offer s.iface.number s.bytes, λ taken. offering_only sends (marked unsent s.iface.number taken))

  -- ---- the host

  module _ (host : HostAsks IsSo) where
    changing_only : (cs : List HostChange) (known : Option (List HostRow)) → AsksOnly IsSo (changing cs known)
    changing_only [] known = tt
    changing_only (c ∷ cs) known = (host.change c, λ done. changing_only cs (known_with done c known))

    listed_only : (managed : List Managed) (wanted : List HostRow) (rows : Option (List HostRow)) → AsksOnly IsSo (hosting_listed managed wanted rows)
    listed_only managed wanted None = tt
    listed_only managed wanted (Some rows) = changing_only (changes (rows_on managed rows) wanted) (Some (rows_on managed rows))

    pub hosting_only : (managed : List Managed) (wanted : List HostRow) (known : Option (List HostRow)) → AsksOnly IsSo (hosting managed wanted known)
    hosting_only managed wanted None = (host.list, λ rows. listed_only managed wanted rows)
    hosting_only managed wanted (Some known) = changing_only (changes known wanted) (Some known)

  -- ---- the store: clearing, reading and keeping files

  module _ (store : StoreAsks IsSo) where
    removing_only : (names : List (List ℕ)) → AsksOnly IsSo (removing names)
    removing_only [] = (store.settle, λ done. tt)
    removing_only (name ∷ names) = (store.remove name, λ done. removing_only names)

    cleared_only : (names : Option (List (List ℕ))) → AsksOnly IsSo (clearing_listed names)
    cleared_only None = tt
    cleared_only (Some []) = tt
    cleared_only (Some (name ∷ names)) = removing_only (name ∷ names)

    pub clearing_only : AsksOnly IsSo clearing
    clearing_only = (store.asides, cleared_only)

    reading_only : (is_kept : Bool) (name : List ℕ) → AsksOnly IsSo (reading_if is_kept name)
    reading_only true name = (store.read name, λ reading. tt)
    reading_only false name = tt

    iface_only : (managed : Managed) → AsksOnly IsSo (loading_one managed)
    iface_only managed =
        let asks6 : Asks (Option Reading) = reading_if (runs_dhcp6 managed.conf) (lease6_file managed) in
        only_after (reading_if (runs_dhcp4 managed.conf) (lease4_file managed)) (λ lease4. after asks6 (λ lease6. Done (loaded managed lease4 lease6)))
        (reading_only (runs_dhcp4 managed.conf) (lease4_file managed))
        (λ lease4. only_after asks6 (λ lease6. Done (loaded managed lease4 lease6)) (reading_only (runs_dhcp6 managed.conf) (lease6_file managed))
        (λ lease6. tt))

    loading_only : (managed : List Managed) → AsksOnly IsSo (loading managed)
    loading_only [] = tt
    loading_only (m ∷ managed) =
        only_after (loading_one m) (λ first. after (loading managed) (λ rest. Done (first ∷ rest))) (iface_only m)
        (λ first. only_after (loading managed) (λ rest. Done (first ∷ rest)) (loading_only managed) (λ rest. tt))

    pub files_only : (managed : List Managed) → AsksOnly IsSo (loading_files managed)
    files_only managed =
        let resolver_asks : Option Reading → List Loaded → Asks FilesLoaded =
        λ duid ifaces. Then (Read resolver_file) (λ resolver. Done (files_loaded duid ifaces resolver)) in
        only_after (reading_if (some_need_duid managed) duid_file) (λ duid. after (loading managed) (resolver_asks duid))
        (reading_only (some_need_duid managed) duid_file)
        (λ duid. only_after (loading managed) (resolver_asks duid) (loading_only managed) (λ ifaces. (store.read resolver_file, λ resolver. tt)))

    done_only : (done : Bool) (more : Asks Bool) → AsksOnly IsSo more → AsksOnly IsSo (if_done done more)
    done_only true more only = only
    done_only false more only = tt

    bringing_only : (name : List ℕ) (wanted : Option (List ℕ)) → AsksOnly IsSo (bringing name wanted)
    bringing_only name (Some bytes) =
        let settle : Asks Bool = Then Settle (λ settled. Done settled) in
        let rename : Asks Bool = Then (RenameAside name) (λ renamed. if_done renamed settle) in
        let sync : Asks Bool = Then (SyncAside name) (λ synced. if_done synced rename) in
        let settling : AsksOnly IsSo settle = (store.settle, λ settled. tt) in
        let renaming : AsksOnly IsSo rename = (store.rename name, λ renamed. done_only renamed settle settling) in
        let syncing : AsksOnly IsSo sync = (store.sync name, λ synced. done_only synced rename renaming) in
        (store.write name bytes, λ written. done_only written sync syncing)
    bringing_only name None = (store.remove name, λ removed. done_only removed (Then Settle (λ settled. Done settled)) (store.settle, λ settled. tt))

    one_only : (wanted : Option (List ℕ)) (file : KeptFile) → AsksOnly IsSo (keeping_one wanted file)
    one_only wanted file =
        let known_then : Bool → Asks KeptFile = λ done. Done (record file { known = known_after wanted done }) in
        gated (λ (asks : Asks KeptFile). AsksOnly IsSo asks) (is_settled file.keeps file.known wanted) (Done file)
        (after (bringing file.name wanted) known_then) tt
        (only_after (bringing file.name wanted) known_then (bringing_only file.name wanted) (λ done. tt))

    pub keeping_only : (ifaces : List Iface) (files : List KeptFile) → AsksOnly IsSo (keeping ifaces files)
    keeping_only ifaces [] = tt
    keeping_only ifaces (file ∷ files) =
        only_after (keeping_one (wanted_in ifaces file.keeps) file) (λ first. after (keeping ifaces files) (λ rest. Done (first ∷ rest)))
        (one_only (wanted_in ifaces file.keeps) file)
        (λ first. only_after (keeping ifaces files) (λ rest. Done (first ∷ rest)) (keeping_only ifaces files) (λ rest. tt))

  -- ---- hooks

  module _ (hooks : HookAsks IsSo) where
    letting_only : (number : ℕ) (order : Order) (s : Supervision) → AsksOnly IsSo (letting_go number order s)
    letting_only number child.Abandon s = (hooks.abandon number, λ _. tt)
    letting_only number child.Idle s = tt
    letting_only number (child.Start job) s = tt

    polled_only : (at : ℕ) (s : Supervision) (running : Option Child) → AsksOnly IsSo (polling_child at s running)
    polled_only at s None = tt
    polled_only at s (Some running) =
        (hooks.poll running.number, λ answer. letting_only running.number (poll_order (heard answer) at s.child) (after_poll (heard answer) at s))

    pub polling_only : (at : ℕ) (s : Supervision) → AsksOnly IsSo (polling at s)
    polling_only at s = polled_only at s s.child

    job_only : (job : Job) (s : Supervision) → AsksOnly IsSo (putting_one job s)
    job_only job s =
        gated (λ (asks : Asks Supervision). AsksOnly IsSo asks) (is_full s) (Then (Drop (numbered job s)) (λ _. Done (after_put job s)))
        (Done (after_put job s))
        (hooks.drop (numbered job s), λ _. tt) tt

    putting_only : (jobs : List Job) (s : Supervision) → AsksOnly IsSo (putting jobs s)
    putting_only [] s = tt
    putting_only (job ∷ jobs) s = only_after (putting_one job s) (putting jobs) (job_only job s) (putting_only jobs)

    starting_only : (order : Order) (s : Supervision) → AsksOnly IsSo (starting order s)
    starting_only (child.Start job) s = (hooks.start job, λ done. tt)
    starting_only child.Idle s = tt
    starting_only child.Abandon s = tt

    pub hooking_only : (at : ℕ) (jobs : List Job) (s : Supervision) → AsksOnly IsSo (hooking at jobs s)
    hooking_only at jobs s =
        only_after (putting jobs s) (λ line. starting (next_order line) (after_next at line)) (putting_only jobs s)
        (λ line. starting_only (next_order line) (after_next at line))
