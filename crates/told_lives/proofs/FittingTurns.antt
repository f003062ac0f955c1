-- What an opening and a turn ask is within its bounds, where what the client says is.
use Rattle.std.proofs.Common.{◌≡◌, ℕ, ◌+◌, ◌<◌, ◌≤◌, ◌^◌, Bool, true, false, ◌||◌, List, [], ◌∷◌, ◌++◌, ◌-◌, codes, flat_map, length, map, min, Option, Some, None, refl, sym, subst, arith, eqb}
use Rattle.std.specs.Prelude.{IfSome, filter}
use Rattle.std.specs.Char.{is_ascii_digit, is_ascii_lowercase, is_ascii_uppercase}
use Rattle.std.specs.List.{AllByRecursion, list_all}
use Rattle.std.proofs.lemmas.Bool.{leb-true}
use Rattle.std.proofs.lemmas.List.{length-append}
use Rattle.net_types.specs.NameText.{is_name_byte, name_text, FitsName}
use Rattle.net_types.specs.declared.interface.IfSpec.{IfSpec}
use Rattle.net_types.specs.declared.interface.Name.{Name}
use Rattle.net_types.proofs.AllLaws.{all_join}
use Rattle.net_types.proofs.CaseLaws.{gated}
use Rattle.net_types.proofs.MarkLaws.{only-append, only_weaker}
use Rattle.net_types.proofs.NameLaws.{name_only}
use Rattle.machine.specs.Moment.{moment_of}
use Rattle.world.specs.declared.hooking.Poll.{Poll as Polled}
use Rattle.world.specs.declared.hooking.Poll.TheVariants.{Running, Ended}
use Rattle.world.specs.declared.rows.HostRow.{HostRow}
use Rattle.world.specs.declared.wakes.Begin.{Begin}
use Rattle.world.specs.declared.wakes.Wake.{Wake}
use Rattle.world.specs.FileNames.{is_file_byte}
use Rattle.world.specs.HookCalls.{Job}
use Rattle.world.specs.StoreCalls.{Reading}
use Rattle.world.specs.Rows.{IsInterface}
use Rattle.settings.specs.declared.interfaces.Managed.{Managed}
use Rattle.settings.specs.ManagedRows.{is_managed}
use Rattle.settings.specs.Fitting.{AreManaged, FitsManaged}
use Rattle.hook_child.specs.declared.child.Child.{Child}
use Rattle.hook_child.specs.Supervision as child
use Rattle.hook_child.specs.Supervision.{Order, Supervision, after_next, after_poll, after_put, child_after, child_from, childless, first_order, idle, is_full, is_over_time, next_order, numbered, poll_order, waiting_after}
use Rattle.host_model.specs.declared.changes.HostChange.{HostChange}
use Rattle.host_model.specs.HostTurn.{changes}
use Rattle.client_model.specs.declared.interfaces.Iface.{Iface}
use Rattle.client_model.specs.ClientSettings.{runs_dhcp4}
use Rattle.client_model.specs.ClientSettings6.{runs_dhcp6, some_need_duid}
use Rattle.client_model.specs.Clients.{Client, ClientStep, Sending, client_turned, rows_of}
use Rattle.client_model.specs.IfaceTurns.{Turn}
use Rattle.device_calls.specs.CallLines.{lines_of}
use Rattle.device_calls.specs.Calls as asks
use Rattle.device_calls.specs.Calls.{made}
use Rattle.device_calls.specs.Programs.{Asks, Done, Then, after}
use Rattle.transcript_text.specs.Fits.{IsWord}
use Rattle.turn_model.specs.Hooking.{heard, hooking, letting_go, polling, polling_child, putting, putting_one, started, starting}
use Rattle.turn_model.specs.KeptFiles.{Duid, Keeps, KeptFile, Lease4, Lease6, Resolver, bringing, if_done, is_settled, keeping, keeping_one, known_after, wanted_in}
use Rattle.turn_model.specs.Loading.{FilesLoaded, Loaded, duid_file, duid_with, file_with, files_by, files_loaded, files_of, lease4_file, lease6_file, loaded, loading, loading_files, loading_one, reading_if, resolver_file}
use Rattle.turn_model.specs.Opening.{clearing, clearing_listed, opening_asks, opening_step, outlook_from, removing}
use Rattle.turn_model.specs.Turns.{Life, Outlook, acting, changing, hosting, hosting_listed, input_of, known_with, marked, offering, outlook_with, rows_on, step_of, stop_after, turn_asks, turn_moment}
use Rattle.typed_lines.specs.TypedLines.{AreTyped}
use Rattle.told_lives.specs.FittingWorlds.{IsStoredName}
use Rattle.told_lives.proofs.Answering.{FitsJob, FitsListed, FitsNumbered, Goes, changed_row, goes_after}
use Rattle.told_lives.proofs.FittingLists.{AreRows, IsHeld, applied_fits, changes_held, filtered, order_fits}

-- of a result of which nothing is asked
abbrev Any : {A : Type 0} → A → Type 0
Any x = Unit {0}

-- ---- frames

abbrev pub FitsSending : Sending → Type 0
FitsSending sending = IsInterface sending.iface.number

offering_goes : (sends : List Sending) (unsent : ℕ) → AllByRecursion FitsSending sends → Goes Any (offering sends unsent)
offering_goes [] unsent fits = tt
offering_goes (s ∷ sends) unsent fits = (fits.0, λ taken told typed. offering_goes sends (marked unsent s.iface.number taken) fits.1)

-- ---- the host

abbrev AreKnown : Option (List HostRow) → Type 0
AreKnown known = IfSome known AreRows

known_fits : (done : Bool) (change : HostChange) (known : Option (List HostRow)) → IsHeld change → AreTyped (lines_of (made (asks.Change change) done))
    → AreKnown known → AreKnown (known_with done change known)
known_fits false change known held typed are = tt
known_fits true change None held typed are = tt
known_fits true change (Some known) held typed are = applied_fits change known (changed_row change true held typed) are

changing_goes : (changes : List HostChange) (known : Option (List HostRow)) → AllByRecursion IsHeld changes → AreKnown known
    → Goes AreKnown (changing changes known)
changing_goes [] known held are = are
changing_goes (change ∷ rest) known held are =
    (held.0, λ done told typed. changing_goes rest (known_with done change known) held.1 (known_fits done change known held.0 typed are))

learnt_fit : (managed : List Managed) (rows : List HostRow) → AreRows rows → AreRows (rows_on managed rows)
learnt_fit managed rows are = order_fits [] (filter (is_managed managed) rows) tt (filtered _ (is_managed managed) rows are)

listed_goes : (managed : List Managed) (wanted : List HostRow) (rows : Option (List HostRow)) → IfSome rows FitsListed
    → Goes AreKnown (hosting_listed managed wanted rows)
listed_goes managed wanted None fits = tt
listed_goes managed wanted (Some rows) fits =
    let known : AreRows (rows_on managed rows) = learnt_fit managed rows fits.are in
    changing_goes (changes (rows_on managed rows) wanted) (Some (rows_on managed rows)) (changes_held (rows_on managed rows) wanted known) known

hosting_goes : (managed : List Managed) (wanted : List HostRow) (known : Option (List HostRow)) → AreKnown known → Goes AreKnown (hosting managed wanted known)
hosting_goes managed wanted None are = (tt, λ rows told typed. listed_goes managed wanted rows told)
hosting_goes managed wanted (Some known) are = changing_goes (changes known wanted) (Some known) (changes_held known wanted are) are

-- ---- hooks

-- the jobs that wait, and the number of the child that runs
pub record FitsHooking (s : Supervision) : Type 0 where
  pub waiting : AllByRecursion FitsNumbered s.waiting
  pub child : IfSome s.child (λ (c : Child). IsWord c.number)

pub idle_fits : FitsHooking idle
idle_fits = record { waiting = tt; child = tt }

letting_goes : (number : ℕ) → IsWord number → (order : Order) (s : Supervision) → FitsHooking s → Goes FitsHooking (letting_go number order s)
letting_goes number fits child.Abandon s hooks = (fits, λ answer told typed. hooks)
letting_goes number fits child.Idle s hooks = hooks
letting_goes number fits (child.Start job) s hooks = hooks

polled_child : (answer : Polled) (at : ℕ) (running : Option Child) → IfSome running (λ (c : Child). IsWord c.number)
    → IfSome (child_after answer at running) (λ (c : Child). IsWord c.number)
polled_child (Ended status) at running fits = tt
polled_child Running at running fits =
    gated (λ (found : Option Child). IfSome found (λ (c : Child). IsWord c.number)) (is_over_time at running) None running tt fits

child_goes : (at : ℕ) (s : Supervision) → FitsHooking s → (running : Option Child) → IfSome running (λ (c : Child). IsWord c.number)
    → Goes FitsHooking (polling_child at s running)
child_goes at s hooks None fits = hooks
child_goes at s hooks (Some running) fits = (
  fits,
  λ answer told typed. letting_goes running.number fits (poll_order (heard answer) at s.child) (after_poll (heard answer) at s)
      (record { waiting = hooks.waiting; child = polled_child (heard answer) at s.child hooks.child }),
)

polling_goes : (at : ℕ) (s : Supervision) → FitsHooking s → Goes FitsHooking (polling at s)
polling_goes at s hooks = child_goes at s hooks s.child hooks.child

number_fits : (last : ℕ) → min (last + 1) (2 ^ 64 - 1) < 2 ^ 64
number_fits last = omega arith

numbered_fits : (job : Job) (s : Supervision) → FitsJob job → FitsNumbered (numbered job s)
numbered_fits job s fits = record { number = number_fits s.last; fits = record { name = fits.name; vars = fits.vars } }

put_fits : (job : Job) (s : Supervision) → FitsJob job → FitsHooking s → FitsHooking (after_put job s)
put_fits job s fits hooks = record {
  waiting = gated (AllByRecursion FitsNumbered) (is_full s) s.waiting (s.waiting ++ numbered job s ∷ []) hooks.waiting
      (all_join FitsNumbered s.waiting (numbered job s ∷ []) hooks.waiting (numbered_fits job s fits, tt));
  child = hooks.child;
}

one_goes : (job : Job) (s : Supervision) → FitsJob job → FitsHooking s → Goes FitsHooking (putting_one job s)
one_goes job s fits hooks =
    gated (λ (asks : Asks Supervision). Goes FitsHooking asks) (is_full s) (Then (asks.Drop (numbered job s)) (λ _. Done (after_put job s)))
    (Done (after_put job s)) (numbered_fits job s fits, λ answer told typed. put_fits job s fits hooks) (put_fits job s fits hooks)

putting_goes : (jobs : List Job) (s : Supervision) → AllByRecursion FitsJob jobs → FitsHooking s → Goes FitsHooking (putting jobs s)
putting_goes [] s fits hooks = hooks
putting_goes (job ∷ jobs) s fits hooks =
    goes_after FitsHooking FitsHooking (putting_one job s) (putting jobs) (one_goes job s fits.0 hooks) (λ line so. putting_goes jobs line fits.1 so)

abbrev FitsOrder : Order → Type 0
FitsOrder (child.Start job) = FitsNumbered job
FitsOrder child.Idle = Unit {0}
FitsOrder child.Abandon = Unit {0}

first_fits : (running : Option Child) (waiting : List Job) → AllByRecursion FitsNumbered waiting → FitsOrder (first_order running waiting)
first_fits (Some one) waiting fits = tt
first_fits None [] fits = tt
first_fits None (job ∷ waiting) fits = fits.0

next_fits : (at : ℕ) (last : ℕ) (running : Option Child) (waiting : List Job) → FitsHooking (record { last = last; waiting = waiting; child = running })
    → FitsHooking (record { last = last; waiting = waiting_after running waiting; child = child_from at running waiting })
next_fits at last (Some one) waiting hooks = record { waiting = hooks.waiting; child = hooks.child }
next_fits at last None [] hooks = record { waiting = tt; child = tt }
next_fits at last None (job ∷ waiting) hooks = record { waiting = hooks.waiting.1; child = hooks.waiting.0.number }

started_fits : (done : Bool) (s : Supervision) → FitsHooking s → FitsHooking (started done s)
started_fits true s hooks = hooks
started_fits false s hooks = record { waiting = hooks.waiting; child = tt }

starting_goes : (order : Order) (s : Supervision) → FitsOrder order → FitsHooking s → Goes FitsHooking (starting order s)
starting_goes (child.Start job) s fits hooks = (fits, λ done told typed. started_fits done s hooks)
starting_goes child.Idle s fits hooks = hooks
starting_goes child.Abandon s fits hooks = hooks

hooking_goes : (at : ℕ) (jobs : List Job) (s : Supervision) → AllByRecursion FitsJob jobs → FitsHooking s → Goes FitsHooking (hooking at jobs s)
hooking_goes at jobs s fits hooks =
    goes_after FitsHooking FitsHooking (putting jobs s) (λ line. starting (next_order line) (after_next at line)) (putting_goes jobs s fits hooks)
    (λ line so. starting_goes (next_order line) (after_next at line) (first_fits line.child line.waiting so.waiting)
    (next_fits at line.last line.child line.waiting so))

-- ---- names of files

ordered : (digit upper lower dot line dash : Bool) → (((digit || upper) || lower) || dot || line || dash) ≡ true
    → (lower || upper || digit || dot || line || dash) ≡ true
ordered digit upper true dot line dash h = refl
ordered digit true false dot line dash h = refl
ordered true false false dot line dash h = refl
ordered false false false dot line dash h = h

with_end : (name : Name) (end : List ℕ) → FitsName name → list_all is_file_byte end ≡ true → 1 ≤ length end → IsStoredName (name_text name ++ end)
with_end name end fits ends some =
    let whole = length-append (name_text name) end in
    record {
      bytes = only-append is_file_byte (name_text name) end
          (only_weaker is_name_byte is_file_byte (name_text name)
          (λ b h. ordered (is_ascii_digit b) (is_ascii_uppercase b) (is_ascii_lowercase b) (eqb b 46) (eqb b 95) (eqb b 45) h)
          (name_only name fits))
          ends;
      some = omega (arith, whole, some);
    }

lease4_named : (m : Managed) → FitsManaged m → IsStoredName (lease4_file m)
lease4_named m fits = with_end m.spec.name (codes ".lease4") fits.name refl (leb-true 1 (length (codes ".lease4")) refl)

lease6_named : (m : Managed) → FitsManaged m → IsStoredName (lease6_file m)
lease6_named m fits = with_end m.spec.name (codes ".lease6") fits.name refl (leb-true 1 (length (codes ".lease6")) refl)

duid_named : IsStoredName duid_file
duid_named = record { bytes = refl; some = leb-true 1 (length duid_file) refl }

resolver_named : IsStoredName resolver_file
resolver_named = record { bytes = refl; some = leb-true 1 (length resolver_file) refl }

-- ---- clearing and reading files

removing_goes : (names : List (List ℕ)) → AllByRecursion IsStoredName names → Goes Any (removing names)
removing_goes [] named = (tt, λ done told typed. tt)
removing_goes (name ∷ names) named = (named.0, λ done told typed. removing_goes names named.1)

cleared_goes : (names : Option (List (List ℕ))) → IfSome names (AllByRecursion IsStoredName) → Goes Any (clearing_listed names)
cleared_goes None named = tt
cleared_goes (Some []) named = tt
cleared_goes (Some (name ∷ names)) named = removing_goes (name ∷ names) named

clearing_goes : Goes Any clearing
clearing_goes = (tt, λ names told typed. cleared_goes names told)

reading_goes : (is_kept : Bool) (name : List ℕ) → IsStoredName name → Goes Any (reading_if is_kept name)
reading_goes true name named = (named, λ reading told typed. tt)
reading_goes false name named = tt

abbrev OfManaged : Managed → Loaded → Type 0
OfManaged m one = one.managed ≡ m

iface_goes : (m : Managed) → FitsManaged m → Goes (OfManaged m) (loading_one m)
iface_goes m fits =
    let asks6 : Asks (Option Reading) = reading_if (runs_dhcp6 m.conf) (lease6_file m) in
    goes_after Any (OfManaged m) (reading_if (runs_dhcp4 m.conf) (lease4_file m)) (λ lease4. after asks6 (λ lease6. Done (loaded m lease4 lease6)))
    (reading_goes (runs_dhcp4 m.conf) (lease4_file m) (lease4_named m fits))
    (λ lease4 any. goes_after Any (OfManaged m) asks6 (λ lease6. Done (loaded m lease4 lease6))
    (reading_goes (runs_dhcp6 m.conf) (lease6_file m) (lease6_named m fits)) (λ lease6 any_too. refl))

abbrev AreOf : List Managed → List Loaded → Type 0
AreOf managed all = map (λ (one : Loaded). one.managed) all ≡ managed

ifaces_go : (managed : List Managed) → AreManaged managed → Goes (AreOf managed) (loading managed)
ifaces_go [] fit = refl
ifaces_go (m ∷ managed) fit =
    goes_after (OfManaged m) (AreOf (m ∷ managed)) (loading_one m) (λ first. after (loading managed) (λ rest. Done (first ∷ rest))) (iface_goes m fit.0)
    (λ first one. goes_after (AreOf managed) (AreOf (m ∷ managed)) (loading managed) (λ rest. Done (first ∷ rest)) (ifaces_go managed fit.1)
    (λ rest others. λ i. one i ∷ others i))

abbrev pub AreLoaded : List Managed → FilesLoaded → Type 0
AreLoaded managed files = AreOf managed files.ifaces

files_go : (managed : List Managed) → AreManaged managed → Goes (AreLoaded managed) (loading_files managed)
files_go managed fit =
    let resolver_asks : Option Reading → List Loaded → Asks FilesLoaded =
    λ duid ifaces. Then (asks.Read resolver_file) (λ resolver. Done (files_loaded duid ifaces resolver)) in
    goes_after Any (AreLoaded managed) (reading_if (some_need_duid managed) duid_file) (λ duid. after (loading managed) (resolver_asks duid))
    (reading_goes (some_need_duid managed) duid_file duid_named)
    (λ duid any. goes_after (AreOf managed) (AreLoaded managed) (loading managed) (resolver_asks duid) (ifaces_go managed fit)
    (λ ifaces are. (resolver_named, λ resolver told typed. are)))

-- ---- keeping files

pub record IsKeptFile (file : KeptFile) : Type 0 where
  pub name : IsStoredName file.name

abbrev AreKept : List KeptFile → Type 0
AreKept files = AllByRecursion IsKeptFile files

file_kept : (keeps : Keeps) (name : List ℕ) → IsStoredName name → (read : Option Reading) → AreKept (file_with keeps name read)
file_kept keeps name named None = tt
file_kept keeps name named (Some reading) = (record { name = named }, tt)

loaded_kept : (one : Loaded) → FitsManaged one.managed → AreKept (files_by one)
loaded_kept one fits =
    all_join IsKeptFile (file_with (Lease4 one.managed.spec.index.number) (lease4_file one.managed) one.lease4)
    (file_with (Lease6 one.managed.spec.index.number) (lease6_file one.managed) one.lease6)
    (file_kept (Lease4 one.managed.spec.index.number) (lease4_file one.managed) (lease4_named one.managed fits) one.lease4)
    (file_kept (Lease6 one.managed.spec.index.number) (lease6_file one.managed) (lease6_named one.managed fits) one.lease6)

all_kept : (all : List Loaded) → AreManaged (map (λ (one : Loaded). one.managed) all) → AreKept (flat_map files_by all)
all_kept [] fit = tt
all_kept (one ∷ all) fit = all_join IsKeptFile (files_by one) (flat_map files_by all) (loaded_kept one fit.0) (all_kept all fit.1)

files_kept : (managed : List Managed) (files : FilesLoaded) → AreManaged managed → AreLoaded managed files → AreKept (files_of managed files)
files_kept managed files fit are =
    all_join IsKeptFile (file_with (Duid (duid_with managed files)) duid_file files.duid)
    (flat_map files_by files.ifaces ++ file_with Resolver resolver_file (Some files.resolver))
    (file_kept (Duid (duid_with managed files)) duid_file duid_named files.duid)
    (all_join IsKeptFile (flat_map files_by files.ifaces) (file_with Resolver resolver_file (Some files.resolver))
    (all_kept files.ifaces (subst AreManaged (sym are) fit))
    (file_kept Resolver resolver_file resolver_named (Some files.resolver)))

settle_goes : Goes Any (Then asks.Settle (λ settled. Done settled))
settle_goes = (tt, λ settled told typed. tt)

done_then : (done : Bool) (more : Asks Bool) → Goes Any more → Goes Any (if_done done more)
done_then true more goes = goes
done_then false more goes = tt

bringing_goes : (name : List ℕ) (wanted : Option (List ℕ)) → IsStoredName name → Goes Any (bringing name wanted)
bringing_goes name (Some bytes) named =
    let settle : Asks Bool = Then asks.Settle (λ settled. Done settled) in
    let rename : Asks Bool = Then (asks.RenameAside name) (λ renamed. if_done renamed settle) in
    let sync : Asks Bool = Then (asks.SyncAside name) (λ synced. if_done synced rename) in
    let renaming : Goes Any rename = (named, λ renamed told typed. done_then renamed settle settle_goes) in
    let syncing : Goes Any sync = (named, λ synced told typed. done_then synced rename renaming) in
    (named, λ written told typed. done_then written sync syncing)
bringing_goes name None named =
    (named, λ removed told typed. done_then removed (Then asks.Settle (λ settled. Done settled)) settle_goes)

module _ (ifaces : List Iface) where
  kept_goes : (file : KeptFile) → IsKeptFile file → Goes IsKeptFile (keeping_one (wanted_in ifaces file.keeps) file)
  kept_goes file is =
      let wanted : Option (List ℕ) = wanted_in ifaces file.keeps in
      let known_then : Bool → Asks KeptFile = λ done. Done (record file { known = known_after wanted done }) in
      gated (λ (asks : Asks KeptFile). Goes IsKeptFile asks) (is_settled file.keeps file.known wanted) (Done file)
      (after (bringing file.name wanted) known_then)
      is
      (goes_after Any IsKeptFile (bringing file.name wanted) known_then (bringing_goes file.name wanted is.name)
      (λ done any. record { name = is.name }))

  keeping_goes : (files : List KeptFile) → AreKept files → Goes AreKept (keeping ifaces files)
  keeping_goes [] are = tt
  keeping_goes (file ∷ files) are =
      goes_after IsKeptFile AreKept (keeping_one (wanted_in ifaces file.keeps) file) (λ first. after (keeping ifaces files) (λ rest. Done (first ∷ rest)))
      (kept_goes file are.0)
      (λ first one. goes_after AreKept AreKept (keeping ifaces files) (λ rest. Done (first ∷ rest)) (keeping_goes files are.1)
      (λ rest others. (one, others)))

-- ---- the client

-- what a step of the client says, where `C` is what holds of a client
pub record FitsStep (C : Client → Type 0) (step : ClientStep) : Type 0 where
  pub client : C step.client
  pub sends : AllByRecursion FitsSending step.sends
  pub jobs : AllByRecursion FitsJob step.jobs

-- so is each step of a client of which that holds
pub record KeepsFitting (managed : List Managed) (specs : List IfSpec) (C : Client → Type 0) : Type 0 where
  pub opened : (files : FilesLoaded) (begin : Begin) → AreLoaded managed files → FitsStep C (opening_step managed files specs begin)
  pub turned : (client : Client) (turn : Turn) → C client → FitsStep C (client_turned turn client)

module _ (managed : List Managed) (specs : List IfSpec) (C : Client → Type 0) (keeps : KeepsFitting managed specs C) where
  -- a life between two turns
  pub record FitsLife (life : Life) : Type 0 where
    pub client : C life.client
    pub known : AreKnown life.known
    pub files : AreKept life.files
    pub hooks : FitsHooking life.hooks
    pub now : life.now < 10 ^ 15

  -- so it is at this moment
  pub record LivesAt (moment : ℕ) (life : Life) : Type 0 where
    pub fits : FitsLife life
    pub now : life.now ≡ moment

  -- ---- a step

  module _ (outlook : Outlook) (step : ClientStep) (moment : ℕ) (stop : Option ℕ) (says : FitsStep C step) (early : moment < 10 ^ 15) where
    abbrev life_with : ℕ → Option (List HostRow) → Supervision → List KeptFile → Life
    life_with unsent known hooks files =
        record { client = step.client; known = known; files = files; hooks = hooks; now = moment; stop = stop; unsent = unsent }

    abbrev to_keep : ℕ → Option (List HostRow) → Supervision → Asks Life
    to_keep unsent known hooks = after (keeping step.client.ifaces outlook.files) (λ files. Done (life_with unsent known hooks files))

    abbrev to_hook : ℕ → Option (List HostRow) → Asks Life
    to_hook unsent known = after (hooking moment step.jobs outlook.hooks) (λ hooks. to_keep unsent known hooks)

    abbrev to_host : ℕ → Asks Life
    to_host unsent = after (hosting managed (rows_of step.client) outlook.known) (λ known. to_hook unsent known)

    acting_goes : AreKnown outlook.known → AreKept outlook.files → FitsHooking outlook.hooks → Goes (LivesAt moment) (acting managed outlook step moment stop)
    acting_goes are_known are_kept hooked =
        goes_after Any (LivesAt moment) (offering step.sends 0) (λ unsent. to_host unsent) (offering_goes step.sends 0 says.sends)
        (λ unsent any. goes_after AreKnown (LivesAt moment) (hosting managed (rows_of step.client) outlook.known) (λ known. to_hook unsent known)
        (hosting_goes managed (rows_of step.client) outlook.known are_known)
        (λ known are. goes_after FitsHooking (LivesAt moment) (hooking moment step.jobs outlook.hooks) (λ hooks. to_keep unsent known hooks)
        (hooking_goes moment step.jobs outlook.hooks says.jobs hooked)
        (λ hooks so. goes_after AreKept (LivesAt moment) (keeping step.client.ifaces outlook.files) (λ files. Done (life_with unsent known hooks files))
        (keeping_goes step.client.ifaces outlook.files are_kept)
        (λ files kept. record {
          fits = record { client = says.client; known = are; files = kept; hooks = so; now = early };
          now = refl;
        }))))

  -- ---- a turn, and an opening

  turn_early : (life : Life) (wake : Wake) → life.now < 10 ^ 15 → turn_moment life wake < 10 ^ 15
  turn_early life wake early = omega (arith, early)

  pub turn_goes : (life : Life) (wake : Wake) (bytes : List ℕ) → FitsLife life → Goes (LivesAt (turn_moment life wake)) (turn_asks managed life wake bytes)
  unfolding turn_asks
  turn_goes life wake bytes fits =
      let at : ℕ = turn_moment life wake in
      let early : at < 10 ^ 15 = turn_early life wake fits.now in
      goes_after FitsHooking (LivesAt at) (polling at life.hooks)
      (λ hooks. acting managed (outlook_with life hooks) (step_of life wake bytes) at (stop_after life.stop wake.event at))
      (polling_goes at life.hooks fits.hooks)
      (λ hooks so. acting_goes (outlook_with life hooks) (step_of life wake bytes) at (stop_after life.stop wake.event at)
      (keeps.turned life.client (input_of life wake bytes) fits.client) early fits.known fits.files so)

  opened_early : (at : ℕ) → moment_of at < 10 ^ 15
  opened_early at = omega arith

  pub opening_goes : AreManaged managed → (begin : Begin) → Goes (LivesAt (moment_of begin.at)) (opening_asks managed specs begin)
  unfolding opening_asks
  opening_goes fit begin =
      let acts : FilesLoaded → Asks Life =
      λ files. acting managed (outlook_from managed files) (opening_step managed files specs begin) (moment_of begin.at) None in
      goes_after Any (LivesAt (moment_of begin.at)) clearing (λ _. after (loading_files managed) acts) clearing_goes
      (λ _ any. goes_after (AreLoaded managed) (LivesAt (moment_of begin.at)) (loading_files managed) acts (files_go managed fit)
      (λ files are. acting_goes (outlook_from managed files) (opening_step managed files specs begin) (moment_of begin.at) None
      (keeps.opened files begin are) (opened_early begin.at) tt (files_kept managed files fit are) idle_fits))
