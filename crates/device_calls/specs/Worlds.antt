-- What devices tell, and what they make of questions where all of them tell what they hold and which of their calls
-- fail.
use Rattle.std.specs.Prelude.{ℕ, ◌+◌, Bool, not, if◌then◌else◌, List, [], ◌∷◌, length, Option, Some, None}
use Rattle.world.specs.Causes.{has_number}
use Rattle.world.specs.LinkCalls.{LinkTold, LinkCall, offered}
use Rattle.world.specs.HostCalls.{HostTold, Listed, host_answered}
use Rattle.world.specs.StoreCalls.{StoreTold, StoreCall, Unread, ListedAsides, ReadFile, WroteAside, SyncedAside, RenamedAside, RemovedFile, SettledFiles, fails_rename, reading_of, store_answered}
use Rattle.world.specs.StoreFails.{StoreFails, fails_at}
use Rattle.world.specs.FileLists.{StoreFile, asides, file_at, put_file, drop_file, rename_file}
use Rattle.world.specs.FileNames.{aside_of}
use Rattle.world.specs.HookCalls.{HooksTold, Started, Abandoned, start_number, next_answer, polled, hooks_answered}
use Rattle.host_model.specs.declared.changes.HostChange.{HostChange}
use Rattle.host_model.specs.HostTurn.{change_call, applied}
use Rattle.device_calls.specs.Calls.{Call, Ask, Offer, ListRows, Change, ListAsides, Read, WriteAside, SyncAside, RenameAside, RemoveFile, Settle, Start, Poll, Abandon, Drop, AnswerTo, made}
use Rattle.device_calls.specs.Programs.{Asks, Done, Then}

-- what a device tells, where it does, which of its calls fail, where that is told, and how many failed so far
pub record Device (T F : Type 0) : Type 0 where
  pub told : Option T
  pub failing : Option F
  pub faults : ℕ

-- how often a life was to begin, how many calls of `begin` and `wait` failed, which waits fail, where that is told, and
-- whether a hook's child runs
pub record Waiting : Type 0 where
  pub begins : ℕ
  pub faults : ℕ
  pub failing : Option (List ℕ)
  pub child : Bool

-- all devices; the link's own failing calls are its sends. Its calls may be told by themselves, even if what will come
-- isn't
pub record Seen : Type 0 where
  pub link : Device LinkTold (List ℕ)
  pub link_calls : Option (List LinkCall)
  pub host : Device HostTold (List ℕ)
  pub store : Device StoreTold StoreFails
  pub hooks : Device HooksTold (List ℕ)
  pub waiting : Waiting

-- the same where all of it is told
pub record Told (T F : Type 0) : Type 0 where
  pub told : T
  pub failing : F

pub record World : Type 0 where
  pub link : Told LinkTold (List ℕ)
  pub host : Told HostTold (List ℕ)
  pub store : Told StoreTold StoreFails
  pub hooks : Told HooksTold (List ℕ)

abbrev pub told_from : {T F : Type 0} → Option T → Option F → Option (Told T F)
told_from None failing = None
told_from (Some told) None = None
told_from (Some told) (Some failing) = Some (record { told = told; failing = failing })

abbrev pub told_of : {T F : Type 0} → Device T F → Option (Told T F)
told_of device = told_from device.told device.failing

abbrev pub world_from : Option (Told LinkTold (List ℕ)) → Option (Told HostTold (List ℕ))
    → Option (Told StoreTold StoreFails) → Option (Told HooksTold (List ℕ)) → Option World
world_from (Some link) (Some host) (Some store) (Some hooks) =
    Some (record { link = link; host = host; store = store; hooks = hooks })
world_from None host store hooks = None
world_from (Some link) None store hooks = None
world_from (Some link) (Some host) None hooks = None
world_from (Some link) (Some host) (Some store) None = None

abbrev pub world_of : Seen → Option World
world_of seen = world_from (told_of seen.link) (told_of seen.host) (told_of seen.store) (told_of seen.hooks)

-- ---- one question

abbrev pub fails_send : Told LinkTold (List ℕ) → Bool
fails_send link = has_number link.failing (link.told.sends + 1)

abbrev pub fails_host : Told HostTold (List ℕ) → Bool
fails_host host = has_number host.failing (length host.told.calls + 1)

abbrev pub fails_store : Told StoreTold StoreFails → Bool
fails_store store = fails_at store.failing (length store.told.calls + 1)

-- where there is no aside, putting it in place fails
abbrev pub fails_renaming : List ℕ → Told StoreTold StoreFails → Bool
fails_renaming name store = fails_rename name store.told store.failing

abbrev pub fails_start : Told HooksTold (List ℕ) → Bool
fails_start hooks = has_number hooks.failing (start_number (Some hooks.told))

abbrev pub answer_to : (ask : Ask) → World → AnswerTo ask
answer_to (Offer iface frame) world = not (fails_send world.link)
answer_to ListRows world = if fails_host world.host then None else Some world.host.told.rows
answer_to (Change change) world = not (fails_host world.host)
answer_to ListAsides world = if fails_store world.store then None else Some (asides world.store.told.files)
answer_to (Read name) world =
    if fails_store world.store then Unread else reading_of (file_at name world.store.told.files)
answer_to (WriteAside name bytes) world = not (fails_store world.store)
answer_to (SyncAside name) world = not (fails_store world.store)
answer_to (RenameAside name) world = not (fails_renaming name world.store)
answer_to (RemoveFile name) world = not (fails_store world.store)
answer_to Settle world = not (fails_store world.store)
answer_to (Start job) world = not (fails_start world.hooks)
answer_to (Poll number) world = next_answer world.hooks.told.polls
answer_to (Abandon number) world = tt
answer_to (Drop job) world = tt

-- a device after a call that was answered so
abbrev pub host_with : HostChange → Bool → HostTold → HostTold
host_with change done told =
    host_answered (change_call change done) (if done then applied change told.rows else told.rows) told

-- a call that changes the files where it was done
abbrev pub store_changed : (List StoreFile → List StoreFile) → (Bool → StoreCall) → (done : Bool) → StoreTold
    → StoreTold
store_changed change call done told = store_answered (call done) (if done then change told.files else told.files) told

abbrev pub store_written : (name bytes : List ℕ) → Bool → StoreTold → StoreTold
store_written name bytes =
    store_changed (put_file (record { name = aside_of name; bytes = bytes })) (WroteAside name bytes)

abbrev pub store_synced : (name : List ℕ) → Bool → StoreTold → StoreTold
store_synced name = store_changed (λ files. files) (SyncedAside name)

abbrev pub store_renamed : (name : List ℕ) → Bool → StoreTold → StoreTold
store_renamed name = store_changed (λ files. rename_file name (file_at (aside_of name) files) files) (RenamedAside name)

abbrev pub store_without : (name : List ℕ) → Bool → StoreTold → StoreTold
store_without name = store_changed (drop_file name) (RemovedFile name)

abbrev pub with_link : LinkTold → World → World
with_link told world = record world { link = record world.link { told = told } }

abbrev pub with_host : HostTold → World → World
with_host told world = record world { host = record world.host { told = told } }

abbrev pub with_store : StoreTold → World → World
with_store told world = record world { store = record world.store { told = told } }

abbrev pub with_hooks : HooksTold → World → World
with_hooks told world = record world { hooks = record world.hooks { told = told } }

abbrev pub world_with : (ask : Ask) → AnswerTo ask → World → World
world_with (Offer iface frame) taken world = with_link (offered iface frame taken world.link.told) world
world_with ListRows rows world = with_host (host_answered (Listed rows) world.host.told.rows world.host.told) world
world_with (Change change) done world = with_host (host_with change done world.host.told) world
world_with ListAsides names world =
    with_store (store_answered (ListedAsides names) world.store.told.files world.store.told) world
world_with (Read name) reading world =
    with_store (store_answered (ReadFile name reading) world.store.told.files world.store.told) world
world_with (WriteAside name bytes) done world = with_store (store_written name bytes done world.store.told) world
world_with (SyncAside name) done world = with_store (store_synced name done world.store.told) world
world_with (RenameAside name) done world = with_store (store_renamed name done world.store.told) world
world_with (RemoveFile name) done world = with_store (store_without name done world.store.told) world
world_with Settle done world =
    with_store (store_answered (SettledFiles done) world.store.told.files world.store.told) world
world_with (Start job) done world = with_hooks (hooks_answered (Started job done) world.hooks.told) world
world_with (Poll number) answer world = with_hooks (polled world.hooks.told) world
world_with (Abandon number) answer world = with_hooks (hooks_answered Abandoned world.hooks.told) world
world_with (Drop job) answer world = world

-- ---- one after another

pub record Ran (A : Type 0) : Type 0 where
  pub calls : List Call
  pub result : A
  pub world : World

abbrev pub asked_first : {A : Type 0} → Call → Ran A → Ran A
asked_first call ran = record ran { calls = call ∷ ran.calls }

-- what comes of the questions
abbrev pub run : {A : Type 0} → Asks A → World → Ran A
run (Done x) world = record { calls = []; result = x; world = world }
run (Then ask next) world =
    asked_first (made ask (answer_to ask world))
    (run (next (answer_to ask world)) (world_with ask (answer_to ask world) world))
