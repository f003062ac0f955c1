-- One question to one device among all.
use Rattle.std.proofs.Common.{ℕ, ◌≡◌, Bool, List, [], ◌∷◌, Option, Some, None, refl, ap}
use Rattle.std.specs.Prelude.{IfSome, option_map}
use Rattle.world.specs.declared.rows.HostRow.{HostRow}
use Rattle.world.specs.StoreFails.{StoreFails}
use Rattle.world.specs.LinkCalls.{LinkCall, LinkTold, Offered, offered}
use Rattle.world.specs.HostCalls.{HostCall, HostTold, Listed, host_answered}
use Rattle.world.specs.StoreCalls.{StoreCall, StoreTold, Reading, ListedAsides, ReadFile, WroteAside, SyncedAside, RenamedAside, RemovedFile, SettledFiles, store_answered}
use Rattle.world.specs.declared.hooking.Poll as said
use Rattle.world.specs.HookCalls.{HookCall, HooksTold, Job, Started, Polled, Abandoned, polled, hooks_answered}
use Rattle.host_model.specs.declared.changes.HostChange.{HostChange}
use Rattle.host_model.specs.HostTurn.{change_call}
use Rattle.file_choices.specs.StoreWalks.{Answered}
use Rattle.device_calls.specs.Calls.{Link, Host, Store, Hook, Dropped, Offer, ListRows, Change, ListAsides, Read, WriteAside, SyncAside, RenameAside, RemoveFile, Settle, Start, Poll, Abandon, Drop}
use Rattle.device_calls.specs.Worlds as worlds
use Rattle.device_calls.specs.Worlds.{Seen, World, Told, told_from, told_of, world_from, host_with, store_written, store_synced, store_renamed, store_without}
use Rattle.device_calls.specs.Faults.{failed_send, failed_host_call, failed_store_call, failed_hook_call, CountsFailed}
use Rattle.device_calls.specs.Telling.{Adds, Tells}
use Rattle.device_calls.specs.Does.{One}
use Rattle.device_calls.specs.HostWalks.{HostAnswered}
use Rattle.device_calls.proofs.HostWalking.{host_answered_none}
use Rattle.device_calls.proofs.Doing.{adds_none, answered_none, counts_none}
use Rattle.life_devices.specs.Answered.{OfferedBy, ListedBy, ChangedBy, AsidesBy, ReadBy, WrittenBy, SyncedBy, RenamedBy, RemovedBy, SettledBy, StartedBy, PolledBy, AbandonedBy}

module _ {B : Type 0} (answer : B) where
  link_told : (foretold : Told LinkTold (List ℕ) → B) (next : LinkTold → LinkTold) (failing : Option (List ℕ)) (old new : Option LinkTold)
      (host : Option (Told HostTold (List ℕ))) (store : Option (Told StoreTold StoreFails)) (hooks : Option (Told HooksTold (List ℕ)))
      → IfSome (told_from old failing) (λ own. (answer ≡ foretold own) × (new ≡ Some (next own.told)))
      → IfSome (world_from (told_from old failing) host store hooks)
      (λ world. (answer ≡ foretold world.link)
      × (world_from (told_from new failing) host store hooks ≡ Some (worlds.with_link (next world.link.told) world)))
  link_told foretold next failing None new host store hooks by = tt
  link_told foretold next None (Some old) new host store hooks by = tt
  link_told foretold next (Some failing) (Some old) new None store hooks by = tt
  link_told foretold next (Some failing) (Some old) new (Some host) None hooks by = tt
  link_told foretold next (Some failing) (Some old) new (Some host) (Some store) None by = tt
  link_told foretold next (Some failing) (Some old) new (Some host) (Some store) (Some hooks) by =
      (by.0, ap (λ (n : Option LinkTold). world_from (told_from n (Some failing)) (Some host) (Some store) (Some hooks)) by.1)

  host_told : (foretold : Told HostTold (List ℕ) → B) (next : HostTold → HostTold) (failing : Option (List ℕ)) (old new : Option HostTold)
      (link : Option (Told LinkTold (List ℕ))) (store : Option (Told StoreTold StoreFails)) (hooks : Option (Told HooksTold (List ℕ)))
      → IfSome (told_from old failing) (λ own. (answer ≡ foretold own) × (new ≡ Some (next own.told)))
      → IfSome (world_from link (told_from old failing) store hooks)
      (λ world. (answer ≡ foretold world.host)
      × (world_from link (told_from new failing) store hooks ≡ Some (worlds.with_host (next world.host.told) world)))
  host_told foretold next failing old new None store hooks by = tt
  host_told foretold next failing None new (Some link) store hooks by = tt
  host_told foretold next None (Some old) new (Some link) store hooks by = tt
  host_told foretold next (Some failing) (Some old) new (Some link) None hooks by = tt
  host_told foretold next (Some failing) (Some old) new (Some link) (Some store) None by = tt
  host_told foretold next (Some failing) (Some old) new (Some link) (Some store) (Some hooks) by =
      (by.0, ap (λ (n : Option HostTold). world_from (Some link) (told_from n (Some failing)) (Some store) (Some hooks)) by.1)

  store_told : (foretold : Told StoreTold StoreFails → B) (next : StoreTold → StoreTold) (failing : Option StoreFails) (old new : Option StoreTold)
      (link : Option (Told LinkTold (List ℕ))) (host : Option (Told HostTold (List ℕ))) (hooks : Option (Told HooksTold (List ℕ)))
      → IfSome (told_from old failing) (λ own. (answer ≡ foretold own) × (new ≡ Some (next own.told)))
      → IfSome (world_from link host (told_from old failing) hooks)
      (λ world. (answer ≡ foretold world.store)
      × (world_from link host (told_from new failing) hooks ≡ Some (worlds.with_store (next world.store.told) world)))
  store_told foretold next failing old new None host hooks by = tt
  store_told foretold next failing old new (Some link) None hooks by = tt
  store_told foretold next failing None new (Some link) (Some host) hooks by = tt
  store_told foretold next None (Some old) new (Some link) (Some host) hooks by = tt
  store_told foretold next (Some failing) (Some old) new (Some link) (Some host) None by = tt
  store_told foretold next (Some failing) (Some old) new (Some link) (Some host) (Some hooks) by =
      (by.0, ap (λ (n : Option StoreTold). world_from (Some link) (Some host) (told_from n (Some failing)) (Some hooks)) by.1)

  hooks_told : (foretold : Told HooksTold (List ℕ) → B) (next : HooksTold → HooksTold) (failing : Option (List ℕ)) (old new : Option HooksTold)
      (link : Option (Told LinkTold (List ℕ))) (host : Option (Told HostTold (List ℕ))) (store : Option (Told StoreTold StoreFails))
      → IfSome (told_from old failing) (λ own. (answer ≡ foretold own) × (new ≡ Some (next own.told)))
      → IfSome (world_from link host store (told_from old failing))
      (λ world. (answer ≡ foretold world.hooks)
      × (world_from link host store (told_from new failing) ≡ Some (worlds.with_hooks (next world.hooks.told) world)))
  hooks_told foretold next failing old new None host store by = tt
  hooks_told foretold next failing old new (Some link) None store by = tt
  hooks_told foretold next failing old new (Some link) (Some host) None by = tt
  hooks_told foretold next failing None new (Some link) (Some host) (Some store) by = tt
  hooks_told foretold next None (Some old) new (Some link) (Some host) (Some store) by = tt
  hooks_told foretold next (Some failing) (Some old) new (Some link) (Some host) (Some store) by =
      (by.0, ap (λ (n : Option HooksTold). world_from (Some link) (Some host) (Some store) (told_from n (Some failing))) by.1)

-- the devices after a call of one
abbrev with_link : Seen → Option LinkTold → Option (List LinkCall) → (faults : ℕ) → Seen
with_link seen told calls faults = record seen {
  link = record { told = told; failing = seen.link.failing; faults = faults };
  link_calls = calls;
}

abbrev with_host : Seen → Option HostTold → (faults : ℕ) → Seen
with_host seen told faults = record seen { host = record { told = told; failing = seen.host.failing; faults = faults } }

abbrev with_store : Seen → Option StoreTold → (faults : ℕ) → Seen
with_store seen told faults = record seen { store = record { told = told; failing = seen.store.failing; faults = faults } }

abbrev with_hooks : Seen → Option HooksTold → (faults : ℕ) → (child : Bool) → Seen
with_hooks seen told faults child = record seen {
  hooks = record { told = told; failing = seen.hooks.failing; faults = faults };
  waiting = record seen.waiting { child = child };
}

-- what all tell after a call of one of them
link_tells : (call : LinkCall) (seen : Seen) (new : Option LinkTold) (calls : Option (List LinkCall)) (faults : ℕ)
    → Adds (option_map (λ told. told.calls) seen.link.told) (option_map (λ told. told.calls) new) (call ∷ []) → Adds seen.link_calls calls (call ∷ [])
    → CountsFailed failed_send (call ∷ []) seen.link.faults faults → Tells seen (with_link seen new calls faults) (Link call ∷ [])
link_tells call seen new calls faults adds added counted = record {
  link = adds;
  link_calls = added;
  host = adds_none _;
  store = adds_none _;
  hooks = adds_none _;
  begins = refl;
  table = host_answered_none seen.host.told;
  answers = answered_none seen.store.failing seen.store.told;
  failing = refl;
  counts =
      record {
        sends = counted;
        host = counts_none failed_host_call seen.host.faults;
        store = counts_none failed_store_call seen.store.faults;
        hooks = counts_none failed_hook_call seen.hooks.faults;
      };
}

host_tells : (call : HostCall) (seen : Seen) (new : Option HostTold) (faults : ℕ)
    → Adds (option_map (λ told. told.calls) seen.host.told) (option_map (λ told. told.calls) new) (call ∷ [])
    → HostAnswered (call ∷ []) seen.host.told new → CountsFailed failed_host_call (call ∷ []) seen.host.faults faults
    → Tells seen (with_host seen new faults) (Host call ∷ [])
host_tells call seen new faults adds table counted = record {
  link = adds_none _;
  link_calls = adds_none seen.link_calls;
  host = adds;
  store = adds_none _;
  hooks = adds_none _;
  begins = refl;
  table = table;
  answers = answered_none seen.store.failing seen.store.told;
  failing = refl;
  counts =
      record {
        sends = counts_none failed_send seen.link.faults;
        host = counted;
        store = counts_none failed_store_call seen.store.faults;
        hooks = counts_none failed_hook_call seen.hooks.faults;
      };
}

store_tells : (call : StoreCall) (seen : Seen) (new : Option StoreTold) (faults : ℕ)
    → Adds (option_map (λ told. told.calls) seen.store.told) (option_map (λ told. told.calls) new) (call ∷ [])
    → Answered seen.store.failing (call ∷ []) seen.store.told new → CountsFailed failed_store_call (call ∷ []) seen.store.faults faults
    → Tells seen (with_store seen new faults) (Store call ∷ [])
store_tells call seen new faults adds answers counted = record {
  link = adds_none _;
  link_calls = adds_none seen.link_calls;
  host = adds_none _;
  store = adds;
  hooks = adds_none _;
  begins = refl;
  table = host_answered_none seen.host.told;
  answers = answers;
  failing = refl;
  counts =
      record {
        sends = counts_none failed_send seen.link.faults;
        host = counts_none failed_host_call seen.host.faults;
        store = counted;
        hooks = counts_none failed_hook_call seen.hooks.faults;
      };
}

hooks_tell : (number : ℕ) (call : HookCall) (seen : Seen) (new : Option HooksTold) (faults : ℕ) (child : Bool)
    → Adds (option_map (λ told. told.calls) seen.hooks.told) (option_map (λ told. told.calls) new) (call ∷ [])
    → CountsFailed failed_hook_call (call ∷ []) seen.hooks.faults faults → Tells seen (with_hooks seen new faults child) (Hook number call ∷ [])
hooks_tell number call seen new faults child adds counted = record {
  link = adds_none _;
  link_calls = adds_none seen.link_calls;
  host = adds_none _;
  store = adds_none _;
  hooks = adds;
  begins = refl;
  table = host_answered_none seen.host.told;
  answers = answered_none seen.store.failing seen.store.told;
  failing = refl;
  counts =
      record {
        sends = counts_none failed_send seen.link.faults;
        host = counts_none failed_host_call seen.host.faults;
        store = counts_none failed_store_call seen.store.faults;
        hooks = counted;
      };
}

pub one_offer : (iface : ℕ) (frame : List ℕ) (taken : Bool) (seen : Seen) (new : Option LinkTold) (calls : Option (List LinkCall)) (faults : ℕ)
    → OfferedBy iface frame taken seen.link.failing seen.link.told new → Adds seen.link_calls calls (Offered iface frame taken ∷ [])
    → CountsFailed failed_send (Offered iface frame taken ∷ []) seen.link.faults faults → One (Offer iface frame) taken seen (with_link seen new calls faults)
one_offer iface frame taken seen new calls faults by added counted = record {
  tells = link_tells (Offered iface frame taken) seen new calls faults by.adds added counted;
  foretold =
      link_told taken _ (offered iface frame taken) seen.link.failing seen.link.told new (told_of seen.host) (told_of seen.store)
      (told_of seen.hooks) by.foretold_is;
}

pub one_list : (rows : Option (List HostRow)) (seen : Seen) (new : Option HostTold) (faults : ℕ) → ListedBy rows seen.host.failing seen.host.told new
    → HostAnswered (Listed rows ∷ []) seen.host.told new → CountsFailed failed_host_call (Listed rows ∷ []) seen.host.faults faults
    → One ListRows rows seen (with_host seen new faults)
one_list rows seen new faults by table counted = record {
  tells = host_tells (Listed rows) seen new faults by.adds table counted;
  foretold =
      host_told rows _ (λ told. host_answered (Listed rows) told.rows told) seen.host.failing seen.host.told new (told_of seen.link) (told_of seen.store)
      (told_of seen.hooks) by.foretold_is;
}

pub one_change : (change : HostChange) (done : Bool) (seen : Seen) (new : Option HostTold) (faults : ℕ)
    → ChangedBy change done seen.host.failing seen.host.told new
    → HostAnswered (change_call change done ∷ []) seen.host.told new
    → CountsFailed failed_host_call (change_call change done ∷ []) seen.host.faults faults → One (Change change) done seen (with_host seen new faults)
one_change change done seen new faults by table counted = record {
  tells = host_tells (change_call change done) seen new faults by.adds table counted;
  foretold =
      host_told done _ (host_with change done) seen.host.failing seen.host.told new (told_of seen.link) (told_of seen.store)
      (told_of seen.hooks) by.foretold_is;
}

pub one_asides : (names : Option (List (List ℕ))) (seen : Seen) (new : Option StoreTold) (faults : ℕ) → AsidesBy names seen.store.failing seen.store.told new
    → Answered seen.store.failing (ListedAsides names ∷ []) seen.store.told new
    → CountsFailed failed_store_call (ListedAsides names ∷ []) seen.store.faults faults → One ListAsides names seen (with_store seen new faults)
one_asides names seen new faults by answers counted = record {
  tells = store_tells (ListedAsides names) seen new faults by.adds answers counted;
  foretold =
      store_told names _ (λ told. store_answered (ListedAsides names) told.files told) seen.store.failing seen.store.told new (told_of seen.link)
      (told_of seen.host) (told_of seen.hooks) by.foretold_is;
}

pub one_read : (name : List ℕ) (reading : Reading) (seen : Seen) (new : Option StoreTold) (faults : ℕ)
    → ReadBy name reading seen.store.failing seen.store.told new
    → Answered seen.store.failing (ReadFile name reading ∷ []) seen.store.told new
    → CountsFailed failed_store_call (ReadFile name reading ∷ []) seen.store.faults faults → One (Read name) reading seen (with_store seen new faults)
one_read name reading seen new faults by answers counted = record {
  tells = store_tells (ReadFile name reading) seen new faults by.adds answers counted;
  foretold =
      store_told reading _ (λ told. store_answered (ReadFile name reading) told.files told) seen.store.failing seen.store.told new (told_of seen.link)
      (told_of seen.host) (told_of seen.hooks) by.foretold_is;
}

pub one_write : (name bytes : List ℕ) (done : Bool) (seen : Seen) (new : Option StoreTold) (faults : ℕ)
    → WrittenBy name bytes done seen.store.failing seen.store.told new
    → Answered seen.store.failing (WroteAside name bytes done ∷ []) seen.store.told new
    → CountsFailed failed_store_call (WroteAside name bytes done ∷ []) seen.store.faults faults
    → One (WriteAside name bytes) done seen (with_store seen new faults)
one_write name bytes done seen new faults by answers counted = record {
  tells = store_tells (WroteAside name bytes done) seen new faults by.adds answers counted;
  foretold =
      store_told done _ (store_written name bytes done) seen.store.failing seen.store.told new (told_of seen.link) (told_of seen.host)
      (told_of seen.hooks) by.foretold_is;
}

pub one_sync : (name : List ℕ) (done : Bool) (seen : Seen) (new : Option StoreTold) (faults : ℕ) → SyncedBy name done seen.store.failing seen.store.told new
    → Answered seen.store.failing (SyncedAside name done ∷ []) seen.store.told new
    → CountsFailed failed_store_call (SyncedAside name done ∷ []) seen.store.faults faults → One (SyncAside name) done seen (with_store seen new faults)
one_sync name done seen new faults by answers counted = record {
  tells = store_tells (SyncedAside name done) seen new faults by.adds answers counted;
  foretold =
      store_told done _ (store_synced name done) seen.store.failing seen.store.told new (told_of seen.link) (told_of seen.host)
      (told_of seen.hooks) by.foretold_is;
}

pub one_rename : (name : List ℕ) (done : Bool) (seen : Seen) (new : Option StoreTold) (faults : ℕ) → RenamedBy name done seen.store.failing seen.store.told new
    → Answered seen.store.failing (RenamedAside name done ∷ []) seen.store.told new
    → CountsFailed failed_store_call (RenamedAside name done ∷ []) seen.store.faults faults → One (RenameAside name) done seen (with_store seen new faults)
one_rename name done seen new faults by answers counted = record {
  tells = store_tells (RenamedAside name done) seen new faults by.adds answers counted;
  foretold =
      store_told done _ (store_renamed name done) seen.store.failing seen.store.told new (told_of seen.link) (told_of seen.host)
      (told_of seen.hooks) by.foretold_is;
}

pub one_remove : (name : List ℕ) (done : Bool) (seen : Seen) (new : Option StoreTold) (faults : ℕ) → RemovedBy name done seen.store.failing seen.store.told new
    → Answered seen.store.failing (RemovedFile name done ∷ []) seen.store.told new
    → CountsFailed failed_store_call (RemovedFile name done ∷ []) seen.store.faults faults → One (RemoveFile name) done seen (with_store seen new faults)
one_remove name done seen new faults by answers counted = record {
  tells = store_tells (RemovedFile name done) seen new faults by.adds answers counted;
  foretold =
      store_told done _ (store_without name done) seen.store.failing seen.store.told new (told_of seen.link) (told_of seen.host)
      (told_of seen.hooks) by.foretold_is;
}

pub one_settle : (done : Bool) (seen : Seen) (new : Option StoreTold) (faults : ℕ) → SettledBy done seen.store.failing seen.store.told new
    → Answered seen.store.failing (SettledFiles done ∷ []) seen.store.told new
    → CountsFailed failed_store_call (SettledFiles done ∷ []) seen.store.faults faults → One Settle done seen (with_store seen new faults)
one_settle done seen new faults by answers counted = record {
  tells = store_tells (SettledFiles done) seen new faults by.adds answers counted;
  foretold =
      store_told done _ (λ told. store_answered (SettledFiles done) told.files told) seen.store.failing seen.store.told new (told_of seen.link)
      (told_of seen.host) (told_of seen.hooks) by.foretold_is;
}

pub one_start : (job : Job) (done : Bool) (seen : Seen) (new : Option HooksTold) (faults : ℕ) (child : Bool)
    → StartedBy job done seen.hooks.failing seen.hooks.told new
    → CountsFailed failed_hook_call (Started job done ∷ []) seen.hooks.faults faults → One (Start job) done seen (with_hooks seen new faults child)
one_start job done seen new faults child by counted = record {
  tells = hooks_tell job.number (Started job done) seen new faults child by.adds counted;
  foretold =
      hooks_told done _ (hooks_answered (Started job done)) seen.hooks.failing seen.hooks.told new (told_of seen.link) (told_of seen.host)
      (told_of seen.store) by.foretold_is;
}

pub one_poll : (number : ℕ) (answer : Option said.Poll) (seen : Seen) (new : Option HooksTold) (faults : ℕ) (child : Bool)
    → PolledBy answer seen.hooks.failing seen.hooks.told new
    → CountsFailed failed_hook_call (Polled answer ∷ []) seen.hooks.faults faults → One (Poll number) answer seen (with_hooks seen new faults child)
one_poll number answer seen new faults child by counted = record {
  tells = hooks_tell number (Polled answer) seen new faults child by.adds counted;
  foretold = hooks_told answer _ polled seen.hooks.failing seen.hooks.told new (told_of seen.link) (told_of seen.host) (told_of seen.store) by.foretold_is;
}

pub one_abandon : (number : ℕ) (seen : Seen) (new : Option HooksTold) (faults : ℕ) (child : Bool) → AbandonedBy seen.hooks.failing seen.hooks.told new
    → CountsFailed failed_hook_call (Abandoned ∷ []) seen.hooks.faults faults → One (Abandon number) tt seen (with_hooks seen new faults child)
one_abandon number seen new faults child by counted = record {
  tells = hooks_tell number Abandoned seen new faults child by.adds counted;
  foretold =
      hooks_told tt _ (hooks_answered Abandoned) seen.hooks.failing seen.hooks.told new (told_of seen.link) (told_of seen.host)
      (told_of seen.store) by.foretold_is;
}

-- where a device tells the same, all tell the same
pub link_stays : (seen : Seen) (new : Option LinkTold) (calls : Option (List LinkCall)) (faults : ℕ) → new ≡ seen.link.told → calls ≡ seen.link_calls
    → faults ≡ seen.link.faults → with_link seen new calls faults ≡ seen
link_stays seen new calls faults told added count = λ i. with_link seen (told i) (added i) (count i)

pub host_stays : (seen : Seen) (new : Option HostTold) (faults : ℕ) → new ≡ seen.host.told → faults ≡ seen.host.faults → with_host seen new faults ≡ seen
host_stays seen new faults told count = λ i. with_host seen (told i) (count i)

pub store_stays : (seen : Seen) (new : Option StoreTold) (faults : ℕ) → new ≡ seen.store.told → faults ≡ seen.store.faults → with_store seen new faults ≡ seen
store_stays seen new faults told count = λ i. with_store seen (told i) (count i)

pub hooks_stay : (seen : Seen) (new : Option HooksTold) (faults : ℕ) (child : Bool) → new ≡ seen.hooks.told → faults ≡ seen.hooks.faults
    → child ≡ seen.waiting.child → with_hooks seen new faults child ≡ seen
hooks_stay seen new faults child told count runs = λ i. with_hooks seen (told i) (count i) (runs i)

-- ---- a job that is dropped, of which no device is told

none_told : {A : Type 0} (answer : A) (seen : Seen) (told : Option World) → worlds.world_of seen ≡ told
    → IfSome told (λ world. (answer ≡ answer) × (worlds.world_of seen ≡ Some world))
none_told answer seen None is = tt
none_told answer seen (Some world) is = (refl, is)

drop_tells : (job : Job) (seen : Seen) → Tells seen seen (Dropped job ∷ [])
drop_tells job seen = record {
  link = adds_none _;
  link_calls = adds_none seen.link_calls;
  host = adds_none _;
  store = adds_none _;
  hooks = adds_none _;
  begins = refl;
  table = host_answered_none seen.host.told;
  answers = answered_none seen.store.failing seen.store.told;
  failing = refl;
  counts =
      record {
        sends = counts_none failed_send seen.link.faults;
        host = counts_none failed_host_call seen.host.faults;
        store = counts_none failed_store_call seen.store.faults;
        hooks = counts_none failed_hook_call seen.hooks.faults;
      };
}

pub one_drop : (job : Job) (seen : Seen) → One (Drop job) tt seen seen
one_drop job seen = record {
  tells = drop_tells job seen;
  foretold = none_told {A = Unit {0}} tt seen (worlds.world_of seen) refl;
}
