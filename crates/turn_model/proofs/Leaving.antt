-- Which devices the parts of a turn and of an opening leave as they were.
use Rattle.std.proofs.Common.{ℕ, ◌≡◌, List, Option, refl, ◌∙◌}
use Rattle.world.specs.declared.rows.HostRow.{HostRow}
use Rattle.world.specs.HookCalls.{HooksTold, Job}
use Rattle.world.specs.LinkCalls.{LinkTold}
use Rattle.world.specs.StoreCalls.{StoreTold}
use Rattle.client_model.specs.IfaceSettings.declared.interfaces.Managed.{Managed}
use Rattle.hook_child.specs.Supervision.{Supervision}
use Rattle.client_model.specs.declared.interfaces.Iface.{Iface}
use Rattle.client_model.specs.Clients.{Sending}
use Rattle.device_calls.specs.Calls.{Ask, AnswerTo}
use Rattle.device_calls.specs.Programs.{Asks, Done, Then}
use Rattle.device_calls.specs.Worlds.{World, run, answer_to, world_with, with_link, with_store, with_hooks}
use Rattle.turn_model.specs.KeptFiles.{KeptFile, keeping}
use Rattle.turn_model.specs.Loading.{loading_files}
use Rattle.turn_model.specs.Hooking.{polling, hooking}
use Rattle.turn_model.specs.Turns.{offering, hosting}
use Rattle.turn_model.specs.Opening.{clearing}
use Rattle.turn_model.proofs.Asking.{AsksOnly, LinkAsks, HostAsks, StoreAsks, HookAsks, offering_only, hosting_only, clearing_only, files_only, keeping_only, polling_only, hooking_only}

-- a part of the devices that these questions leave
abbrev pub Leaves : {A P : Type 0} → (World → P) → Asks A → Type 0
Leaves {A} {P} part asks = (world : World) → part (run asks world).world ≡ part world

module _ {P : Type 0} (part : World → P) where
  -- so one question, whatever its answer
  abbrev LeavesIt : Ask → Type 0
  LeavesIt ask = (answer : AnswerTo ask) (world : World) → part (world_with ask answer world) ≡ part world

  only_leave : {A : Type 0} (asks : Asks A) → AsksOnly LeavesIt asks → Leaves part asks
  only_leave (Done x) only world = refl
  only_leave (Then ask next) only world =
      only_leave (next (answer_to ask world)) (only.1 (answer_to ask world)) (world_with ask (answer_to ask world) world) ∙ only.0 (answer_to ask world) world

-- ---- offers leave all but the link

module _ {P : Type 0} (part : World → P) (but_link : (told : LinkTold) (world : World) → part (with_link told world) ≡ part world) where
  link_asked : LinkAsks (LeavesIt part)
  link_asked = record { offer = λ iface frame taken world. but_link _ world }

  pub offers_leave : (sends : List Sending) (unsent : ℕ) → Leaves part (offering sends unsent)
  offers_leave sends unsent = only_leave part (offering sends unsent) (offering_only (LeavesIt part) link_asked sends unsent)

-- ---- the host's part leaves the store

host_asked : HostAsks (LeavesIt (λ w. w.store))
host_asked = record { list = λ rows world. refl; change = λ change done world. refl }

pub hosting_leaves_store : (managed : List Managed) (wanted : List HostRow) (known : Option (List HostRow))
    → Leaves (λ w. w.store) (hosting managed wanted known)
hosting_leaves_store managed wanted known =
    only_leave (λ w. w.store) (hosting managed wanted known) (hosting_only (LeavesIt (λ w. w.store)) host_asked managed wanted known)

-- ---- clearing, reading and keeping files leave all but the store

module _ {P : Type 0} (part : World → P) (but_store : (told : StoreTold) (world : World) → part (with_store told world) ≡ part world) where
  store_asked : StoreAsks (LeavesIt part)
  store_asked = record {
    asides = λ names world. but_store _ world;
    read = λ name reading world. but_store _ world;
    write = λ name bytes done world. but_store _ world;
    sync = λ name done world. but_store _ world;
    rename = λ name done world. but_store _ world;
    remove = λ name done world. but_store _ world;
    settle = λ done world. but_store _ world;
  }

  pub clearing_leaves : Leaves part clearing
  clearing_leaves = only_leave part clearing (clearing_only (LeavesIt part) store_asked)

  pub files_leave : (managed : List Managed) → Leaves part (loading_files managed)
  files_leave managed = only_leave part (loading_files managed) (files_only (LeavesIt part) store_asked managed)

  pub keeping_leaves : (ifaces : List Iface) (files : List KeptFile) → Leaves part (keeping ifaces files)
  keeping_leaves ifaces files = only_leave part (keeping ifaces files) (keeping_only (LeavesIt part) store_asked ifaces files)

-- ---- polling and hooking leave all but the hooks

module _ {P : Type 0} (part : World → P) (but_hooks : (told : HooksTold) (world : World) → part (with_hooks told world) ≡ part world) where
  hooks_asked : HookAsks (LeavesIt part)
  hooks_asked = record {
    start = λ job done world. but_hooks _ world;
    poll = λ number answer world. but_hooks _ world;
    abandon = λ number answer world. but_hooks _ world;
    drop = λ job answer world. refl;
  }

  pub polling_leaves : (at : ℕ) (s : Supervision) → Leaves part (polling at s)
  polling_leaves at s = only_leave part (polling at s) (polling_only (LeavesIt part) hooks_asked at s)

  pub hooking_leaves : (at : ℕ) (jobs : List Job) (s : Supervision) → Leaves part (hooking at jobs s)
  hooking_leaves at jobs s = only_leave part (hooking at jobs s) (hooking_only (LeavesIt part) hooks_asked at jobs s)
