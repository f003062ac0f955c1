-- What beginning and waiting leave of what the devices tell.
use Rattle.std.proofs.Common.{ℕ, ◌≡◌, Bool, true, false, List, [], ◌∷◌, ◌++◌, ◌+◌, length, take, drop, Option, Some, None, Result, Ok, Err, refl, sym, ap, subst, ◌∙◌, append-nil}
use Rattle.std.specs.Prelude.{IfSome, option_map}
use Rattle.net_types.specs.declared.fault.Failed.{Failed}
use Rattle.world.specs.declared.faults.DeviceAnswer.{DeviceAnswer}
use Rattle.world.specs.declared.faults.DeviceAnswer.TheVariants as Answer
use Rattle.world.specs.declared.wakes.Begin.{Begin}
use Rattle.world.specs.declared.wakes.Wake.{Wake}
use Rattle.world.specs.declared.wakes.Event.{Event}
use Rattle.world.specs.declared.wakes.Event.TheVariants.{Frame, Carrier, Duplicate, Release, Rebind, Stop, Quiet, End}
use Rattle.world.specs.StoreFails.{StoreFails}
use Rattle.world.specs.LinkCalls.{LinkCall, LinkTold, Given, Waited, waited, frame_len, cut_event, cut_wake, Comes, Waits, Begins, AddsWait, given_in}
use Rattle.world.specs.HostCalls.{HostTold}
use Rattle.world.specs.StoreCalls.{StoreTold}
use Rattle.world.specs.HookCalls.{HooksTold}
use Rattle.device_calls.specs.Calls.{Link}
use Rattle.device_calls.specs.Worlds.{Device, Seen, World, Told, told_from, told_of, world_from, world_of}
use Rattle.file_choices.specs.StoreWalks.{Answered}
use Rattle.device_calls.specs.Faults.{failed_send, failed_host_call, failed_store_call, failed_hook_call, CountsFailed}
use Rattle.device_calls.specs.Telling.{Adds, Tells}
use Rattle.device_calls.specs.HostWalks.{HostAnswered}
use Rattle.device_calls.proofs.HostWalking.{host_answered_none}
use Rattle.device_calls.proofs.Doing.{adds_none, answered_none, counts_none}
use Rattle.turn_model.specs.Turns.{is_end}
use Rattle.turn_model.specs.Foretold.{told_wake, told_bytes, woken}
use Rattle.life_devices.specs.Waits.{OnlyLink, BeginsThere, WaitsThere}

abbrev pub woke : Wake → Result Wake DeviceAnswer
woke wake = Ok wake

abbrev pub began : Begin → Result Begin Failed
began begin = Ok begin

abbrev pub not_begun : Failed → Result Begin Failed
not_begun failed = Err failed

abbrev pub wait_failed : Result Wake DeviceAnswer
wait_failed = Err Answer.Failed

abbrev pub memory_wanted : Result Wake DeviceAnswer
memory_wanted = Err Answer.NoMemory

-- cutting a frame doesn't make an end of it
pub is_end-cut : (event : Event) (size room : ℕ) → is_end (cut_event event size room) ≡ is_end event
is_end-cut (Frame i n) size room = refl
is_end-cut (Carrier i u) size room = refl
is_end-cut (Duplicate i a) size room = refl
is_end-cut (Release i) size room = refl
is_end-cut (Rebind i) size room = refl
is_end-cut Stop size room = refl
is_end-cut Quiet size room = refl
is_end-cut End size room = refl

-- what is told and counted where one call of the link, or none, was made: of the others nothing
pub record LinkAdds (old mid : Seen) (calls : List LinkCall) : Type 0 where
  pub told : Adds (option_map (λ t. t.calls) old.link.told) (option_map (λ t. t.calls) mid.link.told) calls
  pub added : Adds old.link_calls mid.link_calls calls

others_answer : (old mid : Seen) → OnlyLink old mid → Answered old.store.failing [] old.store.told mid.store.told
others_answer old mid only =
    subst (λ (s : Device StoreTold StoreFails). Answered old.store.failing [] old.store.told s.told) (sym only.store)
    (answered_none old.store.failing old.store.told)

table_stays : (old mid : Seen) → OnlyLink old mid → HostAnswered [] old.host.told mid.host.told
table_stays old mid only = subst (λ (h : Device HostTold (List ℕ)). HostAnswered [] old.host.told h.told) (sym only.host) (host_answered_none old.host.told)

counts_stay : {C : Type 0} (failed : C → Bool) (old new : ℕ) → new ≡ old → CountsFailed failed [] old new
counts_stay failed old new same = subst (CountsFailed failed [] old) (sym same) (counts_none failed old)

pub link_alone : (old mid : Seen) (asked : Option ℕ) (given : Option Given) → OnlyLink old mid → mid.waiting.begins ≡ old.waiting.begins
    → LinkAdds old mid (Waited asked given ∷ []) → Tells old mid (Link (Waited asked given) ∷ [])
link_alone old mid asked given only begins adds = record {
  link = adds.told;
  link_calls = adds.added;
  host = subst (λ h. Adds (option_map (λ t. t.calls) old.host.told) (option_map (λ t. t.calls) h.told) []) (sym only.host) (adds_none _);
  store = subst (λ s. Adds (option_map (λ t. t.calls) old.store.told) (option_map (λ t. t.calls) s.told) []) (sym only.store) (adds_none _);
  hooks = subst (λ h. Adds (option_map (λ t. t.calls) old.hooks.told) (option_map (λ t. t.calls) h.told) []) (sym only.hooks) (adds_none _);
  begins = begins;
  table = table_stays old mid only;
  answers = others_answer old mid only;
  failing = ap (λ (s : Device StoreTold StoreFails). s.failing) only.store;
  counts = record {
    sends = subst (λ (n : ℕ). CountsFailed failed_send (Waited asked given ∷ []) old.link.faults n) (sym only.sends) (counts_none failed_send old.link.faults);
    host = counts_stay failed_host_call old.host.faults mid.host.faults (ap (λ (h : Device HostTold (List ℕ)). h.faults) only.host);
    store = counts_stay failed_store_call old.store.faults mid.store.faults (ap (λ (s : Device StoreTold StoreFails). s.faults) only.store);
    hooks = counts_stay failed_hook_call old.hooks.faults mid.hooks.faults (ap (λ (h : Device HooksTold (List ℕ)). h.faults) only.hooks);
  };
}

link_quiet : (old mid : Seen) → OnlyLink old mid → mid.waiting.begins ≡ old.waiting.begins → LinkAdds old mid [] → Tells old mid []
link_quiet old mid only begins adds = record {
  link = adds.told;
  link_calls = adds.added;
  host = subst (λ h. Adds (option_map (λ t. t.calls) old.host.told) (option_map (λ t. t.calls) h.told) []) (sym only.host) (adds_none _);
  store = subst (λ s. Adds (option_map (λ t. t.calls) old.store.told) (option_map (λ t. t.calls) s.told) []) (sym only.store) (adds_none _);
  hooks = subst (λ h. Adds (option_map (λ t. t.calls) old.hooks.told) (option_map (λ t. t.calls) h.told) []) (sym only.hooks) (adds_none _);
  begins = begins;
  table = table_stays old mid only;
  answers = others_answer old mid only;
  failing = ap (λ (s : Device StoreTold StoreFails). s.failing) only.store;
  counts = record {
    sends = counts_stay failed_send old.link.faults mid.link.faults only.sends;
    host = counts_stay failed_host_call old.host.faults mid.host.faults (ap (λ (h : Device HostTold (List ℕ)). h.faults) only.host);
    store = counts_stay failed_store_call old.store.faults mid.store.faults (ap (λ (s : Device StoreTold StoreFails). s.faults) only.store);
    hooks = counts_stay failed_hook_call old.hooks.faults mid.hooks.faults (ap (λ (h : Device HooksTold (List ℕ)). h.faults) only.hooks);
  };
}

-- the calls of the link by themselves: a wait is one of them, unless it wanted memory
abbrev call_added : List LinkCall → LinkCall → Option (List LinkCall) → Type 0
call_added calls call mid = Adds (Some calls) mid (call ∷ [])

wake_added : (asked : Option ℕ) (wake : Wake) (buffer : List ℕ) (old mid : Option (List LinkCall)) → AddsWait asked old mid buffer (woke wake)
    → Adds old mid (Waited asked (Some (given_in buffer wake)) ∷ [])
wake_added asked wake buffer None mid added = tt
wake_added asked wake buffer (Some calls) mid added = subst (call_added calls (Waited asked (Some (given_in buffer wake)))) (sym added) refl

failed_added : (asked : Option ℕ) (buffer : List ℕ) (old mid : Option (List LinkCall)) → AddsWait asked old mid buffer wait_failed
    → Adds old mid (Waited asked None ∷ [])
failed_added asked buffer None mid added = tt
failed_added asked buffer (Some calls) mid added = subst (call_added calls (Waited asked None)) (sym added) refl

memory_added : (asked : Option ℕ) (buffer : List ℕ) (old mid : Option (List LinkCall)) → AddsWait asked old mid buffer memory_wanted → Adds old mid []
memory_added asked buffer None mid added = tt
memory_added asked buffer (Some calls) mid added =
    subst (λ (m : Option (List LinkCall)). Adds (Some calls) m []) (sym added) (sym (append-nil calls))

-- the worlds before and after differ in what the link tells alone
pub same_but_link : (old mid : Seen) → OnlyLink old mid
    → world_from (told_from mid.link.told old.link.failing) (told_of old.host) (told_of old.store) (told_of old.hooks) ≡ world_of mid
same_but_link old mid only =
    λ i. world_from (told_from mid.link.told (sym only.failing i)) (told_of (sym only.host i)) (told_of (sym only.store i)) (told_of (sym only.hooks i))

-- ---- beginning

begun_at : (begin : Begin) (link mid : Option LinkTold) (failing : Option (List ℕ)) (host : Option (Told HostTold (List ℕ)))
    (store : Option (Told StoreTold StoreFails)) (hooks : Option (Told HooksTold (List ℕ)))
    → Begins link mid (began begin)
    → IfSome (world_from (told_from link failing) host store hooks)
    (λ world. (begin ≡ world.link.told.begin) × (world_from (told_from mid failing) host store hooks ≡ Some world))
begun_at begin None mid failing host store hooks begins = tt
begun_at begin (Some told) mid None host store hooks begins = tt
begun_at begin (Some told) mid (Some failing) None store hooks begins = tt
begun_at begin (Some told) mid (Some failing) (Some host) None hooks begins = tt
begun_at begin (Some told) mid (Some failing) (Some host) (Some store) None begins = tt
begun_at begin (Some told) mid (Some failing) (Some host) (Some store) (Some hooks) begins =
    (begins.0, ap (λ (l : Option LinkTold). world_from (told_from l (Some failing)) (Some host) (Some store) (Some hooks)) begins.1)

-- a life begins as the link tells
pub begun_world : (begin : Begin) (old mid : Seen) → BeginsThere old mid (began begin)
    → IfSome (world_of old) (λ world. (begin ≡ world.link.told.begin) × (world_of mid ≡ Some world))
begun_world begin old mid begins =
    subst (λ (m : Option World). IfSome (world_of old) (λ world. (begin ≡ world.link.told.begin) × (m ≡ Some world))) (same_but_link old mid begins.only)
    (begun_at begin old.link.told mid.link.told old.link.failing (told_of old.host) (told_of old.store) (told_of old.hooks) begins.told)

-- ---- a wait that gave a wake

-- the link told what came next
pub record Woke (asked : Option ℕ) (wake : Wake) (bytes : List ℕ) (world : World) (mid : Option World) : Type 0 where
  pub given : Given
  pub coming : List Given
  pub comes : world.link.told.coming ≡ given ∷ coming
  pub wake_is : wake ≡ told_wake given
  pub bytes_are : bytes ≡ told_bytes given
  pub mid_is : mid ≡ Some (woken asked wake bytes world)

abbrev world_with : LinkTold → List ℕ → Told HostTold (List ℕ) → Told StoreTold StoreFails → Told HooksTold (List ℕ) → World
world_with told failing host store hooks = record { link = record { told = told; failing = failing }; host = host; store = store; hooks = hooks }

module _ (asked : Option ℕ) (wake : Wake) (bytes buffer : List ℕ) (more : is_end wake.event ≡ false) (room : length buffer ≡ 2048)
    (front : bytes ≡ take (frame_len wake.event) buffer) where
  woke_in : (told : LinkTold) (failing : List ℕ) (mid : Option LinkTold) (host : Told HostTold (List ℕ)) (store : Told StoreTold StoreFails)
      (hooks : Told HooksTold (List ℕ)) (coming : List Given)
      → told.coming ≡ coming → Comes asked told coming mid buffer wake
      → Woke asked wake bytes (world_with told failing host store hooks) (world_from (told_from mid (Some failing)) (Some host) (Some store) (Some hooks))
  woke_in told failing mid host store hooks [] same comes = absurd (let bad : false ≡ true = sym more ∙ ap is_end comes.0 in cc)
  woke_in told failing mid host store hooks (given ∷ coming) same comes =
      let wake_is : wake ≡ told_wake given = comes.0 ∙ ap (cut_wake given) room in
      let bytes_here : bytes ≡ take (frame_len wake.event) given.bytes = front ∙ comes.1 in
      let rest_is : coming ≡ drop 1 told.coming = ap (λ (c : List Given). drop 1 c) (sym same) in
      record {
        given = given;
        coming = coming;
        comes = same;
        wake_is = wake_is;
        bytes_are = bytes_here ∙ ap (λ (w : Wake). take (frame_len w.event) given.bytes) wake_is;
        mid_is = ap (λ (l : Option LinkTold). world_from (told_from l (Some failing)) (Some host) (Some store) (Some hooks)) comes.2
            ∙
            (λ i. Some
            (world_with
            (record
            told {
              coming = rest_is i;
              waits = told.waits + 1;
              calls = told.calls ++ Waited asked (Some (record { wake = wake; bytes = sym bytes_here i })) ∷ [];
            })
            failing host store hooks));
      }

  woke_at : (link mid : Option LinkTold) (failing : Option (List ℕ)) (host : Option (Told HostTold (List ℕ))) (store : Option (Told StoreTold StoreFails))
      (hooks : Option (Told HooksTold (List ℕ)))
      → Waits asked link mid buffer (woke wake)
      → IfSome (world_from (told_from link failing) host store hooks)
      (λ world. Woke asked wake bytes world (world_from (told_from mid failing) host store hooks))
  woke_at None mid failing host store hooks waits = tt
  woke_at (Some told) mid None host store hooks waits = tt
  woke_at (Some told) mid (Some failing) None store hooks waits = tt
  woke_at (Some told) mid (Some failing) (Some host) None hooks waits = tt
  woke_at (Some told) mid (Some failing) (Some host) (Some store) None waits = tt
  woke_at (Some told) mid (Some failing) (Some host) (Some store) (Some hooks) waits = woke_in told failing mid host store hooks told.coming refl waits

  wait_adds_in : (told : LinkTold) (mid : Option LinkTold) (coming : List Given) → Comes asked told coming mid buffer wake
      → Adds (Some told.calls) (option_map (λ t. t.calls) mid) (Waited asked (Some (record { wake = wake; bytes = bytes })) ∷ [])
  wait_adds_in told mid [] comes = absurd (let bad : false ≡ true = sym more ∙ ap is_end comes.0 in cc)
  wait_adds_in told mid (given ∷ coming) comes =
      subst (λ (l : Option LinkTold). Adds (Some told.calls) (option_map (λ t. t.calls) l) (Waited asked (Some (record { wake = wake; bytes = bytes })) ∷ []))
      (sym comes.2)
      (ap (λ (bs : List ℕ). told.calls ++ Waited asked (Some (record { wake = wake; bytes = bs })) ∷ []) (sym (front ∙ comes.1)))

  wait_adds : (link mid : Option LinkTold) → Waits asked link mid buffer (woke wake)
      → Adds (option_map (λ t. t.calls) link) (option_map (λ t. t.calls) mid) (Waited asked (Some (record { wake = wake; bytes = bytes })) ∷ [])
  wait_adds None mid waits = tt
  wait_adds (Some told) mid waits = wait_adds_in told mid told.coming waits

  wake_bytes_added : (old mid : Seen) → WaitsThere asked old mid buffer (woke wake)
      → Adds old.link_calls mid.link_calls (Waited asked (Some (record { wake = wake; bytes = bytes })) ∷ [])
  wake_bytes_added old mid waits =
      subst (λ (bs : List ℕ). Adds old.link_calls mid.link_calls (Waited asked (Some (record { wake = wake; bytes = bs })) ∷ [])) (sym front)
      (wake_added asked wake buffer old.link_calls mid.link_calls waits.calls)

  pub woke_world : (old mid : Seen) → WaitsThere asked old mid buffer (woke wake) → IfSome (world_of old) (λ world. Woke asked wake bytes world (world_of mid))
  woke_world old mid waits =
      subst (λ (m : Option World). IfSome (world_of old) (λ world. Woke asked wake bytes world m)) (same_but_link old mid waits.only)
      (woke_at old.link.told mid.link.told old.link.failing (told_of old.host) (told_of old.store) (told_of old.hooks) waits.told)

  pub wait_tells : (old mid : Seen) → WaitsThere asked old mid buffer (woke wake)
      → Tells old mid (Link (Waited asked (Some (record { wake = wake; bytes = bytes }))) ∷ [])
  wait_tells old mid waits =
      link_alone old mid asked (Some (record { wake = wake; bytes = bytes })) waits.only waits.begins
      (record { told = wait_adds old.link.told mid.link.told waits.told; added = wake_bytes_added old mid waits })

-- ---- a wait that failed

failed_adds : (asked : Option ℕ) (buffer : List ℕ) (link mid : Option LinkTold) → Waits asked link mid buffer wait_failed
    → Adds (option_map (λ t. t.calls) link) (option_map (λ t. t.calls) mid) (Waited asked None ∷ [])
failed_adds asked buffer None mid waits = tt
failed_adds asked buffer (Some told) mid waits =
    subst (λ (l : Option LinkTold). Adds (Some told.calls) (option_map (λ t. t.calls) l) (Waited asked None ∷ [])) (sym waits) refl

pub failed_wait_tells : (asked : Option ℕ) (buffer : List ℕ) (old mid : Seen) → WaitsThere asked old mid buffer wait_failed
    → Tells old mid (Link (Waited asked None) ∷ [])
failed_wait_tells asked buffer old mid waits =
    link_alone old mid asked None waits.only waits.begins
    (record {
      told = failed_adds asked buffer old.link.told mid.link.told waits.told;
      added = failed_added asked buffer old.link_calls mid.link_calls waits.calls;
    })

-- ---- a wait that wanted memory

memory_adds : (asked : Option ℕ) (buffer : List ℕ) (link mid : Option LinkTold) → Waits asked link mid buffer memory_wanted
    → Adds (option_map (λ t. t.calls) link) (option_map (λ t. t.calls) mid) []
memory_adds asked buffer None mid waits = tt
memory_adds asked buffer (Some told) mid waits =
    subst (λ (l : Option LinkTold). Adds (Some told.calls) (option_map (λ t. t.calls) l) []) (sym waits) (sym (append-nil told.calls))

pub memory_wait_tells : (asked : Option ℕ) (buffer : List ℕ) (old mid : Seen) → WaitsThere asked old mid buffer memory_wanted → Tells old mid []
memory_wait_tells asked buffer old mid waits =
    link_quiet old mid waits.only waits.begins
    (record {
      told = memory_adds asked buffer old.link.told mid.link.told waits.told;
      added = memory_added asked buffer old.link_calls mid.link_calls waits.calls;
    })

-- ---- the last wait

-- the wake that was given is told
abbrev ToldWake : Option ℕ → Wake → (buffer : List ℕ) → (link mid : Option LinkTold) → Type 0
ToldWake asked wake buffer link mid =
    Adds (option_map (λ t. t.calls) link) (option_map (λ t. t.calls) mid) (Waited asked (Some (given_in buffer wake)) ∷ [])

gave_so : (asked : Option ℕ) (wake : Wake) (buffer bytes : List ℕ) (told : LinkTold) (mid : Option LinkTold) (coming : List Given)
    → mid ≡ Some (waited asked (Some (record { wake = wake; bytes = bytes })) coming told) → take (frame_len wake.event) buffer ≡ bytes
    → ToldWake asked wake buffer (Some told) mid
gave_so asked wake buffer bytes told mid coming same front =
    subst (λ (l : Option LinkTold). ToldWake asked wake buffer (Some told) l) (sym same)
    (ap (λ (bs : List ℕ). told.calls ++ Waited asked (Some (record { wake = wake; bytes = bs })) ∷ []) (sym front))

gave_in : (asked : Option ℕ) (wake : Wake) (buffer : List ℕ) (told : LinkTold) (mid : Option LinkTold) (coming : List Given)
    → Comes asked told coming mid buffer wake → ToldWake asked wake buffer (Some told) mid
gave_in asked wake buffer told mid [] comes =
    gave_so asked wake buffer [] told mid [] comes.1 (ap (λ (e : Event). take (frame_len e) buffer) comes.0)
gave_in asked wake buffer told mid (given ∷ coming) comes =
    gave_so asked wake buffer (take (frame_len wake.event) given.bytes) told mid coming comes.2 comes.1

gave : (asked : Option ℕ) (wake : Wake) (buffer : List ℕ) (link mid : Option LinkTold) → Waits asked link mid buffer (woke wake)
    → ToldWake asked wake buffer link mid
gave asked wake buffer None mid waits = tt
gave asked wake buffer (Some told) mid waits = gave_in asked wake buffer told mid told.coming waits

pub last_wait_tells : (asked : Option ℕ) (wake : Wake) (buffer : List ℕ) (old mid : Seen) → WaitsThere asked old mid buffer (woke wake)
    → Tells old mid (Link (Waited asked (Some (given_in buffer wake))) ∷ [])
last_wait_tells asked wake buffer old mid waits =
    link_alone old mid asked (Some (given_in buffer wake)) waits.only waits.begins
    (record {
      told = gave asked wake buffer old.link.told mid.link.told waits.told;
      added = wake_added asked wake buffer old.link_calls mid.link_calls waits.calls;
    })
