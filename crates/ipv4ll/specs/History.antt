use Rattle.std.specs.Prelude.{◌≡◌, ℕ, ◌+◌, ◌≤◌, Bool, true, false, zero, suc, List, [], ◌∷◌, Some, if◌then◌else◌}
use Rattle.machine.specs.Since.{Since}
use Rattle.net_types.specs.declared.address.Ip4.{Ip4}
use Rattle.net_types.specs.declared.address.Mac.{Mac}
use Rattle.net_types.specs.declared.interface.IfIndex.{IfIndex}
use Rattle.frame_link.specs.declared.arp.ArpView.{ArpView}
use Rattle.arp_acd.specs.declared.detection.AcdSays.{AcdSays}
use Rattle.arp_acd.specs.declared.detection.AcdSays.TheVariants.{Conflict, GivenUp}
use Rattle.arp_acd.specs.declared.detection.ArpSay.TheVariants.{Probe}
use Rattle.arp_acd.specs.Conflict.{is_contested}
use Rattle.arp_acd.specs.declared.timing.TheConstants.{PROBE_MIN}
use Rattle.arp_acd.specs.Table as detection
use Rattle.ipv4ll.specs.declared.link_local.LinkLocal.{LinkLocal}
use Rattle.ipv4ll.specs.declared.link_local.LlNews.TheVariants.{Nothing}
use Rattle.ipv4ll.specs.declared.link_local.LlOut.{LlOut}
use Rattle.ipv4ll.specs.declared.link_local.Waits.{Waits}
use Rattle.ipv4ll.specs.declared.link_local.Fallback.{Fallback}
use Rattle.ipv4ll.specs.declared.link_local.State.{State}
use Rattle.ipv4ll.specs.declared.link_local.State.TheVariants.{Off, Chosen}
use Rattle.ipv4ll.specs.Table.{LlStep, tells, ll_tick, ll_hears, ll_restarts, ll_armed, off}

-- What may happen to a link-local machine, at which moment.
pub data LlEvent : Type 0 where
  Arm : (at due : ℕ) (waits : Waits) (fallback : Fallback) → LlEvent
  Tick : (at salt : ℕ) → LlEvent
  Heard : (arp : ArpView) (at salt : ℕ) → LlEvent
  Unsent : (at salt : ℕ) → LlEvent
  Drop : (at : ℕ) → LlEvent

abbrev pub moment : LlEvent → ℕ
moment (Arm at due waits fallback) = at
moment (Tick at salt) = at
moment (Heard arp at salt) = at
moment (Unsent at salt) = at
moment (Drop at) = at

abbrev pub silent : LinkLocal → LlStep
silent ll = record { ll = ll; out = tells Nothing }

abbrev pub ll_step : List Mac → LinkLocal → LlEvent → LlStep
ll_step own ll (Arm at due waits fallback) = silent (ll_armed ll due waits fallback)
ll_step own ll (Tick at salt) = ll_tick ll at salt
ll_step own ll (Heard arp at salt) = ll_hears own ll arp at salt
ll_step own ll (Unsent at salt) = silent (ll_restarts ll at salt)
ll_step own ll (Drop at) = silent (off ll.iface)

-- The machine of an interface, off at first, after a list of events, the newest first.
abbrev pub ll_after : List Mac → IfIndex → List LlEvent → LinkLocal
ll_after own iface [] = off iface
ll_after own iface (event ∷ past) = (ll_step own (ll_after own iface past) event).ll

-- What happened and what was said, the newest first.
pub record LlEntry : Type 0 where
  pub event : LlEvent
  pub out : LlOut

abbrev pub ll_history : List Mac → IfIndex → List LlEvent → List LlEntry
ll_history own iface [] = []
ll_history own iface (event ∷ past) =
    record { event = event; out = (ll_step own (ll_after own iface past) event).out } ∷ ll_history own iface past

-- Whether the event is a conflict over the chosen address, which takes it away.
abbrev pub is_conflict : AcdSays → Bool
is_conflict Conflict = true
is_conflict GivenUp = true
is_conflict _ = false

abbrev pub conflict_at : List Mac → State → LlEvent → Bool
conflict_at own (Chosen conflicts acd) (Heard arp at salt) = is_conflict (detection.acd_hears own acd arp at).says
conflict_at own _ _ = false

-- Whether the event arms the machine.
abbrev pub arms_at : State → LlEvent → Bool
arms_at Off (Arm at due waits fallback) = true
arms_at _ _ = false

-- How many conflicts there were since the last arming.
abbrev pub conflicts_met : List Mac → IfIndex → List LlEvent → ℕ
conflicts_met own iface [] = 0
conflicts_met own iface (event ∷ past) =
    if arms_at (ll_after own iface past).state event
    then 0
    else (if conflict_at own (ll_after own iface past).state event
    then conflicts_met own iface past + 1
    else conflicts_met own iface past)

-- No send failed, no packet contested the address, and the machine wasn't dropped.
abbrev pub IsCalm : List Mac → Ip4 → LlEvent → Type 0
IsCalm own addr (Arm at due waits fallback) = Unit {0}
IsCalm own addr (Tick at salt) = Unit {0}
IsCalm own addr (Heard arp at salt) = is_contested own addr arp ≡ false
IsCalm own addr (Unsent at salt) = ⊥
IsCalm own addr (Drop at) = ⊥

-- So many probes for the address were said: the last one `wait` or more before the moment `before`, each other one
-- PROBE_MIN or more before the next. Since the first of them all was calm, so each of them was sent.
abbrev pub Probes : List Mac → Ip4 → (count wait before : ℕ) → List LlEntry → Type 0
Probes own addr zero wait before past = Unit {0}
Probes own addr (suc count) wait before past =
    Since (λ e earlier. IsCalm own addr e.event)
    (λ e earlier. IsCalm own addr e.event × (e.out.arp ≡ Some (Probe addr)) × (moment e.event + wait ≤ before)
    × Probes own addr count PROBE_MIN (moment e.event) earlier)
    past
