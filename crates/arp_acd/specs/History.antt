use Rattle.std.specs.Prelude.{◌≡◌, ℕ, ◌+◌, ◌≤◌, false, zero, suc, List, [], ◌∷◌, Option, Some, None}
use Rattle.machine.specs.Since.{Since}
use Rattle.net_types.specs.declared.address.Ip4.{Ip4}
use Rattle.net_types.specs.declared.address.Mac.{Mac}
use Rattle.frame_link.specs.declared.arp.ArpView.{ArpView}
use Rattle.arp_acd.specs.declared.detection.Acd.{Acd}
use Rattle.arp_acd.specs.declared.detection.AcdSays.{AcdSays}
use Rattle.arp_acd.specs.declared.detection.AcdSays.TheVariants.{Quiet, SayProbe, SayAnnounce}
use Rattle.arp_acd.specs.Conflict.{is_contested}
use Rattle.arp_acd.specs.declared.timing.TheConstants.{PROBE_MIN}
use Rattle.arp_acd.specs.Table.{AcdStep, acd_tick, acd_hears, acd_restarts}

-- What may happen to a conflict detection, at which moment.
pub data AcdEvent : Type 0 where
  Tick : (at salt : ℕ) → AcdEvent
  Heard : (arp : ArpView) (at : ℕ) → AcdEvent
  Unsent : (at salt : ℕ) → AcdEvent

abbrev pub moment : AcdEvent → ℕ
moment (Tick at salt) = at
moment (Heard arp at) = at
moment (Unsent at salt) = at

abbrev pub acd_step : List Mac → Acd → AcdEvent → AcdStep
acd_step own acd (Tick at salt) = acd_tick acd at salt
acd_step own acd (Heard arp at) = acd_hears own acd arp at
acd_step own acd (Unsent at salt) = record { acd = acd_restarts acd at salt; says = Quiet }

-- The detection after a list of events, the newest first.
abbrev pub acd_after : List Mac → Acd → List AcdEvent → Acd
acd_after own acd [] = acd
acd_after own acd (event ∷ past) = (acd_step own (acd_after own acd past) event).acd

-- What happened and what was said, the newest first.
pub record AcdEntry : Type 0 where
  pub event : AcdEvent
  pub says : AcdSays

abbrev pub acd_history : List Mac → Acd → List AcdEvent → List AcdEntry
acd_history own acd [] = []
acd_history own acd (event ∷ past) =
    record { event = event; says = (acd_step own (acd_after own acd past) event).says } ∷ acd_history own acd past

-- No send failed, and no packet contested the address.
abbrev pub IsCalm : List Mac → Ip4 → AcdEvent → Type 0
IsCalm own addr (Tick at salt) = Unit {0}
IsCalm own addr (Heard arp at) = is_contested own addr arp ≡ false
IsCalm own addr (Unsent at salt) = ⊥

-- So many probes were said: the last one `wait` or more before the moment `before`, each other one PROBE_MIN or more
-- before the next. Since the first of them all was calm, so each of them was sent.
abbrev pub Probes : List Mac → Ip4 → (count wait before : ℕ) → List AcdEntry → Type 0
Probes own addr zero wait before past = Unit {0}
Probes own addr (suc count) wait before past =
    Since (λ e earlier. IsCalm own addr e.event)
    (λ e earlier. IsCalm own addr e.event × (e.says ≡ SayProbe) × (moment e.event + wait ≤ before)
    × Probes own addr count PROBE_MIN (moment e.event) earlier)
    past

-- How many probes were sent since the last send that failed.
abbrev pub count_said : AcdSays → (before : ℕ) → ℕ
count_said SayProbe before = before + 1
count_said _ before = before

abbrev pub count_sent : AcdEvent → AcdSays → (before : ℕ) → ℕ
count_sent (Tick at salt) says before = count_said says before
count_sent (Heard arp at) says before = count_said says before
count_sent (Unsent at salt) says before = 0

abbrev pub probes_sent : List AcdEntry → ℕ
probes_sent [] = 0
probes_sent (e ∷ past) = count_sent e.event e.says (probes_sent past)

-- The moment of the last conflict at which the address was defended.
abbrev pub defence_at : AcdEvent → AcdSays → (before : Option ℕ) → Option ℕ
defence_at (Heard arp at) SayAnnounce before = Some at
defence_at _ _ before = before

abbrev pub last_defence : List AcdEntry → Option ℕ
last_defence [] = None
last_defence (e ∷ past) = defence_at e.event e.says (last_defence past)
