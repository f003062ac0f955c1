use Rattle.std.specs.Prelude.{◌≡◌, ℕ, ◌+◌, ◌<◌, ◌≤◌, true, List, [], ◌∷◌, ◌++◌, Option, Some, None, All, IfSome, MatchOption, if◌then◌else◌}
use Rattle.machine.specs.Since.{Since}
use Rattle.net_types.specs.declared.address.Ip4.{Ip4}
use Rattle.net_types.specs.declared.address.Mac.{Mac}
use Rattle.net_types.specs.declared.interface.IfIndex.{IfIndex}
use Rattle.arp_acd.specs.declared.detection.ArpSay.{ArpSay}
use Rattle.arp_acd.specs.declared.detection.ArpSay.TheVariants.{Probe, Announce}
use Rattle.arp_acd.specs.declared.timing.TheConstants.{PROBE_NUM, ANNOUNCE_WAIT, MAX_CONFLICTS, RATE_LIMIT_INTERVAL, DEFEND_INTERVAL}
use Rattle.arp_acd.specs.Conflict.{is_used}
use Rattle.ipv4ll.specs.declared.link_local.LlNews.{LlNews}
use Rattle.ipv4ll.specs.declared.link_local.LlNews.TheVariants.{Gained}
use Rattle.ipv4ll.specs.declared.link_local.State.{State}
use Rattle.ipv4ll.specs.declared.link_local.State.TheVariants.{Off, Armed, Chosen, Waiting}
use Rattle.ipv4ll.specs.Choice.{IsChoice}
use Rattle.ipv4ll.specs.Table.{LlStep, announces, held_in}
use Rattle.ipv4ll.specs.History.{LlEvent, Arm, Tick, Heard, Unsent, Drop, LlEntry, moment, ll_step, ll_after, ll_history, conflict_at, conflicts_met, Probes}

-- What holds of link-local addresses over every list of events.

-- The address that is probed or held.
abbrev pub chosen_address : State → Option Ip4
chosen_address Off = None
chosen_address (Armed due waits fallback) = None
chosen_address (Chosen conflicts acd) = Some acd.addr
chosen_address (Waiting conflicts due) = None

abbrev pub said_address : Option ArpSay → Option Ip4
said_address None = None
said_address (Some (Probe addr)) = Some addr
said_address (Some (Announce addr)) = Some addr

-- Every address that is chosen, and every one that is probed or announced, is one of 169.254.1.0 to 169.254.254.255.
pub record StepChooses (step : LlStep) : Type 0 where
  pub chosen : IfSome (chosen_address step.ll.state) IsChoice
  pub said : IfSome (said_address step.out.arp) IsChoice

abbrev pub ChoosesInRange : Type 0
ChoosesInRange = (own : List Mac) (iface : IfIndex) (past : List LlEvent) (event : LlEvent)
    → StepChooses (ll_step own (ll_after own iface past) event)

-- No tick comes as late as that, and the machine isn't dropped.
abbrev pub IsWithin : (end : ℕ) → LlEvent → Type 0
IsWithin end (Arm at due waits fallback) = Unit {0}
IsWithin end (Tick at salt) = at < end
IsWithin end (Heard arp at salt) = Unit {0}
IsWithin end (Unsent at salt) = Unit {0}
IsWithin end (Drop at) = ⊥

-- From the tenth conflict since arming on, no address is chosen in the minute after a conflict.
abbrev pub WaitsFromTenConflicts : Type 0
WaitsFromTenConflicts = (own : List Mac) (iface : IfIndex) (later earlier : List LlEvent) (event : LlEvent)
    → conflict_at own (ll_after own iface earlier).state event ≡ true
    → MAX_CONFLICTS ≤ conflicts_met own iface (event ∷ earlier)
    → All (IsWithin (moment event + RATE_LIMIT_INTERVAL)) later
    → chosen_address (ll_after own iface (later ++ event ∷ earlier)).state ≡ None

-- The address was gained and announced after three probes that were sent, a second or more apart, and two seconds of
-- quiet.
pub record Gains (own : List Mac) (addr : Ip4) (e : LlEntry) (earlier : List LlEntry) : Type 0 where
  pub gained : e.out ≡ announces addr Gained
  pub probed : Probes own addr PROBE_NUM ANNOUNCE_WAIT (moment e.event) earlier

-- The moment of the last packet of another host that uses the address, since an address was gained.
abbrev pub contest_at : List Mac → Ip4 → LlEvent → (before : Option ℕ) → Option ℕ
contest_at own addr (Heard arp at salt) before = if is_used own addr arp then Some at else before
contest_at own addr _ before = before

abbrev pub since_gain : LlNews → Option ℕ → Option ℕ
since_gain Gained before = None
since_gain _ before = before

abbrev pub last_contest : List Mac → Ip4 → List LlEntry → Option ℕ
last_contest own addr [] = None
last_contest own addr (e ∷ past) = since_gain e.out.news (contest_at own addr e.event (last_contest own addr past))

-- What may happen to an address that stays held: it isn't dropped, and where another host uses it, that is the first
-- time or ten seconds or more after the last.
abbrev pub MayStay : List Mac → Ip4 → LlEvent → (last : Option ℕ) → Type 0
MayStay own addr (Arm at due waits fallback) last = Unit {0}
MayStay own addr (Tick at salt) last = Unit {0}
MayStay own addr (Heard arp at salt) last =
    is_used own addr arp ≡ true → MatchOption last (Unit {0}) (λ before. before + DEFEND_INTERVAL ≤ at)
MayStay own addr (Unsent at salt) last = Unit {0}
MayStay own addr (Drop at) last = ⊥

-- Nothing is said of another address.
abbrev pub SaysOf : Ip4 → Option ArpSay → Type 0
SaysOf addr None = Unit {0}
SaysOf addr (Some (Probe other)) = ⊥
SaysOf addr (Some (Announce other)) = other ≡ addr

pub record Stays (own : List Mac) (addr : Ip4) (e : LlEntry) (earlier : List LlEntry) : Type 0 where
  pub stays : MayStay own addr e.event (last_contest own addr earlier)
  pub says : SaysOf addr e.out.arp

-- An address is held only where it was gained so, and since then it stayed so.
pub record Rests (own : List Mac) (addr : Ip4) (past : List LlEntry) : Type 0 where
  pub in_range : IsChoice addr
  pub since : Since (Stays own addr) (Gains own addr) past

abbrev pub HoldsProbed : Type 0
HoldsProbed = (own : List Mac) (iface : IfIndex) (past : List LlEvent)
    → IfSome (held_in (ll_after own iface past).state) (λ addr. Rests own addr (ll_history own iface past))
