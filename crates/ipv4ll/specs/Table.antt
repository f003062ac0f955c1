use Rattle.std.specs.Prelude.{◌≡◌, ℕ, ◌+◌, ◌-◌, ◌^◌, min, Bool, true, false, List, Option, Some, None, nat_lt, if◌then◌else◌}
use Rattle.machine.specs.Moment.{is_due}
use Rattle.net_types.specs.declared.address.Ip4.{Ip4}
use Rattle.net_types.specs.declared.address.Mac.{Mac}
use Rattle.net_types.specs.declared.interface.IfIndex.{IfIndex}
use Rattle.frame_link.specs.declared.arp.ArpView.{ArpView}
use Rattle.arp_acd.specs.declared.detection.Acd.{Acd}
use Rattle.arp_acd.specs.declared.detection.AcdSays.{AcdSays}
use Rattle.arp_acd.specs.declared.detection.AcdSays.TheVariants.{Quiet, SayProbe, SayAnnounce, Passed, Conflict, GivenUp}
use Rattle.arp_acd.specs.declared.detection.ArpSay.TheVariants.{Probe, Announce}
use Rattle.arp_acd.specs.declared.timing.TheConstants.{MAX_CONFLICTS, RATE_LIMIT_INTERVAL}
use Rattle.arp_acd.specs.Table as detection
use Rattle.ipv4ll.specs.declared.link_local.LinkLocal.{LinkLocal}
use Rattle.ipv4ll.specs.declared.link_local.LlNews.{LlNews}
use Rattle.ipv4ll.specs.declared.link_local.LlNews.TheVariants.{Nothing, Timeout, Gained, Lost}
use Rattle.ipv4ll.specs.declared.link_local.LlOut.{LlOut}
use Rattle.ipv4ll.specs.declared.link_local.Waits.{Waits}
use Rattle.ipv4ll.specs.declared.link_local.Waits.TheVariants.{ForLease, ForNothing}
use Rattle.ipv4ll.specs.declared.link_local.Fallback.{Fallback}
use Rattle.ipv4ll.specs.declared.link_local.Fallback.TheVariants.{Choose, GoOff}
use Rattle.ipv4ll.specs.declared.link_local.State.{State}
use Rattle.ipv4ll.specs.declared.link_local.State.TheVariants.{Off, Armed, Chosen, Waiting}
use Rattle.ipv4ll.specs.Choice.{choice_of}

-- The rules of link-local addresses (RFC 3927), a row a case. Moments are in milliseconds.

-- One step: the machine after it, and what it says.
pub record LlStep : Type 0 where
  pub ll : LinkLocal
  pub out : LlOut

-- The machine goes on so and says so.
pub record IsStep (step : LlStep) (ll : LinkLocal) (out : LlOut) : Type 0 where
  pub goes_on : ll ≡ step.ll
  pub answers : out ≡ step.out

-- The answer says nothing.
pub record IsQuiet (out : LlOut) : Type 0 where
  pub no_message : out.arp ≡ None
  pub no_news : out.news ≡ Nothing

abbrev pub tells : LlNews → LlOut
tells news = record { arp = None; news = news }

abbrev pub announces : Ip4 → LlNews → LlOut
announces addr news = record { arp = Some (Announce addr); news = news }

abbrev pub moves : IfIndex → State → LlOut → LlStep
moves iface state out = record { ll = record { iface = iface; state = state }; out = out }

-- Choosing: conflict detection begins for the address that the draw gives.
abbrev pub choosing : IfIndex → (conflicts at salt : ℕ) → State
choosing iface conflicts at salt = Chosen conflicts (detection.acd_begun iface (choice_of iface conflicts salt) at salt)

-- The conflicts since arming, with one more. Their number stays where it can't grow.
abbrev pub one_more : (conflicts : ℕ) → ℕ
one_more conflicts = min (conflicts + 1) (2 ^ 64 - 1)

-- After a conflict: another choice at once, from MAX_CONFLICTS on after RATE_LIMIT_INTERVAL.
abbrev pub after_conflict : IfIndex → (conflicts at salt : ℕ) → State
after_conflict iface conflicts at salt =
    if nat_lt conflicts MAX_CONFLICTS then choosing iface conflicts at salt
    else Waiting conflicts (at + RATE_LIMIT_INTERVAL)

abbrev pub due_of : State → Option ℕ
due_of Off = None
due_of (Armed due waits fallback) = Some due
due_of (Chosen conflicts acd) = detection.due_of acd.phase
due_of (Waiting conflicts due) = Some due

-- What conflict detection of the chosen address says, and what follows.
abbrev pub said_row : IfIndex → (conflicts : ℕ) → Acd → (at salt : ℕ) → AcdSays → LlStep
said_row iface conflicts acd at salt Quiet = moves iface (Chosen conflicts acd) (tells Nothing)
said_row iface conflicts acd at salt SayProbe =
    moves iface (Chosen conflicts acd) (record { arp = Some (Probe acd.addr); news = Nothing })
said_row iface conflicts acd at salt SayAnnounce = moves iface (Chosen conflicts acd) (announces acd.addr Nothing)
-- Passed: the address is held, and announced.
said_row iface conflicts acd at salt Passed = moves iface (Chosen conflicts acd) (announces acd.addr Gained)
-- A conflict while probing, and one over the held address, which is lost.
said_row iface conflicts acd at salt Conflict =
    moves iface (after_conflict iface (one_more conflicts) at salt) (tells Nothing)
said_row iface conflicts acd at salt GivenUp =
    moves iface (after_conflict iface (one_more conflicts) at salt) (tells (Lost acd.addr))

-- What is told when the moment of an armed machine has come, and whether an address is chosen then.
abbrev pub news_after : Waits → LlNews
news_after ForLease = Timeout
news_after ForNothing = Nothing

abbrev pub chooses : Fallback → Bool
chooses Choose = true
chooses GoOff = false

abbrev pub tick_row : IfIndex → State → (at salt : ℕ) → LlStep
tick_row iface Off at salt = moves iface Off (tells Nothing)
-- Armed: the time for a lease is over where one was waited for; an address is chosen where that is wanted.
tick_row iface (Armed due waits fallback) at salt =
    moves iface (if chooses fallback then choosing iface 0 at salt else Off) (tells (news_after waits))
tick_row iface (Chosen conflicts acd) at salt =
    said_row iface conflicts (detection.acd_tick acd at salt).acd at salt (detection.acd_tick acd at salt).says
-- Waiting: the next choice.
tick_row iface (Waiting conflicts due) at salt = moves iface (choosing iface conflicts at salt) (tells Nothing)

-- A tick: before the due moment nothing happens.
abbrev pub ll_tick : LinkLocal → (at salt : ℕ) → LlStep
ll_tick ll at salt =
    if is_due (due_of ll.state) at then tick_row ll.iface ll.state at salt else moves ll.iface ll.state (tells Nothing)

abbrev pub heard_row : List Mac → IfIndex → State → ArpView → (at salt : ℕ) → LlStep
heard_row own iface Off arp at salt = moves iface Off (tells Nothing)
heard_row own iface (Armed due waits fallback) arp at salt = moves iface (Armed due waits fallback) (tells Nothing)
heard_row own iface (Chosen conflicts acd) arp at salt =
    said_row iface conflicts (detection.acd_hears own acd arp at).acd at salt (detection.acd_hears own acd arp at).says
heard_row own iface (Waiting conflicts due) arp at salt = moves iface (Waiting conflicts due) (tells Nothing)

abbrev pub ll_hears : List Mac → LinkLocal → ArpView → (at salt : ℕ) → LlStep
ll_hears own ll arp at salt = heard_row own ll.iface ll.state arp at salt

-- A frame of the interface could not be sent.
abbrev pub unsent_row : State → (at salt : ℕ) → State
unsent_row Off at salt = Off
unsent_row (Armed due waits fallback) at salt = Armed due waits fallback
unsent_row (Chosen conflicts acd) at salt = Chosen conflicts (detection.acd_restarts acd at salt)
unsent_row (Waiting conflicts due) at salt = Waiting conflicts due

abbrev pub ll_restarts : LinkLocal → (at salt : ℕ) → LinkLocal
ll_restarts ll at salt = record ll { state = unsent_row ll.state at salt }

-- Arming, where it is off.
abbrev pub arm_row : State → (due : ℕ) → Waits → Fallback → State
arm_row Off due waits fallback = Armed due waits fallback
arm_row state due waits fallback = state

abbrev pub ll_armed : LinkLocal → (due : ℕ) → Waits → Fallback → LinkLocal
ll_armed ll due waits fallback = record ll { state = arm_row ll.state due waits fallback }

-- Off, at first and after a drop.
abbrev pub off : IfIndex → LinkLocal
off iface = record { iface = iface; state = Off }

abbrev pub held_in : State → Option Ip4
held_in Off = None
held_in (Armed due waits fallback) = None
held_in (Chosen conflicts acd) = detection.held_in acd.addr acd.phase
held_in (Waiting conflicts due) = None
