-- Schedules of a lab, and their texts.
use Rattle.std.specs.Prelude.{ℕ, ◌≡◌, ◌^◌, ◌<◌, List, ◌∷◌, ◌++◌, map, length, codes, decimal, IsTrue}
use Rattle.std.specs.List.{AllByRecursion}
use Rattle.net_types.specs.declared.fault.BadText.{BadText}
use Rattle.net_types.specs.declared.interface.IfIndex.{IfIndex}
use Rattle.net_types.specs.declared.interface.IfSpec.{IfSpec}
use Rattle.net_types.specs.AddressText.{FitsIp4, ip4_text}
use Rattle.net_types.specs.FirstBadLine.{FirstBad, IsSpelled}
use Rattle.net_types.specs.Marks.{Lacks}
use Rattle.net_types.specs.TextLines.{Line, Front, lines_text}
use Rattle.world.specs.declared.wakes.Begin.{Begin}
use Rattle.script_model.specs.Lines.{carrier_text, interface_text, start_text}
use Rattle.script_model.specs.Scripts.{FitInterfaces, IsOneOf}
use Rattle.lab_peer.specs.declared.pool.Pool.{Pool}
use Rattle.lab_peer.specs.Pools.{is_pool}
use Rattle.lab_schedule.specs.declared.event.LabEvent.{LabEvent}
use Rattle.lab_schedule.specs.declared.event.LabEvent.TheVariants.{Tick, Carrier, Release, Give, Hear}
use Rattle.lab_schedule.specs.declared.reading.ScheduleAnswer.{ScheduleAnswer}
use Rattle.lab_schedule.specs.declared.reading.ScheduleAnswer.TheVariants as answers

-- the text of its configuration, its interfaces, what the peer gives out, how the clients begin, and what comes then
pub record Schedule : Type 0 where
  pub conf : List ℕ
  pub ifaces : List IfSpec
  pub pool : Pool
  pub begin : Begin
  pub events : List LabEvent

-- ---- the lines

abbrev pub head_line : Line
head_line = codes "dhcpcd-lab 1"

abbrev pub conf_line : (text : List ℕ) → Line
conf_line text = codes "c:" ++ text

abbrev pub pool_text : Pool → Line
pool_text pool =
    codes "pool " ++ ip4_text pool.low ++ codes " " ++ ip4_text pool.high ++ codes " " ++ decimal pool.lease

-- when, and by which random word
abbrev pub turn_text : (at salt : ℕ) → List ℕ
turn_text at salt = decimal at ++ codes " " ++ decimal salt

abbrev pub turn_on_text : (at salt : ℕ) → IfIndex → List ℕ
turn_on_text at salt iface = turn_text at salt ++ codes " " ++ decimal iface.number

abbrev pub event_text : LabEvent → Line
event_text (Tick at salt) = codes "tick " ++ turn_text at salt
event_text (Carrier at salt iface up) = codes "carrier " ++ turn_on_text at salt iface ++ codes " " ++ carrier_text up
event_text (Release at salt iface) = codes "release " ++ turn_on_text at salt iface
event_text (Give at salt iface frame) = codes "give " ++ turn_on_text at salt iface ++ codes " " ++ decimal frame
event_text (Hear at frame) = codes "peer " ++ decimal at ++ codes " " ++ decimal frame

-- the first line, those of a configuration, and those of interfaces
abbrev pub heading : (conf : List Line) → List IfSpec → List Line
heading conf ifaces = head_line ∷ (map conf_line conf ++ map interface_text ifaces)

-- the lines of a schedule whose configuration has these
abbrev pub schedule_lines : (conf : List Line) → Schedule → List Line
schedule_lines conf schedule =
    heading conf schedule.ifaces ++ pool_text schedule.pool ∷ start_text schedule.begin ∷ map event_text schedule.events

-- ---- which schedules there are

pub record FitsPool (pool : Pool) : Type 0 where
  pub low : FitsIp4 pool.low
  pub high : FitsIp4 pool.high
  pub lease : pool.lease < 2 ^ 32
  pub valid : IsTrue (is_pool pool)

-- moments are in milliseconds since 1970; the carriers at the start are those of the interfaces
pub record FitsStart (count : ℕ) (begin : Begin) : Type 0 where
  pub at : begin.at < 10 ^ 15
  pub salt : begin.salt < 2 ^ 64
  pub up : begin.up < 2 ^ count

abbrev pub FitsTurn : (at salt : ℕ) → Type 0
FitsTurn at salt = (at < 10 ^ 15) × (salt < 2 ^ 64)

-- with so many interfaces; the frame of a number needn't be there
abbrev pub FitsLabEvent : (count : ℕ) → LabEvent → Type 0
FitsLabEvent count (Tick at salt) = FitsTurn at salt
FitsLabEvent count (Carrier at salt iface up) = FitsTurn at salt × IsOneOf count iface.number
FitsLabEvent count (Release at salt iface) = FitsTurn at salt × IsOneOf count iface.number
FitsLabEvent count (Give at salt iface frame) = FitsTurn at salt × IsOneOf count iface.number × (frame < 2 ^ 64)
FitsLabEvent count (Hear at frame) = (at < 10 ^ 15) × (frame < 2 ^ 64)

pub record FitsSchedule (schedule : Schedule) : Type 0 where
  pub ifaces : FitInterfaces schedule.ifaces
  pub pool : FitsPool schedule.pool
  pub begin : FitsStart (length schedule.ifaces) schedule.begin
  pub events : AllByRecursion (FitsLabEvent (length schedule.ifaces)) schedule.events

-- These lines are the text of the schedule.
pub record SpellsSchedule (schedule : Schedule) (lines : List Line) : Type 0 where
  pub conf : List Line
  pub configured : schedule.conf ≡ lines_text conf
  pub each : AllByRecursion (Lacks 10) conf
  pub are : lines ≡ schedule_lines conf schedule
  pub fits : FitsSchedule schedule

-- ---- bad lines

-- a bad line has no cause of its own
abbrev pub AnyCause : List Line → Front → BadText → Type 0
AnyCause lines front cause = Unit {0}

-- the line is the first one with which no schedule goes on
abbrev pub IsBadLine : (text : List ℕ) → (line : ℕ) → Type 0
IsBadLine text line = FirstBad SpellsSchedule AnyCause text line (record {})

abbrev pub NamesBadLine : (text : List ℕ) → ScheduleAnswer → Type 0
NamesBadLine text (answers.Bad line) = IsBadLine text line
NamesBadLine text answers.NoMemory = Unit {0}

-- A text spells one schedule, or has a bad line, and not both.
pub record SchedulesAreOne : Type 0 where
  pub one : (text : List ℕ) (a b : Schedule) → IsSpelled SpellsSchedule text a → IsSpelled SpellsSchedule text b → a ≡ b
  pub none_bad : (text : List ℕ) (schedule : Schedule) (line : ℕ) → IsSpelled SpellsSchedule text schedule
      → IsBadLine text line → ⊥
