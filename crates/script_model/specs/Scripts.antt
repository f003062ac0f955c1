-- Which scripts there are.
use Rattle.std.specs.Prelude.{ℕ, ◌≡◌, ◌+◌, ◌^◌, ◌<◌, ◌≤◌, List, [], ◌∷◌, length, All, AllPairs, IfSome, IsTrue, is_some}
use Rattle.world.specs.NetTypes.declared.interface.IfSpec.{IfSpec}
use Rattle.world.specs.NetTypes.AddressText.{FitsIp6, FitsMac}
use Rattle.world.specs.NetTypes.NameText.{FitsName}
use Rattle.world.specs.NetTypes.Marks.{Lacks, AreBytes}
use Rattle.world.specs.declared.wakes.Event.{Event}
use Rattle.world.specs.declared.wakes.Event.TheVariants.{Frame, Carrier, Duplicate, Release, Rebind, Stop, Quiet, End}
use Rattle.world.specs.LinkCalls.{Given}
use Rattle.world.specs.RowOrder.{in_row_order}
use Rattle.world.specs.Rows.{IsRow}
use Rattle.script_model.specs.FailingCalls.{FitsFail}
use Rattle.script_model.specs.HookAnswers.{FitsAnswer}
use Rattle.script_model.specs.FirstFiles.{FitsFile, UnlikeNames}
use Rattle.script_model.specs.Crashes.{FitsCrash}
use Rattle.script_model.specs.ScriptTexts.{ScriptLines, LifeScript}
use Rattle.script_model.specs.Stops.{wakes_seen, EndsWhenOver}

-- interfaces count from 1; names and hardware addresses are unlike
abbrev pub CountsFrom : ℕ → List IfSpec → Type 0
CountsFrom index [] = Unit {0}
CountsFrom index (spec ∷ specs) =
    (spec.index.number ≡ index) × FitsName spec.name × FitsMac spec.mac × CountsFrom (index + 1) specs

abbrev pub Unlike : IfSpec → IfSpec → Type 0
Unlike a b = (a.name ≡ b.name → ⊥) × (a.mac ≡ b.mac → ⊥)

pub record FitInterfaces (specs : List IfSpec) : Type 0 where
  pub few : length specs ≤ 64
  pub counted : CountsFrom 1 specs
  pub unlike : AllPairs Unlike specs

-- one of the interfaces of a script with so many
abbrev pub IsOneOf : ℕ → ℕ → Type 0
IsOneOf count iface = (1 ≤ iface) × (iface ≤ count)

-- what may come: on an interface of the script, any address; all but the end of what comes
abbrev pub FitsEvent : ℕ → Event → Type 0
FitsEvent count (Frame iface len) = IsOneOf count iface
FitsEvent count (Carrier iface up) = IsOneOf count iface
FitsEvent count (Duplicate iface addr) = IsOneOf count iface × FitsIp6 addr
FitsEvent count (Release iface) = IsOneOf count iface
FitsEvent count (Rebind iface) = IsOneOf count iface
FitsEvent count Stop = Unit {0}
FitsEvent count Quiet = Unit {0}
FitsEvent count End = ⊥

-- a frame has at most so many bytes
abbrev pub frame_room : ℕ
frame_room = 2048

pub record FitsFrame (len : ℕ) (bytes : List ℕ) : Type 0 where
  pub whole : len ≡ length bytes
  pub room : length bytes ≤ frame_room
  pub octets : AreBytes bytes

-- other inputs have no bytes
abbrev pub FitsBytes : Event → List ℕ → Type 0
FitsBytes (Frame iface len) bytes = FitsFrame len bytes
FitsBytes event bytes = bytes ≡ []

pub record FitsGiven (count : ℕ) (given : Given) : Type 0 where
  pub at : given.wake.at < 10 ^ 15
  pub salt : given.wake.salt < 2 ^ 64
  pub event : FitsEvent count given.wake.event
  pub bytes : FitsBytes given.wake.event given.bytes

pub record FitsLife (count : ℕ) (life : LifeScript) : Type 0 where
  pub at : life.begin.at < 10 ^ 15
  pub salt : life.begin.salt < 2 ^ 64
  -- carriers are those of interfaces of the script
  pub up : life.begin.up < 2 ^ count
  pub turns : All (FitsGiven count) life.turns
  pub over : EndsWhenOver (wakes_seen life.begin.at life.turns)
  pub crash : IfSome life.crash FitsCrash

-- A life that another one follows ends with a crash.
abbrev pub CrashBetween : List LifeScript → Type 0
CrashBetween lives = AllPairs (λ life later. IsTrue (is_some life.crash)) lives

pub record FitsScript (script : ScriptLines) : Type 0 where
  pub conf : All (Lacks 10) script.conf
  pub ifaces : FitInterfaces script.ifaces
  -- rows that a host can hold, each once
  pub rows : All IsRow script.rows
  pub once : length (in_row_order script.rows) ≡ length script.rows
  pub files : All FitsFile script.files
  pub unlike : AllPairs UnlikeNames script.files
  pub fails : All FitsFail script.fails
  pub polls : All FitsAnswer script.polls
  pub some : 1 ≤ length script.lives
  pub parted : CrashBetween script.lives
  pub lives : All (FitsLife (length script.ifaces)) script.lives
