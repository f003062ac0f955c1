-- Which interfaces have something to do in a turn. The others have nothing: it changes nothing of them, and they say
-- nothing.
use Rattle.std.specs.Prelude.{◌≡◌, ℕ, ◌<◌, Bool, true, false, ◌==◌, ◌||◌, List, Option}
use Rattle.std.specs.List.{count_by}
use Rattle.net_types.specs.declared.address.Mac.{Mac}
use Rattle.machine.specs.Moment.{is_due}
use Rattle.client_core.specs.declared.named.Named.{Named}
use Rattle.client_core.specs.declared.places.Places.{Places}
use Rattle.client_core.specs.Names.{AreNamed, is_named}
use Rattle.client_core.specs.Places.{has}
use Rattle.world.specs.Rows.{IsInterface}
use Rattle.world.specs.declared.wakes.Event.{Event}
use Rattle.world.specs.declared.wakes.Event.TheVariants.{Frame, Carrier, Duplicate, Release, Rebind, Stop, Quiet, End}
use Rattle.script_model.specs.IfaceSets.{is_in}
use Rattle.client_model.specs.declared.interfaces.Iface.{Iface}
use Rattle.client_model.specs.IfaceSteps.{index_of, silent}
use Rattle.client_model.specs.Interfaces.{iface_due}
use Rattle.client_model.specs.IfaceTurns.{Turn, iface_turned}

-- whether an input brings something to the interface of this number
abbrev pub is_met : ℕ → Event → Bool
is_met index (Frame other len) = index == other
is_met index (Carrier other up) = index == other
is_met index (Duplicate other addr) = index == other
is_met index (Release other) = index == other
is_met index (Rebind other) = index == other
is_met index Stop = true
is_met index Quiet = false
is_met index End = false

-- whether something comes to it from outside: the input, or word that a frame of its own couldn't be sent in the turn
-- before
abbrev pub is_called : ℕ → Turn → Bool
is_called index turn = is_in turn.unsent index || is_met index turn.event

-- whether an interface that is due at a moment has something to do
abbrev pub has_work : (due : Option ℕ) → (index : ℕ) → Turn → Bool
has_work due index turn = is_due due turn.at || is_called index turn

-- whether an interface has something to do in a turn
abbrev pub is_busy : Turn → Iface → Bool
is_busy turn iface = has_work (iface_due iface) (index_of iface) turn

-- how many interfaces have something to do in it
abbrev pub busy_in : Turn → List Iface → ℕ
busy_in turn = count_by (is_busy turn)

-- of the interfaces with a place below 64, those that are asked for, by place and index, are at these places, and no
-- others
abbrev pub Finds : (asks : (place index : ℕ) → Bool) → Named → Places → Type 0
Finds asks named places =
    (indices : List ℕ) (index place : ℕ) → AreNamed indices named → IsInterface index → place < 64
    → is_named indices place index ≡ true → has places place ≡ asks place index

abbrev pub IsAtRest : Turn → Iface → Type 0
IsAtRest turn iface = is_busy turn iface ≡ false

-- an interface at rest stays as it is, says nothing, and has no news
abbrev pub StaysAtRest : List Mac → Turn → Iface → Type 0
StaysAtRest own turn iface = IsAtRest turn iface → iface_turned own turn iface ≡ silent iface
