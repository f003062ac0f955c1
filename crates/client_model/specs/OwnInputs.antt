-- What of a turn counts for one interface.
use Rattle.std.specs.Prelude.{◌≡◌, ℕ, Bool, true, ◌==◌, if◌then◌else◌, List, [], ◌∷◌}
use Rattle.net_types.specs.declared.address.Mac.{Mac}
use Rattle.world.specs.declared.wakes.Event.{Event}
use Rattle.world.specs.declared.wakes.Event.TheVariants.{Frame, Carrier, Duplicate, Release, Rebind, Stop, Quiet, End}
use Rattle.script_model.specs.IfaceSets.{is_in}
use Rattle.client_model.specs.declared.interfaces.Iface.{Iface}
use Rattle.client_model.specs.IfaceSteps.{index_of}
use Rattle.client_model.specs.IfaceTurns.{Turn}
use Rattle.client_model.specs.Runs.{iface_run, iface_frames}

-- whether an input is for an interface: it names it, or no interface at all
abbrev pub is_for : ℕ → Event → Bool
is_for index (Frame other len) = index == other
is_for index (Carrier other up) = index == other
is_for index (Duplicate other addr) = index == other
is_for index (Release other) = index == other
is_for index (Rebind other) = index == other
is_for index Stop = true
is_for index Quiet = true
is_for index End = true

-- the turn with no other interface's input
abbrev pub own_turn : ℕ → Turn → Turn
own_turn index turn = if is_for index turn.event then turn else record turn { event = Quiet; bytes = [] }

-- Two turns are one to an interface: they agree on the moment, the salt, whether a send of its own failed in the turn
-- before, and on its own input.
pub record IsOne (index : ℕ) (a b : Turn) : Type 0 where
  pub at : a.at ≡ b.at
  pub salt : a.salt ≡ b.salt
  pub unsent : is_in a.unsent index ≡ is_in b.unsent index
  pub event : (own_turn index a).event ≡ (own_turn index b).event
  pub bytes : (own_turn index a).bytes ≡ (own_turn index b).bytes

abbrev pub AreOne : ℕ → List Turn → List Turn → Type 0
AreOne index [] [] = Unit {0}
AreOne index [] (b ∷ others) = ⊥
AreOne index (a ∷ turns) [] = ⊥
AreOne index (a ∷ turns) (b ∷ others) = IsOne index a b × AreOne index turns others

-- the interface after the turns, and its frames in each of them, are the same
pub record RunAlike (own : List Mac) (iface : Iface) (turns others : List Turn) : Type 0 where
  pub state : iface_run own iface turns ≡ iface_run own iface others
  pub frames : iface_frames own iface turns ≡ iface_frames own iface others

-- Where two runs of turns are one to an interface, turn by turn, it runs alike.
abbrev pub OwnInputsCount : Type 0
OwnInputsCount =
    (own : List Mac) (iface : Iface) (turns others : List Turn) → AreOne (index_of iface) turns others
    → RunAlike own iface turns others
