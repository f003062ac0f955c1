-- The turns of an interface on a link that is as good as can be asked. Moments are in milliseconds.
use Rattle.std.specs.Prelude.{◌≡◌, ℕ, ◌≤◌, ◌==◌, true, false, if◌then◌else◌, List, [], ◌∷◌, Option, Some, None}
use Rattle.net_types.specs.declared.address.Mac.{Mac}
use Rattle.frame_link.specs.declared.arp.ArpView.{ArpView}
use Rattle.ipv4ll.specs.Table.{ll_tick}
use Rattle.world.specs.declared.wakes.Event.{Event}
use Rattle.world.specs.declared.wakes.Event.TheVariants.{Frame, Carrier, Release, Stop}
use Rattle.script_model.specs.IfaceSets.{is_in}
use Rattle.client_model.specs.declared.interfaces.Iface.{Iface}
use Rattle.client_model.specs.IfaceSteps.{index_of}
use Rattle.client_model.specs.Interfaces.{iface_due}
use Rattle.client_model.specs.IfaceTurns.{Turn, arp_heard}
use Rattle.client_model.specs.Runs.{iface_run}
use Rattle.progress.specs.GoingWell.{NotAfter, IsUncontested}

-- the moment to which turns have come that begin at another one; the newest turn stands first
abbrev pub moment_of_turns : (start : ℕ) → List Turn → ℕ
moment_of_turns start [] = start
moment_of_turns start (turn ∷ turns) = turn.at

-- A turn comes no later than the interface asked for, nor goes back in time.
pub record IsPromptTurn (iface : Iface) (last : ℕ) (turn : Turn) : Type 0 where
  pub onward : last ≤ turn.at
  pub in_time : NotAfter (iface_due iface) last turn.at

-- The interface doesn't lose its carrier, nothing of it is given back, and no stop comes.
abbrev pub GoesOn : (index : ℕ) → Event → Type 0
GoesOn index (Carrier other up) = (index == other) ≡ true → up ≡ true
GoesOn index (Release other) = (index == other) ≡ false
GoesOn index Stop = ⊥
GoesOn index _ = Unit {0}

-- the ARP packet that an interface hears in a turn
abbrev pub packet_for : (index : ℕ) → Event → List ℕ → Option ArpView
packet_for index (Frame other len) bytes = if index == other then arp_heard bytes else None
packet_for index _ bytes = None

-- No frame of the interface failed in the turn before, its carrier stays, and nobody contests the address that its
-- link-local machine has chosen by this turn.
pub record IsFairTurn (own : List Mac) (iface : Iface) (turn : Turn) : Type 0 where
  pub taken : is_in turn.unsent (index_of iface) ≡ false
  pub goes_on : GoesOn (index_of iface) turn.event
  pub alone : (arp : ArpView) → packet_for (index_of iface) turn.event turn.bytes ≡ Some arp
      → IsUncontested own (ll_tick iface.local turn.at turn.salt).ll.state arp

-- each turn, from the interface as it is at the moment `start`
abbrev pub PromptTurns : List Mac → Iface → (start : ℕ) → List Turn → Type 0
PromptTurns own iface start [] = Unit {0}
PromptTurns own iface start (turn ∷ turns) =
    IsPromptTurn (iface_run own iface turns) (moment_of_turns start turns) turn × PromptTurns own iface start turns

abbrev pub FairTurns : List Mac → Iface → List Turn → Type 0
FairTurns own iface [] = Unit {0}
FairTurns own iface (turn ∷ turns) = IsFairTurn own (iface_run own iface turns) turn × FairTurns own iface turns
