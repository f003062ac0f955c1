-- The turns of an interface as its DHCPv6 client meets them. Moments are in milliseconds.
use Rattle.std.specs.Prelude.{◌≡◌, ℕ, ◌≤◌, ◌==◌, Bool, true, false, if◌then◌else◌, List, [], ◌∷◌, map, Option, Some, None}
use Rattle.net_types.specs.declared.address.Mac.{Mac}
use Rattle.v6_frames.specs.Heard.{HeardMessage6, heard6_in}
use Rattle.v6_frames.specs.Spelled.{Sent6}
use Rattle.v6_client.specs.declared.states.Tell6.TheVariants.{Server}
use Rattle.v6_client.specs.Saying.{SpokenContent}
use Rattle.world.specs.declared.wakes.Event.{Event}
use Rattle.world.specs.declared.wakes.Event.TheVariants as event
use Rattle.settings.specs.declared.interfaces.Managed.{Managed}
use Rattle.script_model.specs.IfaceSets.{is_up}
use Rattle.client_model.specs.declared.interfaces.Iface.{Iface}
use Rattle.client_model.specs.ClientSettings6.{runs_dhcp6, settings6_of}
use Rattle.client_model.specs.Dhcp6Steps.{tell6_of}
use Rattle.client_model.specs.Interfaces.{iface_due, opened, told_at_stop}
use Rattle.client_model.specs.IfaceTurns.{Turn}
use Rattle.client_model.specs.KeptLeases.{Beginning}
use Rattle.client_model.specs.Messages.{Said, Arp, Dhcp4, Dhcp6}
use Rattle.client_model.specs.Runs.{iface_run}
use Rattle.lease6_progress.specs.ClientTurns.{ClientTurn, Input6, Quiet, Hears, IsUsed, Rebinds, Drops, Releases, Start}
use Rattle.lease6_progress.specs.GoingWell.{NotAfter}

-- a server's message, where one was heard
abbrev pub heard_as : Option HeardMessage6 → Input6
heard_as None = Quiet
heard_as (Some heard) = Hears heard.message

-- what another interface meets is nothing
abbrev pub if_own : (own : Bool) → Input6 → Input6
if_own own input = if own then input else Quiet

abbrev pub is_own : Managed → (index : ℕ) → Bool
is_own managed index = managed.spec.index.number == index

-- what the input of a turn is to the client
abbrev pub input_for : Managed → Event → List ℕ → Input6
input_for managed (event.Frame index len) bytes =
    if_own (is_own managed index) (heard_as (heard6_in managed.spec.mac bytes))
input_for managed (event.Carrier index true) bytes = Quiet
input_for managed (event.Carrier index false) bytes = if_own (is_own managed index) Drops
input_for managed (event.Duplicate index address) bytes = if_own (is_own managed index) (IsUsed address)
input_for managed (event.Release index) bytes = if_own (is_own managed index) (Releases Server)
input_for managed (event.Rebind index) bytes = if_own (is_own managed index) Rebinds
input_for managed event.Stop bytes = Releases (tell6_of (told_at_stop managed.conf))
input_for managed event.Quiet bytes = Quiet
input_for managed event.End bytes = Quiet

abbrev pub turn_for : Managed → Turn → ClientTurn
turn_for managed turn = record { at = turn.at; salt = turn.salt; input = input_for managed turn.event turn.bytes }

abbrev pub turns_for : Managed → List Turn → List ClientTurn
turns_for managed turns = map (turn_for managed) turns

-- how the client begins
abbrev pub start_for : (at salt : ℕ) → Beginning → Start
start_for at salt b = record { settings = settings6_of b.duid b.managed; kept = b.kept6; at = at; salt = salt }

-- the interface after its opening
abbrev pub begun : (up at salt : ℕ) → Beginning → Iface
begun up at salt b = (opened up at salt b).iface

-- DHCPv6 runs on the interface, which has carrier at the opening.
pub record RunsDhcp6 (up : ℕ) (b : Beginning) : Type 0 where
  pub carrier : is_up up b.managed.spec.index.number ≡ true
  pub runs : runs_dhcp6 b.managed.conf ≡ true

-- ---- what is said

-- the messages of DHCPv6 among those that an interface says
abbrev pub messages6 : List Said → List Sent6
messages6 [] = []
messages6 (Dhcp4 say ∷ said) = messages6 said
messages6 (Arp say ∷ said) = messages6 said
messages6 (Dhcp6 sent ∷ said) = sent ∷ messages6 said

-- a message of the client, with the hardware address and the DUID of who says it
abbrev pub sent_from : Managed → (duid : List ℕ) → SpokenContent → Sent6
sent_from managed duid spoken = record {
  mac = managed.spec.mac;
  said = record {
    kind = spoken.kind;
    xid = spoken.xid;
    client = duid;
    server = spoken.server;
    elapsed = spoken.elapsed;
    rapid = spoken.rapid;
    ias = spoken.ias;
  };
}

-- ---- woken in time

-- the moment to which turns have come that begin at another one
abbrev pub moment_of_turns : (start : ℕ) → List Turn → ℕ
moment_of_turns start [] = start
moment_of_turns start (turn ∷ past) = turn.at

-- A turn comes no later than the interface asked for, nor goes back in time.
pub record IsPromptTurn (iface : Iface) (last : ℕ) (turn : Turn) : Type 0 where
  pub onward : last ≤ turn.at
  pub in_time : NotAfter (iface_due iface) last turn.at

abbrev pub PromptTurns : List Mac → Iface → (start : ℕ) → List Turn → Type 0
PromptTurns own iface start [] = Unit {0}
PromptTurns own iface start (turn ∷ past) =
    IsPromptTurn (iface_run own iface past) (moment_of_turns start past) turn × PromptTurns own iface start past
