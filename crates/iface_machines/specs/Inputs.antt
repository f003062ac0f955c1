-- A turn as it is handed over, in the words of the definitions.
use Rattle.std.specs.Prelude.{ℕ, List, [], length}
use Rattle.world.specs.declared.wakes.Event.{Event}
use Rattle.world.specs.declared.wakes.Event.TheVariants.{Frame, Carrier, Duplicate, Release, Rebind, Stop, Quiet}
use Rattle.net_types.specs.declared.address.Mac.{Mac}
use Rattle.v4_frames.specs.Heard.{heard4_in}
use Rattle.v6_frames.specs.Heard.{heard6_in}
use Rattle.client_model.specs.declared.interfaces.Iface.{Iface}
use Rattle.client_model.specs.IfaceSteps.{IfaceStep}
use Rattle.client_model.specs.IfaceTurns as run
use Rattle.iface_machines.specs.declared.inputs.TurnInput.{TurnInput}
use Rattle.iface_machines.specs.declared.inputs.TurnInput.TheVariants as given
use Rattle.iface_machines.specs.declared.inputs.Turn.{Turn}

abbrev pub event_of : TurnInput → Event
event_of (given.Frame iface bytes) = Frame iface (length bytes.now)
event_of (given.Carrier iface up) = Carrier iface up
event_of (given.Duplicate iface addr) = Duplicate iface addr
event_of (given.Release iface) = Release iface
event_of (given.Rebind iface) = Rebind iface
event_of given.Stop = Stop
event_of given.Quiet = Quiet

-- the bytes of a frame
abbrev pub bytes_of : TurnInput → List ℕ
bytes_of (given.Frame iface bytes) = bytes.now
bytes_of (given.Carrier iface up) = []
bytes_of (given.Duplicate iface addr) = []
bytes_of (given.Release iface) = []
bytes_of (given.Rebind iface) = []
bytes_of given.Stop = []
bytes_of given.Quiet = []

abbrev pub turn_of : Turn → run.Turn
turn_of turn =
    record {
      at = turn.at;
      salt = turn.salt;
      unsent = turn.unsent;
      event = event_of turn.input;
      bytes = bytes_of turn.input;
    }

-- what an interface makes of the server's message of a frame
abbrev pub hears_server : (at salt : ℕ) → List ℕ → Iface → IfaceStep
hears_server at salt bytes iface =
    let mac = iface.managed.spec.mac in run.hears_message at salt (heard4_in mac bytes) (heard6_in mac bytes) iface

-- what an interface makes of the input of a turn
abbrev pub input_of : List Mac → Turn → Iface → IfaceStep
input_of own turn iface = run.input_step own turn.at turn.salt (event_of turn.input) (bytes_of turn.input) iface
