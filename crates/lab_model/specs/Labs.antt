-- A lab: clients, each an interface of one client, and one server of DHCPv4 on one clock. What each line of a schedule
-- makes of it.
use Rattle.std.specs.Prelude.{ℕ, zero, suc, max, Bool, List, [], ◌∷◌, ◌++◌, map, length, Option, Some, None, option_to_list}
use Rattle.std.specs.List.{slice_get}
use Rattle.net_types.specs.declared.interface.IfIndex.{IfIndex}
use Rattle.net_types.specs.declared.interface.IfSpec.{IfSpec}
use Rattle.machine.specs.Moment.{moment_of}
use Rattle.world.specs.declared.wakes.Begin.{Begin}
use Rattle.world.specs.declared.wakes.Event.{Event}
use Rattle.world.specs.declared.wakes.Event.TheVariants as wakes
use Rattle.settings.specs.declared.interfaces.Managed.{Managed}
use Rattle.client_model.specs.Clients.{Client, ClientStep, Sending, client_turned, opening}
use Rattle.client_model.specs.HostDuid.{host_duid}
use Rattle.client_model.specs.IfaceTurns.{Turn}
use Rattle.client_model.specs.KeptLeases.{Beginning}
use Rattle.lab_schedule.specs.LabPeer.declared.pool.Pool.{Pool}
use Rattle.lab_schedule.specs.LabPeer.Hearing.{PeerState, Response, hears, made, peer_open}
use Rattle.lab_schedule.specs.declared.event.LabEvent.{LabEvent}
use Rattle.lab_schedule.specs.declared.event.LabEvent.TheVariants.{Tick, Carrier, Release, Give, Hear}
use Rattle.lab_schedule.specs.Schedules.{Schedule}

pub record Lab : Type 0 where
  pub client : Client
  pub peer : PeerState
  -- the clients' frames, in the order in which they were sent
  pub sent : List Sending
  -- the peer's frames, in the order in which they were made
  pub made : List (List ℕ)
  -- the moment of the last line
  pub clock : ℕ

-- the lab after a line, the frames that the clients send in it, and the one that the peer makes
pub record LabStep : Type 0 where
  pub lab : Lab
  pub sends : List Sending
  pub makes : Option (List ℕ)

-- the frame of a number, counted from 1
abbrev pub numbered : {X : Type 0} → ℕ → List X → Option X
numbered zero frames = None
numbered (suc before) frames = slice_get frames before

-- ---- turns of the clients

abbrev pub clients_go : (now : ℕ) → ClientStep → Lab → LabStep
clients_go now step lab = record {
  lab = record lab { client = step.client; sent = lab.sent ++ step.sends; clock = now };
  sends = step.sends;
  makes = None;
}

-- each frame is sent
abbrev pub turn_with : (now salt : ℕ) → Event → (bytes : List ℕ) → Turn
turn_with now salt event bytes = record { at = now; salt = salt; unsent = 0; event = event; bytes = bytes }

-- nothing comes of a frame that isn't made yet
abbrev pub turn_given : (now salt : ℕ) → IfIndex → (frame : Option (List ℕ)) → Turn
turn_given now salt iface None = turn_with now salt wakes.Quiet []
turn_given now salt iface (Some bytes) = turn_with now salt (wakes.Frame iface.number (length bytes)) bytes

abbrev pub clients_turned : Turn → Lab → LabStep
clients_turned turn lab = clients_go turn.at (client_turned turn lab.client) lab

-- ---- the peer

abbrev pub peer_goes : (now : ℕ) → Response → Lab → LabStep
peer_goes now response lab = record {
  lab = record lab { peer = response.peer; made = lab.made ++ option_to_list (made response); clock = now };
  sends = [];
  makes = made response;
}

-- it hears nothing of a frame that isn't sent yet
abbrev pub peer_heard : (now : ℕ) → (frame : Option Sending) → Lab → LabStep
peer_heard now None lab = record { lab = record lab { clock = now }; sends = []; makes = None }
peer_heard now (Some sending) lab = peer_goes now (hears now sending.bytes lab.peer) lab

-- ---- a line

-- moments don't go back
abbrev pub raised : (at : ℕ) → Lab → ℕ
raised at lab = max lab.clock (moment_of at)

abbrev pub lab_step : LabEvent → Lab → LabStep
lab_step (Tick at salt) lab = clients_turned (turn_with (raised at lab) salt wakes.Quiet []) lab
lab_step (Carrier at salt iface up) lab =
    clients_turned (turn_with (raised at lab) salt (wakes.Carrier iface.number up) []) lab
lab_step (Release at salt iface) lab =
    clients_turned (turn_with (raised at lab) salt (wakes.Release iface.number) []) lab
lab_step (Give at salt iface frame) lab =
    clients_turned (turn_given (raised at lab) salt iface (numbered frame lab.made)) lab
lab_step (Hear at frame) lab = peer_heard (raised at lab) (numbered frame lab.sent) lab

-- ---- the start

-- no file is read: no lease is kept
abbrev pub beginning : (duid : List ℕ) → Managed → Beginning
beginning duid managed = record { managed = managed; duid = duid; kept4 = None; kept6 = None }

abbrev pub beginnings : List Managed → List Beginning
beginnings managed = map (beginning (host_duid managed None)) managed

-- before the start
abbrev pub no_lab : Pool → Lab
no_lab pool =
    record { client = record { own = []; ifaces = [] }; peer = peer_open pool; sent = []; made = []; clock = 0 }

-- the start of a schedule's clients, of whose interfaces these are managed
abbrev pub lab_opened : List Managed → Schedule → LabStep
lab_opened managed schedule =
    clients_go (moment_of schedule.begin.at) (opening (beginnings managed) schedule.ifaces schedule.begin)
    (no_lab schedule.pool)

-- ---- all lines

-- the lab after these
abbrev pub lab_after : List LabEvent → Lab → Lab
lab_after [] lab = lab
lab_after (event ∷ events) lab = lab_after events (lab_step event lab).lab
