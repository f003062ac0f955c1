-- The life of each client in a lab: how it begins, and the turns that the lines give it.
use Rattle.std.specs.Prelude.{◌≡◌, List, [], ◌∷◌, map, Option, Some, None}
use Rattle.machine.specs.Moment.{moment_of}
use Rattle.world.specs.declared.wakes.Event.TheVariants as wakes
use Rattle.settings.specs.declared.interfaces.Managed.{Managed}
use Rattle.client_model.specs.HostDuid.{host_duid}
use Rattle.client_model.specs.IfaceTurns.{Turn}
use Rattle.lab_schedule.specs.declared.event.LabEvent.{LabEvent}
use Rattle.lab_schedule.specs.declared.event.LabEvent.TheVariants.{Tick, Carrier, Release, Give, Hear}
use Rattle.lab_schedule.specs.Schedules.{Schedule}
use Rattle.lab_model.specs.Labs.{Lab, beginning, lab_after, lab_opened, lab_step, numbered, raised, turn_given, turn_with}
use Rattle.lab_laws.specs.Messages.{Start, step_after}

-- the turn that a line gives to all clients; where the peer hears there is none
abbrev pub turn_of : LabEvent → Lab → Option Turn
turn_of (Tick at salt) lab = Some (turn_with (raised at lab) salt wakes.Quiet [])
turn_of (Carrier at salt iface up) lab = Some (turn_with (raised at lab) salt (wakes.Carrier iface.number up) [])
turn_of (Release at salt iface) lab = Some (turn_with (raised at lab) salt (wakes.Release iface.number) [])
turn_of (Give at salt iface frame) lab = Some (turn_given (raised at lab) salt iface (numbered frame lab.made))
turn_of (Hear at frame) lab = None

abbrev pub with_turn : Option Turn → List Turn → List Turn
with_turn None turns = turns
with_turn (Some turn) turns = turn ∷ turns

-- the turns of some lines in front of those before them, the last one first
abbrev pub turns_onto : List LabEvent → Lab → List Turn → List Turn
turns_onto [] lab turns = turns
turns_onto (event ∷ events) lab turns = turns_onto events (lab_step event lab).lab (with_turn (turn_of event lab) turns)

-- how a client of a lab begins
abbrev pub start_in : Schedule → List Managed → Managed → Start
start_in schedule managed one = record {
  own = map (λ spec. spec.mac) schedule.ifaces;
  beginning = beginning (host_duid managed None) one;
  up = schedule.begin.up;
  at = moment_of schedule.begin.at;
  salt = schedule.begin.salt;
}

-- After any lines each client of a lab stands where its own opening and those turns bring it.
abbrev pub ClientsLiveApart : Type 0
ClientsLiveApart = (managed : List Managed) (schedule : Schedule) (events : List LabEvent)
    → let first = (lab_opened managed schedule).lab in
    (lab_after events first).client.ifaces
    ≡ map (λ one. (step_after (start_in schedule managed one) (turns_onto events first [])).iface) managed
