-- Each client of a lab lives its own life.
use Rattle.std.proofs.Common.{◌≡◌, ℕ, List, [], ◌∷◌, map, Option, Some, None, refl, ap, ◌∙◌}
use Rattle.std.specs.Prelude.{flat_map}
use Rattle.std.proofs.lemmas.Simd.{map-map}
use Rattle.net_types.specs.declared.address.Mac.{Mac}
use Rattle.world.specs.declared.wakes.Event.TheVariants as wakes
use Rattle.settings.specs.declared.interfaces.Managed.{Managed}
use Rattle.client_model.specs.declared.interfaces.Iface.{Iface}
use Rattle.client_model.specs.ClientSettings.{ask_of}
use Rattle.client_model.specs.Clients.{Client, Sending, client_turned, sends_of, spelled}
use Rattle.client_model.specs.HostDuid.{host_duid}
use Rattle.client_model.specs.IfaceSteps.{IfaceStep}
use Rattle.client_model.specs.IfaceTurns.{Turn, iface_turned}
use Rattle.client_model.specs.Interfaces.{opened, resting}
use Rattle.client_model.specs.Messages.{Said}
use Rattle.client_model.proofs.SameInterfaces.{IsSame, in_turn, opened_is_same, turned_is_same}
use Rattle.machine.specs.Moment.{moment_of}
use Rattle.lab_schedule.specs.declared.event.LabEvent.{LabEvent}
use Rattle.lab_schedule.specs.declared.event.LabEvent.TheVariants.{Tick, Carrier, Release, Give, Hear}
use Rattle.lab_schedule.specs.Schedules.{Schedule}
use Rattle.lab_model.specs.Labs.{Lab, beginning, lab_after, lab_opened, lab_step, numbered, peer_heard, raised, turn_given, turn_with}
use Rattle.lab_laws.specs.Messages.{Start, step_after}
use Rattle.lab_laws.specs.Lives.{turn_of, with_turn, turns_onto, start_in, ClientsLiveApart}

-- the interfaces after their steps
after_each : {X Y : Type 0} (step : Y → IfaceStep) (made : X → Y) (xs : List X)
    → map (λ (s : IfaceStep). s.iface) (map step (map made xs)) ≡ map (λ (x : X). (step (made x)).iface) xs
after_each step made [] = refl
after_each step made (x ∷ xs) = ap (λ (ifaces : List Iface). (step (made x)).iface ∷ ifaces) (after_each step made xs)

-- ---- each client stays the one that it is

pub same_after : (start : Start) (turns : List Turn) → IsSame (resting start.beginning) (step_after start turns).iface
same_after start [] = opened_is_same start.up start.at start.salt start.beginning
same_after start (turn ∷ turns) =
    in_turn (resting start.beginning) (step_after start turns).iface (step_after start (turn ∷ turns)).iface (same_after start turns)
    (turned_is_same start.own turn (step_after start turns).iface)

-- the frames of what it says
abbrev pub frames : Start → List Said → List Sending
frames start said = map (spelled start.beginning.managed.spec (ask_of start.beginning.duid start.beginning.managed)) said

pub frames_so : (start : Start) (turns : List Turn) → sends_of (step_after start turns) ≡ frames start (step_after start turns).said
frames_so start turns = λ i.
    map (spelled ((same_after start turns).managed i).spec ((same_after start turns).settings i).ask) (step_after start turns).said

-- ---- all clients

module _ (managed : List Managed) (schedule : Schedule) where
  abbrev pub own : List Mac
  own = map (λ spec. spec.mac) schedule.ifaces

  -- the clients after these turns
  abbrev pub clients : List Turn → Client
  clients turns = record { own = own; ifaces = map (λ one. (step_after (start_in schedule managed one) turns).iface) managed }

  pub opens_so : (lab_opened managed schedule).lab.client ≡ clients []
  opens_so =
      ap (λ (ifaces : List Iface). record { own = own; ifaces = ifaces })
      (after_each (opened schedule.begin.up (moment_of schedule.begin.at) schedule.begin.salt) (beginning (host_duid managed None)) managed)

  turns_so : (turn : Turn) (turns : List Turn) → (client_turned turn (clients turns)).client ≡ clients (turn ∷ turns)
  turns_so turn turns =
      ap (λ (ifaces : List Iface). record { own = own; ifaces = ifaces })
      (after_each (iface_turned own turn) (λ (one : Managed). (step_after (start_in schedule managed one) turns).iface) managed)

  pub gone : (turn : Turn) (turns : List Turn) (client : Client) → client ≡ clients turns → (client_turned turn client).client ≡ clients (turn ∷ turns)
  gone turn turns client is = ap (λ (c : Client). (client_turned turn c).client) is ∙ turns_so turn turns

  pub heard_so : (now : ℕ) (frame : Option Sending) (lab : Lab) → (peer_heard now frame lab).lab.client ≡ lab.client
  heard_so now None lab = refl
  heard_so now (Some sending) lab = refl

  -- the steps of the clients in their last turn
  abbrev pub last_steps : List Turn → List IfaceStep
  last_steps turns = map (λ (one : Managed). step_after (start_in schedule managed one) turns) managed

  pub opening_steps : map (opened schedule.begin.up (moment_of schedule.begin.at) schedule.begin.salt)
      (map (beginning (host_duid managed None)) managed) ≡ last_steps []
  opening_steps =
      map-map (opened schedule.begin.up (moment_of schedule.begin.at) schedule.begin.salt) (beginning (host_duid managed None)) managed

  -- what is sent in a turn
  pub turn_sends : (turn : Turn) (turns : List Turn) (client : Client) → client ≡ clients turns
      → (client_turned turn client).sends ≡ flat_map sends_of (last_steps (turn ∷ turns))
  turn_sends turn turns client is =
      ap (λ (c : Client). (client_turned turn c).sends) is
      ∙ ap (flat_map sends_of) (map-map (iface_turned own turn) (λ (one : Managed). (step_after (start_in schedule managed one) turns).iface) managed)

  steps_so : (event : LabEvent) (lab : Lab) (turns : List Turn) → lab.client ≡ clients turns
      → (lab_step event lab).lab.client ≡ clients (with_turn (turn_of event lab) turns)
  steps_so (Tick at salt) lab turns is = gone (turn_with (raised at lab) salt wakes.Quiet []) turns lab.client is
  steps_so (Carrier at salt iface up) lab turns is = gone (turn_with (raised at lab) salt (wakes.Carrier iface.number up) []) turns lab.client is
  steps_so (Release at salt iface) lab turns is = gone (turn_with (raised at lab) salt (wakes.Release iface.number) []) turns lab.client is
  steps_so (Give at salt iface frame) lab turns is = gone (turn_given (raised at lab) salt iface (numbered frame lab.made)) turns lab.client is
  steps_so (Hear at frame) lab turns is = heard_so (raised at lab) (numbered frame lab.sent) lab ∙ is

  all_so : (events : List LabEvent) (lab : Lab) (turns : List Turn) → lab.client ≡ clients turns
      → (lab_after events lab).client ≡ clients (turns_onto events lab turns)
  all_so [] lab turns is = is
  all_so (event ∷ events) lab turns is = all_so events (lab_step event lab).lab (with_turn (turn_of event lab) turns) (steps_so event lab turns is)

pub clients_live_apart : ClientsLiveApart
clients_live_apart managed schedule events =
    ap (λ (c : Client). c.ifaces) (all_so managed schedule events (lab_opened managed schedule).lab [] (opens_so managed schedule))
