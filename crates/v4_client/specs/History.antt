-- What has happened to a client, the newest first, and where it stands then.
use Rattle.std.specs.Prelude.{ℕ, List, [], ◌∷◌, if◌then◌else◌}
use Rattle.net_types.specs.declared.address.Mac.{Mac}
use Rattle.frame_link.specs.declared.arp.ArpView.{ArpView}
use Rattle.machine.specs.Moment.{is_due, moment_of}
use Rattle.v4_client.specs.declared.states.Answer4.{Answer4}
use Rattle.v4_client.specs.declared.states.Answer4.TheVariants as answer
use Rattle.v4_client.specs.declared.states.Carrier.{Carrier}
use Rattle.v4_client.specs.declared.states.Step4.{Step4}
use Rattle.v4_client.specs.declared.states.Tell.{Tell}
use Rattle.v4_client.specs.Calls.{answer_to, arp_step, brought, carrier_step, heard_step, rebind_step, release_step}
use Rattle.v4_client.specs.Clients.{ClientContent, turn_of}
use Rattle.v4_client.specs.Moves.{moved}
use Rattle.v4_client.specs.Inputs.{unsent_row}
use Rattle.v4_client.specs.Messages.{Arrival}
use Rattle.v4_client.specs.Steps.{rests}
use Rattle.v4_client.specs.Ticks.{tick_row}
use Rattle.v4_client.specs.Due.{due_of}

pub data Event4 : Type 0 where
  Tick : (at salt : ℕ) → Event4
  Heard : Arrival → (salt : ℕ) → Event4
  HeardArp : (own : List Mac) → ArpView → (at salt : ℕ) → Event4
  Unsent : (at salt : ℕ) → Event4
  Carries : Carrier → (at salt : ℕ) → Event4
  Release : Tell → (at salt : ℕ) → Event4
  Rebind : (at salt : ℕ) → Event4

-- a tick before the due moment changes nothing
abbrev pub tick_step : (at salt : ℕ) → ClientContent → Step4
tick_step at salt c =
    if is_due (due_of c.state) at then tick_row (turn_of at salt c) c.state else rests (turn_of at salt c) c.state

abbrev pub step_of : Event4 → ClientContent → Step4
step_of (Tick at salt) c = tick_step (moment_of at) salt c
step_of (Heard arrival salt) c = heard_step salt arrival c
step_of (HeardArp own arp at salt) c = arp_step own (moment_of at) salt arp c
step_of (Unsent at salt) c = rests (turn_of (moment_of at) salt c) (unsent_row (turn_of (moment_of at) salt c) c.state)
step_of (Carries carrier at salt) c = carrier_step carrier (moment_of at) salt c
step_of (Release tell at salt) c = release_step tell (moment_of at) salt c
step_of (Rebind at salt) c = rebind_step (moment_of at) salt c

-- what the event says to the client, where it is a message
abbrev pub answer_in : Event4 → ClientContent → Answer4
answer_in (Tick at salt) c = answer.Nothing
answer_in (Heard arrival salt) c = answer_to arrival c
answer_in (HeardArp own arp at salt) c = answer.Nothing
answer_in (Unsent at salt) c = answer.Nothing
answer_in (Carries carrier at salt) c = answer.Nothing
answer_in (Release tell at salt) c = answer.Nothing
answer_in (Rebind at salt) c = answer.Nothing

-- the values that the event brings
abbrev pub brought_in : Event4 → ClientContent → ClientContent
brought_in (Tick at salt) c = c
brought_in (Heard arrival salt) c = brought arrival c
brought_in (HeardArp own arp at salt) c = c
brought_in (Unsent at salt) c = c
brought_in (Carries carrier at salt) c = c
brought_in (Release tell at salt) c = c
brought_in (Rebind at salt) c = c

abbrev pub after_event : Event4 → ClientContent → ClientContent
after_event event c = moved (step_of event c) (brought_in event c)

abbrev pub client_after : ClientContent → List Event4 → ClientContent
client_after start [] = start
client_after start (event ∷ past) = after_event event (client_after start past)
