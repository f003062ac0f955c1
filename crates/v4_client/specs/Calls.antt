-- What each call of a client is: a step of the table.
use Rattle.std.specs.Prelude.{ℕ, List}
use Rattle.net_types.specs.declared.address.Mac.{Mac}
use Rattle.frame_link.specs.declared.arp.ArpView.{ArpView}
use Rattle.v4_client.specs.declared.states.Answer4.{Answer4}
use Rattle.v4_client.specs.declared.states.Carrier.{Carrier}
use Rattle.v4_client.specs.declared.states.Carrier.TheVariants.{Up, Down}
use Rattle.v4_client.specs.declared.states.Step4.{Step4}
use Rattle.v4_client.specs.declared.states.Tell.{Tell}
use Rattle.v4_client.specs.Answers.{answer_of}
use Rattle.v4_client.specs.Clients.{ClientContent, OutContent, turn_of, kept_terms}
use Rattle.v4_client.specs.Moves.{IsStep4, with_values}
use Rattle.v4_client.specs.Granting.{kept_values}
use Rattle.v4_client.specs.Hearing.{heard_row, arp_row}
use Rattle.v4_client.specs.Inputs.{begin_row, off_row, release_row, rebind_row, unsent_row}
use Rattle.v4_client.specs.Messages.{Arrival}

abbrev pub answer_to : Arrival → ClientContent → Answer4
answer_to arrival c = answer_of c.settings arrival c.state

-- the client with the values of the message, where that is an acceptable ACK
abbrev pub brought : Arrival → ClientContent → ClientContent
brought arrival c =
    with_values (answer_to arrival c) (kept_values c.settings.refused arrival.message.instances) c

abbrev pub heard_step : (salt : ℕ) → Arrival → ClientContent → Step4
heard_step salt arrival c = heard_row (turn_of arrival.at salt c) (answer_to arrival c) c.state

-- the client takes the values that the message brings, and goes the step of the table
abbrev pub Hears : (salt : ℕ) → Arrival → (old new : ClientContent) → OutContent → Type 0
Hears salt arrival old new out = IsStep4 (heard_step salt arrival old) (brought arrival old) new out

abbrev pub arp_step : (own : List Mac) → (at salt : ℕ) → ArpView → ClientContent → Step4
arp_step own at salt arp c = arp_row own (turn_of at salt c) arp c.state

abbrev pub carrier_step : Carrier → (at salt : ℕ) → ClientContent → Step4
carrier_step Up at salt c = begin_row (turn_of at salt c) c.may_stand (kept_terms c) c.state
carrier_step Down at salt c = off_row (turn_of at salt c)

abbrev pub release_step : Tell → (at salt : ℕ) → ClientContent → Step4
release_step tell at salt c = release_row (turn_of at salt c) tell c.state

abbrev pub rebind_step : (at salt : ℕ) → ClientContent → Step4
rebind_step at salt c = rebind_row (turn_of at salt c) (kept_terms c) c.state

abbrev pub unsent_step : (at salt : ℕ) → ClientContent → ClientContent
unsent_step at salt c = record c { state = unsent_row (turn_of at salt c) c.state }
