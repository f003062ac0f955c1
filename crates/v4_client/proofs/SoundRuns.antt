-- What holds of a client as it is made holds after all events.
use Rattle.std.proofs.Common.{ℕ, [], ◌∷◌, arith}
use Rattle.net_types.specs.Moments.{IsMoment}
use Rattle.machine.specs.Moment.{is_due, moment_of}
use Rattle.net_types.proofs.CaseLaws.{gated}
use Rattle.v4_client.specs.declared.states.Carrier.TheVariants.{Up, Down}
use Rattle.v4_client.specs.Calls.{answer_to}
use Rattle.v4_client.specs.Clients.{ClientContent, kept_terms, turn_of}
use Rattle.v4_client.specs.Granting.{kept_values}
use Rattle.v4_client.specs.History.{Event4, Tick, Heard, HeardArp, Unsent, Carries, Release, Rebind, after_event, brought_in, client_after, step_of}
use Rattle.v4_client.specs.Laws.{IsTimely, StaysSound}
use Rattle.v4_client.specs.Sound.{IsSound, IsSoundStep}
use Rattle.v4_client.specs.Due.{due_of}
use Rattle.v4_client.proofs.SoundAnswers.{answer_fits}
use Rattle.v4_client.proofs.SoundClients.{begin_fits, brought_sound, moved_sound, values_fit}
use Rattle.v4_client.proofs.SoundSteps.{arp_sound, begin_sound, heard_sound, off_sound, rebind_sound, release_sound, rests_sound, tick_sound, unsent_sound}

within : (at : ℕ) → IsMoment (moment_of at)
within at = omega arith

pub step_sound : (event : Event4) (c : ClientContent) → IsTimely event → IsSound c → IsSoundStep (kept_terms c) c.state (step_of event c)
step_sound (Tick at salt) c timely sound =
    gated (IsSoundStep (kept_terms c) c.state) (is_due (due_of c.state) (moment_of at)) _ _
    (tick_sound (kept_terms c) (turn_of (moment_of at) salt c) c.state (within at) sound.state)
    (rests_sound (kept_terms c) (turn_of (moment_of at) salt c) c.state sound.state)
step_sound (Heard arrival salt) c timely sound =
    heard_sound (kept_terms c) (turn_of arrival.at salt c) (answer_to arrival c) c.state timely sound.state
    (answer_fits c.settings arrival c.state timely sound.state)
step_sound (HeardArp own arp at salt) c timely sound = arp_sound (kept_terms c) own (turn_of (moment_of at) salt c) arp c.state sound.state
step_sound (Unsent at salt) c timely sound = unsent_sound (kept_terms c) (turn_of (moment_of at) salt c) c.state sound.state
step_sound (Carries Up at salt) c timely sound =
    begin_sound (kept_terms c) (turn_of (moment_of at) salt c) c.may_stand c.state (within at) (begin_fits c.kept sound.kept) sound.state
step_sound (Carries Down at salt) c timely sound = off_sound (kept_terms c) (turn_of (moment_of at) salt c) c.state
step_sound (Release tell at salt) c timely sound = release_sound (kept_terms c) (turn_of (moment_of at) salt c) tell c.state
step_sound (Rebind at salt) c timely sound =
    rebind_sound (kept_terms c) (turn_of (moment_of at) salt c) c.state (within at) (begin_fits c.kept sound.kept) sound.state

event_sound : (event : Event4) (c : ClientContent) → IsTimely event → IsSound c → IsSound (after_event event c)
event_sound (Tick at salt) c timely sound = moved_sound c (step_of (Tick at salt) c) sound (step_sound (Tick at salt) c timely sound)
event_sound (Heard arrival salt) c timely sound =
    moved_sound (brought_in (Heard arrival salt) c) (step_of (Heard arrival salt) c)
    (brought_sound c (answer_to arrival c) (kept_values c.settings.refused arrival.message.instances) sound
    (values_fit c.settings.refused arrival.message.instances)) (step_sound (Heard arrival salt) c timely sound)
event_sound (HeardArp own arp at salt) c timely sound =
    moved_sound c (step_of (HeardArp own arp at salt) c) sound (step_sound (HeardArp own arp at salt) c timely sound)
event_sound (Unsent at salt) c timely sound = moved_sound c (step_of (Unsent at salt) c) sound (step_sound (Unsent at salt) c timely sound)
event_sound (Carries carrier at salt) c timely sound =
    moved_sound c (step_of (Carries carrier at salt) c) sound (step_sound (Carries carrier at salt) c timely sound)
event_sound (Release tell at salt) c timely sound =
    moved_sound c (step_of (Release tell at salt) c) sound (step_sound (Release tell at salt) c timely sound)
event_sound (Rebind at salt) c timely sound = moved_sound c (step_of (Rebind at salt) c) sound (step_sound (Rebind at salt) c timely sound)

pub stays_sound : StaysSound
stays_sound start [] sound timely = sound
stays_sound start (event ∷ past) sound timely =
    event_sound event (client_after start past) timely.0 (stays_sound start past sound timely.1)
