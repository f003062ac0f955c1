-- What holds of a client: of each event in each state, and over every list of events.
use Rattle.std.specs.Prelude.{◌≡◌, ◌≢◌, ℕ, ◌⊎◌, true, false, List, ◌∷◌, Option, Some, None, bytes_eq}
use Rattle.std.specs.List.{AllByRecursion}
use Rattle.std.specs.Option.{is_some}
use Rattle.net_types.specs.Moments.{IsMoment}
use Rattle.machine.specs.Moment.{is_due, moment_of}
use Rattle.machine.specs.Since.{Always, Since}
use Rattle.net_types.specs.declared.address.Ip4.{Ip4}
use Rattle.v4_options.specs.declared.code.TheConstants.{SERVER_IDENTIFIER}
use Rattle.lease_text.specs.declared.lease.Terms4.{Terms4}
use Rattle.v4_client.specs.declared.states.Answer4.TheVariants as answer
use Rattle.v4_client.specs.declared.states.Carrier.TheVariants.{Down}
use Rattle.v4_client.specs.declared.states.News4.TheVariants as news
use Rattle.v4_client.specs.declared.states.State4.{State4}
use Rattle.v4_client.specs.declared.states.State4.TheVariants.{Off, Requesting}
use Rattle.v4_client.specs.Awaited.{awaited}
use Rattle.v4_client.specs.Clients.{ClientContent, bound_terms, held_terms, kept_terms}
use Rattle.v4_client.specs.Moves.{IsQuiet, told}
use Rattle.v4_client.specs.History.{Event4, Tick, Heard, Carries, Release, step_of, answer_in, brought_in, after_event, client_after}
use Rattle.v4_message.specs.Messages.{address_at}
use Rattle.v4_client.specs.Messages.{Arrival}
use Rattle.v4_client.specs.Moments.{expiry}
use Rattle.v4_client.specs.Settings.{SettingsContent}
use Rattle.v4_client.specs.Sound.{IsSound}

-- ---- what stays as it is

pub record ChangesNothing (event : Event4) (c : ClientContent) : Type 0 where
  pub unchanged : after_event event c ≡ c
  pub quiet : IsQuiet (told (step_of event c) (brought_in event c))

-- the server whose offer was taken
abbrev pub chosen_in : State4 → Option Ip4
chosen_in (Requesting exchange secs backoff due) = exchange.server
chosen_in _ = None

-- a message of another server than the chosen one
pub record IsOfOtherServer (arrival : Arrival) (state : State4) : Type 0 where
  pub chosen : Ip4
  pub is : chosen_in state ≡ Some chosen
  pub other : address_at SERVER_IDENTIFIER arrival.message.instances ≢ Some chosen

-- a message of another exchange, to another client, or of another server than the chosen one
abbrev pub IsForeign : SettingsContent → Arrival → State4 → Type 0
IsForeign settings arrival state =
    (awaited state ≢ Some arrival.message.xid)
    ⊎ (bytes_eq arrival.message.chaddr.bytes settings.site.iface.mac.bytes ≡ false)
    ⊎ IsOfOtherServer arrival state

abbrev pub IgnoresForeign : Type 0
IgnoresForeign = (c : ClientContent) (arrival : Arrival) (salt : ℕ) → IsForeign c.settings arrival c.state
    → ChangesNothing (Heard arrival salt) c

-- ---- the end of a lease

-- A lease that is held when its expiry has come isn't held after the next tick, and its end is told.
pub record Ends (event : Event4) (c : ClientContent) : Type 0 where
  pub over : held_terms (after_event event c).state ≡ None
  pub told : (step_of event c).news ≡ news.Expire

abbrev pub EndsAtExpiry : Type 0
EndsAtExpiry = (c : ClientContent) (terms : Terms4) (at salt : ℕ) → IsSound c → held_terms c.state ≡ Some terms
    → is_due (expiry terms) (moment_of at) ≡ true → Ends (Tick at salt) c

-- ---- what is held was granted, or stands since the start

-- the event is a message that was acceptable in the exchange that it met, and granted these terms
abbrev pub Grants : (start : ClientContent) → Terms4 → Event4 → List Event4 → Type 0
Grants start terms event earlier = answer_in event (client_after start earlier) ≡ answer.Ack terms

-- Where a client that was off is bound to a lease, an acceptable ACK has granted it.
abbrev pub HoldsGranted : Type 0
HoldsGranted = (start : ClientContent) (past : List Event4) (terms : Terms4) → start.state ≡ Off
    → bound_terms (client_after start past).state ≡ Some terms
    → Since (λ event earlier. Unit {0}) (Grants start terms) past

-- neither the carrier went nor was the lease released
abbrev pub GoesOn : Event4 → Type 0
GoesOn (Carries Down at salt) = ⊥
GoesOn (Release tell at salt) = ⊥
GoesOn _ = Unit {0}

-- the client goes on after the event, and is bound to no lease
pub record Stands (start : ClientContent) (event : Event4) (earlier : List Event4) : Type 0 where
  pub goes_on : GoesOn event
  pub unbound : bound_terms (client_after start (event ∷ earlier)).state ≡ None

-- It stands on the lease with which it was made, which an ACK of this interface has confirmed, as it is to, and did
-- nothing else since then than to ask for it and to check what it was granted.
pub record StandsOnKept (start : ClientContent) (past : List Event4) (terms : Terms4) : Type 0 where
  pub persistent : start.settings.site.flags.persistent ≡ true
  pub kept : kept_terms start ≡ Some terms
  pub confirmed : is_some terms.origin ≡ true
  pub still_kept : (client_after start past).kept ≡ start.kept
  pub stands : Always (Stands start) past

-- Where a client that was off holds a lease to which it isn't bound, it stands on the one with which it was made.
abbrev pub StandsAlone : Type 0
StandsAlone = (start : ClientContent) (past : List Event4) (terms : Terms4) → start.state ≡ Off
    → held_terms (client_after start past).state ≡ Some terms → bound_terms (client_after start past).state ≡ None
    → StandsOnKept start past terms

-- ---- bounds

abbrev pub IsTimely : Event4 → Type 0
IsTimely (Heard arrival salt) = IsMoment arrival.at
IsTimely _ = Unit {0}

-- What holds of a client as it is made holds after all events.
abbrev pub StaysSound : Type 0
StaysSound = (start : ClientContent) (past : List Event4) → IsSound start → AllByRecursion IsTimely past
    → IsSound (client_after start past)

-- ---- the address is probed first
