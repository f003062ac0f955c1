-- The DHCPv4 client of an interface keeps a lease within the bounds of its text over each call.
use Rattle.std.proofs.Common.{ℕ, ◌^◌, ◌<◌, ◌≤◌, List, Option, Some, None, IfSome, sym, subst, arith}
use Rattle.machine.specs.Moment.{is_due}
use Rattle.net_types.proofs.CaseLaws.{gated}
use Rattle.net_types.specs.AddressText.{FitsIp4, FitsMac}
use Rattle.net_types.specs.Moments.{IsMoment}
use Rattle.net_types.specs.declared.address.Ip4.{Ip4}
use Rattle.net_types.specs.declared.address.Mac.{Mac}
use Rattle.net_types.specs.declared.interface.Name.{Name}
use Rattle.frame_link.specs.declared.arp.ArpView.{ArpView}
use Rattle.lease_text.specs.Bounds.{FitsLease, HasText}
use Rattle.lease_text.specs.Leases.{LeaseContent, ValueContent, terms_of}
use Rattle.lease_text.specs.declared.lease.Terms4.{Terms4}
use Rattle.v4_options.specs.declared.code.TheConstants.{LEASE_TIME, SERVER_IDENTIFIER}
use Rattle.v4_options.specs.Numbers.{address_at, number_at}
use Rattle.v4_message.specs.declared.kind.MessageKind.{MessageKind}
use Rattle.v4_message.specs.declared.kind.MessageKind.TheVariants as kind
use Rattle.v4_frames.specs.Heard.{HeardMessage}
use Rattle.v4_client.specs.Answers.{ack_by, answer_of, answering, is_blacklisted, is_chosen, is_good_ack, is_good_offer, offer_by, offer_of, reply_by, reply_of, unless_blacklisted}
use Rattle.v4_client.specs.Calls.{answer_to, arp_step, brought, carrier_step, heard_step, rebind_step, release_step, unsent_step}
use Rattle.v4_client.specs.Clients.{ClientContent, held_of, is_held, kept_terms, turn_of}
use Rattle.v4_client.specs.Due.{due_of}
use Rattle.v4_client.specs.Granting.{kept_values, terms_granted}
use Rattle.v4_client.specs.History.{tick_step}
use Rattle.v4_client.specs.Messages.{Arrival}
use Rattle.v4_client.specs.Moves.{kept_after, moved}
use Rattle.v4_client.specs.Settings.{SettingsContent}
use Rattle.v4_client.specs.Sound.{IsKept, IsSound, IsSoundStep}
use Rattle.v4_client.specs.declared.states.Carrier.{Carrier}
use Rattle.v4_client.specs.declared.states.Carrier.TheVariants.{Up, Down}
use Rattle.v4_client.specs.declared.states.Exchange4.{Exchange4}
use Rattle.v4_client.specs.declared.states.Keep4.{Keep4}
use Rattle.v4_client.specs.declared.states.Keep4.TheVariants.{Stays, Clears, Takes}
use Rattle.v4_client.specs.declared.states.State4.{State4}
use Rattle.v4_client.specs.declared.states.State4.TheVariants.{Off, Init, Selecting, Requesting, Rebooting, Checking, Waiting, Bound, Renewing, Rebinding}
use Rattle.v4_client.specs.declared.states.Step4.{Step4}
use Rattle.v4_client.specs.declared.states.Tell.{Tell}
use Rattle.v4_client.specs.declared.states.Turn4.{Turn4}
use Rattle.v4_client.proofs.SoundAnswers.{answer_fits}
use Rattle.v4_client.proofs.SoundClients.{begin_fits, brought_sound, moved_sound, values_fit}
use Rattle.v4_client.proofs.SoundSteps.{arp_sound, begin_sound, heard_sound, off_sound, rebind_sound, release_sound, rests_sound, tick_sound, unsent_fits, unsent_held}
use Rattle.client_model.specs.Dhcp4Steps.{arrival_at}
use Rattle.client_model.specs.Jobs.{leased4}
use Rattle.safe_texts.specs.ExactVariables.{FitsHeld}
use Rattle.safe_texts.proofs.FrameOctets.{Values}
use Rattle.safe_texts.proofs.KeptOctets.{OctetValues}
use Rattle.exact_texts.proofs.Heard4.{Good4, IsShort, number_short, option_fits}
use Rattle.exact_texts.proofs.TypedRows4.{TypedAnswer, TypedKeep, TypedState, TypedStep, TypedTerms, arp_typed, begin_typed, heard_typed, off_typed, rebind_typed, release_typed, rests_typed, tick_typed, unsent_typed}

-- ---- a client whose leases have a text, apart from the values that came with them

abbrev TypedLease : LeaseContent → Type 0
TypedLease lease = TypedTerms (terms_of lease)

pub record Exact4 (c : ClientContent) : Type 0 where
  pub sound : IsSound c
  pub mac : FitsMac c.settings.site.iface.mac
  pub state : TypedState c.state
  pub kept : IfSome c.kept TypedLease

-- with these values they have one
text_of : (kept : Option LeaseContent) → IfSome kept FitsLease → IfSome kept TypedLease → IfSome kept (λ (lease : LeaseContent). OctetValues lease.values)
    → IfSome kept HasText
text_of None fits typed values = tt
text_of (Some lease) fits typed values = record {
  fits = fits;
  typed = record { origin = typed.origin; server = typed.server; server_mac = typed.server_mac; time = typed.time; values = values };
}

held_fits : (kept : Option LeaseContent) → IfSome kept HasText → FitsHeld (leased4 kept)
held_fits None has = tt
held_fits (Some lease) has = has

pub held4 : (c : ClientContent) → Exact4 c → IfSome c.kept (λ (lease : LeaseContent). OctetValues lease.values) → FitsHeld (leased4 (held_of c))
held4 c exact values =
    gated (λ (held : Option LeaseContent). FitsHeld (leased4 held)) (is_held c.state) c.kept None
    (held_fits c.kept (text_of c.kept exact.sound.kept exact.kept values)) tt

pub typed_of : (kept : Option LeaseContent) → IfSome kept HasText → IfSome kept TypedLease
typed_of None has = tt
typed_of (Some lease) has =
    record { origin = has.typed.origin; server = has.typed.server; server_mac = has.typed.server_mac; time = has.typed.time }

-- ---- a step

kept_typed : (keep : Keep4) (name : Name) (fresh : List ValueContent) (kept : Option LeaseContent) → TypedKeep keep → IfSome kept TypedLease
    → IfSome (kept_after keep name fresh kept) TypedLease
kept_typed Stays name fresh kept taken typed = typed
kept_typed Clears name fresh kept taken typed = tt
kept_typed (Takes terms) name fresh kept taken typed = taken

moved_exact : (c : ClientContent) (step : Step4) → Exact4 c → IsSoundStep (kept_terms c) c.state step → TypedStep step → Exact4 (moved step c)
moved_exact c step exact sound typed = record {
  sound = moved_sound c step exact.sound sound;
  mac = exact.mac;
  state = typed.state;
  kept = kept_typed step.keep c.settings.site.iface.name c.fresh c.kept typed.keep exact.kept;
}

-- ---- what is granted

unless_fits : (settings : SettingsContent) (server : Option Ip4) → IfSome server FitsIp4 → IfSome (unless_blacklisted settings server) FitsIp4
unless_fits settings None fits = tt
unless_fits settings (Some server) fits =
    gated (λ (o : Option Ip4). IfSome o FitsIp4) (is_blacklisted settings server) None (Some server) tt fits

within : (n : ℕ) → n < 2 ^ 32 → n ≤ 4294967295
within n short = omega (arith, short)

module _ (settings : SettingsContent) (arrival : Arrival) (mac : FitsMac settings.site.iface.mac) (source : FitsMac arrival.source)
    (values : Values arrival.message.instances) where
  server_fits : (xid : ℕ) → IfSome (answering settings xid arrival) FitsIp4
  server_fits xid =
      gated (λ (o : Option Ip4). IfSome o FitsIp4) _ (unless_blacklisted settings (address_at SERVER_IDENTIFIER arrival.message.instances)) None
      (unless_fits settings (address_at SERVER_IDENTIFIER arrival.message.instances) (option_fits SERVER_IDENTIFIER arrival.message.instances values)) tt

  offer_typed : (server : Ip4) (sort : MessageKind) → TypedAnswer (offer_of settings arrival server sort)
  offer_typed server kind.Offer = gated TypedAnswer (is_good_offer settings arrival) _ _ tt tt
  offer_typed server kind.Discover = tt
  offer_typed server kind.Request = tt
  offer_typed server kind.Decline = tt
  offer_typed server kind.Ack = tt
  offer_typed server kind.Nak = tt
  offer_typed server kind.Release = tt
  offer_typed server kind.Inform = tt

  offered_typed : (server : Option Ip4) → TypedAnswer (offer_by settings arrival server)
  offered_typed None = tt
  offered_typed (Some server) = offer_typed server arrival.message.kind

  granted_typed : (exchange : Exchange4) (server : Ip4) → FitsIp4 server → (lease : ℕ) → IsShort lease
      → TypedTerms (terms_granted settings arrival exchange server lease)
  granted_typed exchange server fits lease short = record { origin = mac; server = fits; server_mac = source; time = within lease short }

  ack_typed : (exchange : Exchange4) (server : Ip4) → FitsIp4 server → (lease : Option ℕ) → IfSome lease IsShort
      → TypedAnswer (ack_by settings exchange arrival server lease)
  ack_typed exchange server fits None short = tt
  ack_typed exchange server fits (Some lease) short =
      gated TypedAnswer (is_good_ack settings exchange arrival lease) _ _ (granted_typed exchange server fits lease short) tt

  reply_typed : (exchange : Exchange4) (server : Ip4) → FitsIp4 server → (sort : MessageKind) → TypedAnswer (reply_of settings exchange arrival server sort)
  reply_typed exchange server fits kind.Ack =
      ack_typed exchange server fits (number_at LEASE_TIME arrival.message.instances) (number_short LEASE_TIME arrival.message.instances values)
  reply_typed exchange server fits kind.Nak = tt
  reply_typed exchange server fits kind.Discover = tt
  reply_typed exchange server fits kind.Offer = tt
  reply_typed exchange server fits kind.Request = tt
  reply_typed exchange server fits kind.Decline = tt
  reply_typed exchange server fits kind.Release = tt
  reply_typed exchange server fits kind.Inform = tt

  replied_typed : (exchange : Exchange4) (server : Option Ip4) → IfSome server FitsIp4 → TypedAnswer (reply_by settings exchange arrival server)
  replied_typed exchange None fits = tt
  replied_typed exchange (Some server) fits =
      gated TypedAnswer (is_chosen exchange.server server) _ _ (reply_typed exchange server fits arrival.message.kind) tt

  in_exchange : (exchange : Exchange4) → TypedAnswer (reply_by settings exchange arrival (answering settings exchange.xid arrival))
  in_exchange exchange = replied_typed exchange (answering settings exchange.xid arrival) (server_fits exchange.xid)

  answer_typed : (state : State4) → TypedAnswer (answer_of settings arrival state)
  answer_typed Off = tt
  answer_typed (Init due) = tt
  answer_typed (Selecting xid began secs backoff due) = offered_typed (answering settings xid arrival)
  answer_typed (Requesting exchange secs backoff due) = in_exchange exchange
  answer_typed (Rebooting exchange backoff end due stands) = in_exchange exchange
  answer_typed (Checking xid terms origin acd stands) = tt
  answer_typed (Waiting due) = tt
  answer_typed (Bound xid terms acd) = tt
  answer_typed (Renewing exchange terms acd due) = in_exchange exchange
  answer_typed (Rebinding exchange terms acd due) = in_exchange exchange

-- ---- the calls of a moment

module _ (at salt : ℕ) (early : IsMoment at) where
  module _ (c : ClientContent) (exact : Exact4 c) where
    abbrev turn : Turn4
    turn = turn_of at salt c

    abbrev IsSoundHere : Step4 → Type 0
    IsSoundHere step = IsSoundStep (kept_terms c) c.state step

    pub tick4 : Exact4 (moved (tick_step at salt c) c)
    tick4 =
        moved_exact c (tick_step at salt c) exact
        (gated IsSoundHere (is_due (due_of c.state) at) _ _ (tick_sound (kept_terms c) turn c.state early exact.sound.state)
        (rests_sound (kept_terms c) turn c.state exact.sound.state))
        (gated TypedStep (is_due (due_of c.state) at) _ _ (tick_typed turn c.state exact.state) (rests_typed turn c.state exact.state))

    pub packet4 : (own : List Mac) (arp : ArpView) → Exact4 (moved (arp_step own at salt arp c) c)
    packet4 own arp =
        moved_exact c (arp_step own at salt arp c) exact (arp_sound (kept_terms c) own turn arp c.state exact.sound.state)
        (arp_typed turn own arp c.state exact.state)

    pub carrier4 : (carrier : Carrier) → Exact4 (moved (carrier_step carrier at salt c) c)
    carrier4 Up =
        moved_exact c (carrier_step Up at salt c) exact
        (begin_sound (kept_terms c) turn c.may_stand c.state early (begin_fits c.kept exact.sound.kept) exact.sound.state)
        (begin_typed turn c.may_stand (kept_terms c) c.state exact.state)
    carrier4 Down = moved_exact c (carrier_step Down at salt c) exact (off_sound (kept_terms c) turn c.state) (off_typed turn)

    pub release4 : (tell : Tell) → Exact4 (moved (release_step tell at salt c) c)
    release4 tell =
        moved_exact c (release_step tell at salt c) exact (release_sound (kept_terms c) turn tell c.state) (release_typed turn tell c.state)

    pub rebind4 : Exact4 (moved (rebind_step at salt c) c)
    rebind4 =
        moved_exact c (rebind_step at salt c) exact
        (rebind_sound (kept_terms c) turn c.state early (begin_fits c.kept exact.sound.kept) exact.sound.state)
        (rebind_typed turn (kept_terms c) c.state exact.state)

    pub unsent4 : Exact4 (unsent_step at salt c)
    unsent4 = record {
      sound = record {
        name = exact.sound.name;
        ask = exact.sound.ask;
        state = unsent_fits turn c.state exact.sound.state;
        kept = exact.sound.kept;
        held = subst (λ (terms : Option Terms4). IsKept terms c.kept) (sym (unsent_held turn c.state)) exact.sound.held;
        fresh = exact.sound.fresh;
      };
      mac = exact.mac;
      state = unsent_typed turn c.state exact.state;
      kept = exact.kept;
    }

    -- a message that is heard
    module _ (heard : HeardMessage) (good : Good4 heard) where
      abbrev arrival : Arrival
      arrival = arrival_at at heard

      pub brought4 : Exact4 (brought arrival c)
      brought4 = record {
        sound = brought_sound c (answer_to arrival c) (kept_values c.settings.refused arrival.message.instances) exact.sound
            (values_fit c.settings.refused arrival.message.instances);
        mac = exact.mac;
        state = exact.state;
        kept = exact.kept;
      }

      pub takes4 : Exact4 (moved (heard_step salt arrival c) (brought arrival c))
      takes4 =
          moved_exact (brought arrival c) (heard_step salt arrival c) brought4
          (heard_sound (kept_terms c) turn (answer_to arrival c) c.state early exact.sound.state
          (answer_fits c.settings arrival c.state early exact.sound.state))
          (heard_typed turn (answer_to arrival c) c.state exact.state (answer_typed c.settings arrival exact.mac good.source good.values c.state))
