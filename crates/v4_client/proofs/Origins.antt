-- A kept lease has the origin that it was read with, or that the ACK gave it.
use Rattle.std.proofs.Common.{◌≡◌, ℕ, ◌⊎◌, inl, inr, List, [], ◌∷◌, Option, Some, None, refl, sym, ap, ◌∙◌, subst}
use Rattle.machine.specs.Since.{Since}
use Rattle.net_types.proofs.CaseLaws.{gated}
use Rattle.net_types.proofs.ReadsLaws.{some_same}
use Rattle.net_types.specs.declared.address.Ip4.{Ip4}
use Rattle.net_types.specs.declared.interface.Name.{Name}
use Rattle.v4_options.specs.declared.code.TheConstants.{LEASE_TIME}
use Rattle.v4_message.specs.declared.kind.MessageKind.{MessageKind}
use Rattle.v4_message.specs.declared.kind.MessageKind.TheVariants as kind
use Rattle.lease_text.specs.declared.lease.Origin.{Origin}
use Rattle.lease_text.specs.Leases.{ValueContent, LeaseContent, terms_of}
use Rattle.v4_client.specs.declared.states.Answer4.{Answer4}
use Rattle.v4_client.specs.declared.states.Answer4.TheVariants as answer
use Rattle.v4_client.specs.declared.states.Exchange4.{Exchange4}
use Rattle.v4_client.specs.declared.states.Keep4.{Keep4}
use Rattle.v4_client.specs.declared.states.Keep4.TheVariants.{Stays, Clears, Takes}
use Rattle.v4_client.specs.declared.states.State4.{State4}
use Rattle.v4_client.specs.declared.states.State4.TheVariants.{Off, Init, Selecting, Requesting, Rebooting, Checking, Waiting, Bound, Renewing, Rebinding}
use Rattle.v4_client.specs.declared.states.Step4.{Step4}
use Rattle.v4_client.specs.Answers.{answering, is_good_offer, offer_of, offer_by, is_chosen, is_good_ack, ack_by, reply_of, reply_by, answer_of}
use Rattle.v4_client.specs.Clients.{ClientContent, held_terms, kept_terms}
use Rattle.v4_client.specs.History.{Event4, Tick, Heard, HeardArp, Unsent, Carries, Release, Rebind, after_event, brought_in, client_after, step_of}
use Rattle.v4_client.specs.Laws.{Grants}
use Rattle.v4_client.specs.Messages.{Arrival, number_at}
use Rattle.v4_client.specs.Moves.{kept_after}
use Rattle.v4_client.specs.Origins.{Confirms, KeepsOrigins}
use Rattle.v4_client.specs.Settings.{SettingsContent}
use Rattle.v4_client.specs.Sound.{KeepsHeld}
use Rattle.v4_client.proofs.Granted.{holds_granted}
use Rattle.v4_client.proofs.SoundRuns.{stays_sound, step_sound}

-- ---- the origin that an ACK gives

abbrev origin_at : SettingsContent → Arrival → Origin
origin_at settings arrival = record { mac = settings.site.iface.mac; confirmed = arrival.at }

abbrev TellsOrigin : SettingsContent → Arrival → Answer4 → Type 0
TellsOrigin settings arrival answer.Nothing = Unit {0}
TellsOrigin settings arrival (answer.Offer address server) = Unit {0}
TellsOrigin settings arrival (answer.Ack terms) = terms.origin ≡ Some (origin_at settings arrival)
TellsOrigin settings arrival answer.Nak = Unit {0}

module _ (settings : SettingsContent) (arrival : Arrival) where
  offers : (server : Ip4) (sort : MessageKind) → TellsOrigin settings arrival (offer_of settings arrival server sort)
  offers server kind.Offer = gated (TellsOrigin settings arrival) (is_good_offer settings arrival) _ _ tt tt
  offers server kind.Discover = tt
  offers server kind.Request = tt
  offers server kind.Decline = tt
  offers server kind.Ack = tt
  offers server kind.Nak = tt
  offers server kind.Release = tt
  offers server kind.Inform = tt

  offers_by : (server : Option Ip4) → TellsOrigin settings arrival (offer_by settings arrival server)
  offers_by None = tt
  offers_by (Some server) = offers server arrival.message.kind

  acks : (exchange : Exchange4) (server : Ip4) (lease : Option ℕ) → TellsOrigin settings arrival (ack_by settings exchange arrival server lease)
  acks exchange server None = tt
  acks exchange server (Some lease) = gated (TellsOrigin settings arrival) (is_good_ack settings exchange arrival lease) _ _ refl tt

  replies : (exchange : Exchange4) (server : Ip4) (sort : MessageKind) → TellsOrigin settings arrival (reply_of settings exchange arrival server sort)
  replies exchange server kind.Ack = acks exchange server (number_at LEASE_TIME arrival.message.instances)
  replies exchange server kind.Nak = tt
  replies exchange server kind.Discover = tt
  replies exchange server kind.Offer = tt
  replies exchange server kind.Request = tt
  replies exchange server kind.Decline = tt
  replies exchange server kind.Release = tt
  replies exchange server kind.Inform = tt

  replies_by : (exchange : Exchange4) (server : Option Ip4) → TellsOrigin settings arrival (reply_by settings exchange arrival server)
  replies_by exchange None = tt
  replies_by exchange (Some server) =
      gated (TellsOrigin settings arrival) (is_chosen exchange.server server) _ _ (replies exchange server arrival.message.kind) tt

  tells_origin : (state : State4) → TellsOrigin settings arrival (answer_of settings arrival state)
  tells_origin Off = tt
  tells_origin (Init due) = tt
  tells_origin (Selecting xid began secs backoff due) = offers_by (answering settings xid arrival)
  tells_origin (Requesting exchange secs backoff due) = replies_by exchange (answering settings exchange.xid arrival)
  tells_origin (Rebooting exchange backoff end due stands) = replies_by exchange (answering settings exchange.xid arrival)
  tells_origin (Checking xid terms origin acd stands) = tt
  tells_origin (Waiting due) = tt
  tells_origin (Bound xid terms acd) = tt
  tells_origin (Renewing exchange terms acd due) = replies_by exchange (answering settings exchange.xid arrival)
  tells_origin (Rebinding exchange terms acd due) = replies_by exchange (answering settings exchange.xid arrival)

-- ---- what an event leaves as it is

pub brought_kept : (event : Event4) (c : ClientContent) → (brought_in event c).kept ≡ c.kept
brought_kept (Tick at salt) c = refl
brought_kept (Heard arrival salt) c = refl
brought_kept (HeardArp own arp at salt) c = refl
brought_kept (Unsent at salt) c = refl
brought_kept (Carries carrier at salt) c = refl
brought_kept (Release tell at salt) c = refl
brought_kept (Rebind at salt) c = refl

settings_stay : (event : Event4) (c : ClientContent) → (after_event event c).settings ≡ c.settings
settings_stay (Tick at salt) c = refl
settings_stay (Heard arrival salt) c = refl
settings_stay (HeardArp own arp at salt) c = refl
settings_stay (Unsent at salt) c = refl
settings_stay (Carries carrier at salt) c = refl
settings_stay (Release tell at salt) c = refl
settings_stay (Rebind at salt) c = refl

pub its_settings : (start : ClientContent) (past : List Event4) → (client_after start past).settings ≡ start.settings
its_settings start [] = refl
its_settings start (event ∷ past) = settings_stay event (client_after start past) ∙ its_settings start past

-- ---- an ACK confirms the lease

confirms : (start : ClientContent) (lease : LeaseContent) (event : Event4) (earlier : List Event4) → Grants start (terms_of lease) event earlier
    → Confirms start lease event earlier
confirms start lease (Heard arrival salt) earlier granted =
    let c = client_after start earlier in
    record {
      arrival = arrival;
      salt = salt;
      heard = refl;
      granted = granted;
      origin =
          subst (TellsOrigin c.settings arrival) granted (tells_origin c.settings arrival c.state)
          ∙ ap (λ (settings : SettingsContent). Some (origin_at settings arrival)) (its_settings start earlier);
    }
confirms start lease (Tick at salt) earlier granted = absurd cc
confirms start lease (HeardArp own arp at salt) earlier granted = absurd cc
confirms start lease (Unsent at salt) earlier granted = absurd cc
confirms start lease (Carries carrier at salt) earlier granted = absurd cc
confirms start lease (Release tell at salt) earlier granted = absurd cc
confirms start lease (Rebind at salt) earlier granted = absurd cc

since_confirmed : (start : ClientContent) (lease : LeaseContent) (past : List Event4)
    → Since (λ event earlier. Unit {0}) (Grants start (terms_of lease)) past → Since (λ event earlier. Unit {0}) (Confirms start lease) past
since_confirmed start lease [] since = since
since_confirmed start lease (event ∷ past) (inl granted) = inl (confirms start lease event past granted)
since_confirmed start lease (event ∷ past) (inr since) = inr (tt, since_confirmed start lease past since.1)

-- ---- the kept lease

-- the lease was kept before, or is taken
by_keep : (keep : Keep4) (name : Name) (fresh : List ValueContent) (kept : Option LeaseContent) (lease : LeaseContent)
    → kept_after keep name fresh kept ≡ Some lease → (kept ≡ Some lease) ⊎ (keep ≡ Takes (terms_of lease))
by_keep Stays name fresh kept lease e = inl e
by_keep Clears name fresh kept lease e = absurd cc
by_keep (Takes terms) name fresh kept lease e = inr (ap (λ (l : LeaseContent). Takes (terms_of l)) (some_same e))

abbrev IsReadOrConfirmed : (start : ClientContent) → LeaseContent → List Event4 → Type 0
IsReadOrConfirmed start lease past = (start.kept ≡ Some lease) ⊎ Since (λ event earlier. Unit {0}) (Confirms start lease) past

later : (start : ClientContent) (lease : LeaseContent) (event : Event4) (past : List Event4) → IsReadOrConfirmed start lease past
    → IsReadOrConfirmed start lease (event ∷ past)
later start lease event past (inl read) = inl read
later start lease event past (inr since) = inr (inr (tt, since))

pub keeps_origins : KeepsOrigins
keeps_origins start [] lease off sound timely kept = inl kept
keeps_origins start (event ∷ past) lease off sound timely kept =
    by (by_keep step.keep brought.settings.site.iface.name brought.fresh brought.kept lease kept)
    (λ was. keeps_origins start past lease off sound timely.1 was)
  where
    c : ClientContent
    c = client_after start past

    brought : ClientContent
    brought = brought_in event c

    step : Step4
    step = step_of event c

    by : (brought.kept ≡ Some lease) ⊎ (step.keep ≡ Takes (terms_of lease)) → (c.kept ≡ Some lease → IsReadOrConfirmed start lease past)
        → IsReadOrConfirmed start lease (event ∷ past)
    by (inl was) before = later start lease event past (before (sym (brought_kept event c) ∙ was))
    by (inr takes) before =
        let goes = step_sound event c timely.0 (stays_sound start past sound timely.1) in
        let bound = subst (λ keep. KeepsHeld (kept_terms c) (held_terms c.state) keep step.state) takes goes.held in
        inr (since_confirmed start lease (event ∷ past) (holds_granted start (event ∷ past) (terms_of lease) off bound))
