-- Over all turns of an interface: its kept DHCPv4 lease is that of its file, or an ACK granted it in one of them.
use Rattle.std.proofs.Common.{◌≡◌, ◌⊎◌, inl, inr, ℕ, ◌<◌, ◌^◌, true, List, [], ◌∷◌, Some, None, refl, sym, ap, subst, ◌∙◌, arith}
use Rattle.std.specs.List.{AllByRecursion}
use Rattle.std.specs.Prelude.{◌==◌, if◌then◌else◌}
use Rattle.machine.specs.Moment.{moment_of}
use Rattle.machine.specs.Since.{Since, Always}
use Rattle.net_types.specs.declared.address.Mac.{Mac}
use Rattle.v4_frames.specs.Heard.{HeardMessage, heard4_in}
use Rattle.lease_text.specs.Leases.{LeaseContent, terms_of}
use Rattle.v4_client.specs.declared.states.Answer4.TheVariants.{Ack}
use Rattle.v4_client.specs.Calls.{answer_to}
use Rattle.v4_client.specs.Clients.{ClientContent, client_made}
use Rattle.v4_client.specs.History.{Event4, Tick, Heard, HeardArp, Unsent, Carries, Release, Rebind, answer_in, client_after}
use Rattle.v4_client.specs.Laws.{IsTimely}
use Rattle.v4_client.specs.Messages.{Arrival}
use Rattle.v4_client.specs.Origins.{Confirms}
use Rattle.v4_client.specs.Sound.{IsSound}
use Rattle.v4_client.proofs.Origins.{keeps_origins}
use Rattle.world.specs.declared.wakes.Event.{Event}
use Rattle.world.specs.declared.wakes.Event.TheVariants as input
use Rattle.script_model.specs.IfaceSets.{is_up}
use Rattle.settings.specs.declared.interfaces.Managed.{Managed}
use Rattle.client_model.specs.declared.interfaces.Iface.{Iface}
use Rattle.client_model.specs.ClientSettings.{settings_of}
use Rattle.client_model.specs.Dhcp4Steps.{arrival_at}
use Rattle.client_model.specs.Fitting.{FitsBeginning}
use Rattle.client_model.specs.Interfaces.{resting, ticked, unsent_in}
use Rattle.client_model.specs.KeptLeases.{Beginning}
use Rattle.client_model.proofs.AskFitting.{ask_fits}
use Rattle.evidence_words.specs.IfaceLives.{Met, Opening, iface_after, shown, site_of}
use Rattle.evidence_words.specs.Inputs.{Site}
use Rattle.lease_evidence.specs.Replies.{message_on}
use Rattle.origin_laws.specs.Granted6.{origin_at}
use Rattle.origin_laws.specs.Origins4.{AreMoments, IsGrantedIn4, KeptLeasesTellOrigins4, client4_at}
use Rattle.origin_laws.proofs.Events4.{CameHere, Known, Lived, all_tick, input_lived, opens_lived, undone}
use Rattle.origin_laws.proofs.Turns.{managed1, stands_after, unsent_same}

told_at : (at : ℕ) → at < 10 ^ 15 → at ≡ moment_of at
told_at at early = omega (arith, early)

module _ (own : List Mac) (beginning : Beginning) (opening : Opening) where
  abbrev life : Site
  life = site_of own beginning opening

  abbrev iface : List Met → Iface
  iface mets = iface_after own beginning opening mets

  abbrev start : ClientContent
  start = client_made (settings_of beginning.duid beginning.managed) beginning.kept4

  -- a message that was heard after some events came in in this turn
  record IsHeardIn (arrival : Arrival) (events : List Event4) (met : Met) (f : Iface) : Type 0 where
    heard : HeardMessage
    came : message_on life met.turn.event met.turn.bytes ≡ Some heard
    arrival_is : arrival ≡ arrival_at met.turn.at heard
    client_is : client4_at met f ≡ client_after start events
    early : met.turn.at < 10 ^ 15

  abbrev CameIn : List Met → Arrival → List Event4 → Type 0
  CameIn mets arrival events = Since (λ met earlier. Unit {0}) (λ met earlier. IsHeardIn arrival events met (iface earlier)) mets

  -- ---- one turn more

  known_more : (met : Met) (mets : List Met) (event : Event4) (earlier : List Event4) → Known (CameIn mets) event earlier
      → Known (CameIn (met ∷ mets)) event earlier
  known_more met mets (Heard arrival salt) earlier came = inr (tt, came)
  known_more met mets (Tick at salt) earlier came = tt
  known_more met mets (HeardArp macs arp at salt) earlier came = tt
  known_more met mets (Unsent at salt) earlier came = tt
  known_more met mets (Carries carrier at salt) earlier came = tt
  known_more met mets (Release tell at salt) earlier came = tt
  known_more met mets (Rebind at salt) earlier came = tt

  all_more : (met : Met) (mets : List Met) (events : List Event4) → Always (Known (CameIn mets)) events
      → Always (Known (CameIn (met ∷ mets))) events
  all_more met mets [] all = tt
  all_more met mets (event ∷ earlier) all = (known_more met mets event earlier all.0, all_more met mets earlier all.1)

  later : (met : Met) (mets : List Met) (c : ClientContent) → Lived start (CameIn mets) c → Lived start (CameIn (met ∷ mets)) c
  later met mets c l = record { events = l.events; is = l.is; known = all_more met mets l.events l.known }

  -- the messages of a frame on the interface
  of_frame : (m : Managed) (index : ℕ) (bytes : List ℕ) (heard : HeardMessage) → m ≡ life.managed → (m.spec.index.number == index) ≡ true
      → heard4_in m.spec.mac bytes ≡ Some heard
      → (if life.managed.spec.index.number == index then heard4_in life.managed.spec.mac bytes else None) ≡ Some heard
  of_frame m index bytes heard same here reads =
      subst (λ (k : Managed). (if k.spec.index.number == index then heard4_in k.spec.mac bytes else None) ≡ Some heard) same (rw here reads)

  module _ (met : Met) (mets : List Met) (early : met.turn.at < 10 ^ 15) where
    abbrev at : ℕ
    at = met.turn.at

    abbrev salt : ℕ
    salt = met.turn.salt

    abbrev g : Iface
    g = unsent_in met.turn.unsent at salt (iface mets)

    abbrev g1 : Iface
    g1 = (ticked at salt g).iface

    same : g1.managed ≡ life.managed
    same = managed1 life (shown opening mets) met (iface mets) (stands_after own beginning opening mets) g
        (unsent_same met.turn.unsent at salt (iface mets))

    abbrev Came : Arrival → List Event4 → Type 0
    Came = CameIn (met ∷ mets)

    came_here : (l : Lived start Came g1.dhcp4) (event : Event) → met.turn.event ≡ event
        → CameHere start Came at salt (told_at at early) own met.turn.bytes event g1 l.events
    came_here l (input.Frame index len) is = λ here heard reads. inl (record {
      heard = heard;
      came =
          subst (λ (ev : Event). message_on life ev met.turn.bytes ≡ Some heard) (sym is)
          (of_frame g1.managed index met.turn.bytes heard same here reads);
      arrival_is = refl;
      client_is = l.is;
      early = early;
    })
    came_here l (input.Carrier index up) is = tt
    came_here l (input.Duplicate index addr) is = tt
    came_here l (input.Release index) is = tt
    came_here l (input.Rebind index) is = tt
    came_here l input.Stop is = tt
    came_here l input.Quiet is = tt
    came_here l input.End is = tt

    turn_lived : Lived start (CameIn mets) (iface mets).dhcp4 → Lived start Came (iface (met ∷ mets)).dhcp4
    turn_lived before =
        let told : at ≡ moment_of at = told_at at early in
        let failed : Lived start Came g.dhcp4 =
        undone start Came at salt told met.turn.unsent (iface mets) (later met mets (iface mets).dhcp4 before) in
        let tick : Lived start Came g1.dhcp4 = all_tick start Came at salt told g failed in
        input_lived start Came at salt told own met.turn.bytes met.turn.event g1 tick (came_here tick met.turn.event refl)

  lives : (mets : List Met) → AreMoments opening mets → Lived start (CameIn mets) (iface mets).dhcp4
  lives [] early =
      opens_lived start (CameIn []) opening.at opening.salt (told_at opening.at early) (is_up opening.up beginning.managed.spec.index.number)
      (resting beginning) (record { events = []; is = refl; known = tt })
  lives (met ∷ mets) early = turn_lived met mets early.0 (lives mets early.1)

  -- ---- the client's own law

  heard_early : (mets : List Met) (arrival : Arrival) (events : List Event4) → CameIn mets arrival events → arrival.at < 10 ^ 15
  heard_early [] arrival events came = absurd came
  heard_early (met ∷ mets) arrival events (inl h) = subst (λ (a : Arrival). a.at < 10 ^ 15) (sym h.arrival_is) h.early
  heard_early (met ∷ mets) arrival events (inr since) = heard_early mets arrival events since.1

  timely : (mets : List Met) (events : List Event4) → Always (Known (CameIn mets)) events → AllByRecursion IsTimely events
  timely mets [] all = tt
  timely mets (Heard arrival seed ∷ earlier) all = (heard_early mets arrival earlier all.0, timely mets earlier all.1)
  timely mets (Tick now seed ∷ earlier) all = (tt, timely mets earlier all.1)
  timely mets (HeardArp macs arp now seed ∷ earlier) all = (tt, timely mets earlier all.1)
  timely mets (Unsent now seed ∷ earlier) all = (tt, timely mets earlier all.1)
  timely mets (Carries carrier now seed ∷ earlier) all = (tt, timely mets earlier all.1)
  timely mets (Release tell now seed ∷ earlier) all = (tt, timely mets earlier all.1)
  timely mets (Rebind now seed ∷ earlier) all = (tt, timely mets earlier all.1)

  made_sound : FitsBeginning beginning → IsSound start
  made_sound fits = record {
    name = fits.managed.name;
    ask = ask_fits beginning.duid beginning.managed fits.duid fits.managed;
    state = tt;
    kept = fits.kept4;
    held = tt;
    fresh = record { each = tt; rising = tt };
  }

  abbrev GrantedIn : LeaseContent → List Met → Type 0
  GrantedIn lease mets = Since (λ met earlier. Unit {0}) (λ met earlier. IsGrantedIn4 life lease met (iface earlier)) mets

  in_turn : (lease : LeaseContent) (arrival : Arrival) (events : List Event4) → answer_to arrival (client_after start events) ≡ Ack (terms_of lease)
      → lease.origin ≡ Some (origin_at life arrival.at) → (mets : List Met) → CameIn mets arrival events → GrantedIn lease mets
  in_turn lease arrival events grants origin [] came = absurd came
  in_turn lease arrival events grants origin (met ∷ mets) (inl h) = inl (record {
    heard = h.heard;
    came = h.came;
    grants =
        subst (λ (a : Arrival). answer_to a (client4_at met (iface mets)) ≡ Ack (terms_of lease)) h.arrival_is
        (subst (λ (c : ClientContent). answer_to arrival c ≡ Ack (terms_of lease)) (sym h.client_is) grants);
    origin = origin ∙ ap (λ (a : Arrival). Some (origin_at life a.at)) h.arrival_is;
  })
  in_turn lease arrival events grants origin (met ∷ mets) (inr since) = inr (tt, in_turn lease arrival events grants origin mets since.1)

  confirmed : (lease : LeaseContent) (mets : List Met) (event : Event4) (earlier : List Event4) → Known (CameIn mets) event earlier
      → Confirms start lease event earlier → GrantedIn lease mets
  confirmed lease mets event earlier known c =
      in_turn lease c.arrival earlier
      (subst (λ (ev : Event4). answer_in ev (client_after start earlier) ≡ Ack (terms_of lease)) c.heard c.granted) c.origin mets
      (subst (λ (ev : Event4). Known (CameIn mets) ev earlier) c.heard known)

  from_events : (lease : LeaseContent) (mets : List Met) (events : List Event4) → Always (Known (CameIn mets)) events
      → Since (λ event earlier. Unit {0}) (Confirms start lease) events → GrantedIn lease mets
  from_events lease mets [] all since = absurd since
  from_events lease mets (event ∷ earlier) all (inl c) = confirmed lease mets event earlier all.0 c
  from_events lease mets (event ∷ earlier) all (inr since) = from_events lease mets earlier all.1 since.1

  kept_lived : (lease : LeaseContent) (mets : List Met) → FitsBeginning beginning → Lived start (CameIn mets) (iface mets).dhcp4
      → (iface mets).dhcp4.kept ≡ Some lease → (beginning.kept4 ≡ Some lease) ⊎ GrantedIn lease mets
  kept_lived lease mets fits l kept =
      by (keeps_origins start l.events lease refl (made_sound fits) (timely mets l.events l.known)
      (ap (λ (c : ClientContent). c.kept) (sym l.is) ∙ kept))
    where
      by : (start.kept ≡ Some lease) ⊎ Since (λ event earlier. Unit {0}) (Confirms start lease) l.events
          → (beginning.kept4 ≡ Some lease) ⊎ GrantedIn lease mets
      by (inl was) = inl was
      by (inr since) = inr (from_events lease mets l.events l.known since)

  pub kept_or_granted4 : (mets : List Met) (lease : LeaseContent) → FitsBeginning beginning → AreMoments opening mets
      → (iface mets).dhcp4.kept ≡ Some lease → (beginning.kept4 ≡ Some lease) ⊎ GrantedIn lease mets
  kept_or_granted4 mets lease fits early kept = kept_lived lease mets fits (lives mets early) kept

pub kept_leases4_tell_origins : KeptLeasesTellOrigins4
kept_leases4_tell_origins own beginning opening mets lease fits early kept = kept_or_granted4 own beginning opening mets lease fits early kept
