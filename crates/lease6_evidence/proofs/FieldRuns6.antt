-- Over each call the numbers of a client stay in range, and what it says is.
use Rattle.std.proofs.Common.{◌≡◌, ℕ, ◌≤◌, ◌⊎◌, inl, inr, Bool, true, false, not, ◌&&◌, List, [], ◌∷◌, length, Option, Some, None, IfSome, ap, bytes_eq, is_some, refl, eqb}
use Rattle.std.proofs.lemmas.Bool.{and_parts}
use Rattle.std.specs.List.{AllByRecursion}
use Rattle.std.specs.Option.{option_and_then}
use Rattle.std.specs.Prelude.{filter, if◌then◌else◌, option_map}
use Rattle.machine.specs.Moment.{is_due}
use Rattle.net_types.proofs.AllLaws.{all_join, all_map}
use Rattle.net_types.proofs.CaseLaws.{gated}
use Rattle.net_types.specs.Marks.{AreBytes}
use Rattle.net_types.specs.declared.address.Ip6.{Ip6}
use Rattle.v4_frames.specs.InRange.{FitsMac}
use Rattle.v6_options.specs.declared.ia.ItemSaid.{ItemSaid}
use Rattle.v6_options.specs.Duids.{duid_in}
use Rattle.v6_options.specs.Ias.{ias_in}
use Rattle.v6_message.specs.ReadBack.{FitsNet}
use Rattle.v6_message.specs.declared.kind.ServerKind6.{ServerKind6}
use Rattle.v6_message.specs.declared.kind.ServerKind6.TheVariants.{Advertise, Reply}
use Rattle.v6_message.specs.Replies.{Content6}
use Rattle.lease6_text.specs.declared.lease.Item6.{Item6}
use Rattle.lease6_text.specs.Bounds.{FitsIa, FitsLease6}
use Rattle.lease6_text.specs.Leases.{IaLeaseContent, Lease6Content}
use Rattle.lease6_text.proofs.Apart.{Apart, apart_from}
use Rattle.v6_client.specs.V6Items.declared.asks.IaAsk.{IaAsk}
use Rattle.v6_client.specs.declared.states.Answer6.{Answer6}
use Rattle.v6_client.specs.declared.states.Carrier6.{Carrier6}
use Rattle.v6_client.specs.declared.states.Carrier6.TheVariants.{Up, Down}
use Rattle.v6_client.specs.V6Items.declared.scope.Cause6.{Cause6}
use Rattle.v6_client.specs.V6Items.declared.scope.Cause6.TheVariants.{Lapse, Duplicate}
use Rattle.v6_client.specs.V6Items.declared.scope.Parting6.{Parting6}
use Rattle.v6_client.specs.V6Items.declared.scope.Scope6.{Scope6}
use Rattle.v6_client.specs.declared.states.State6.{State6}
use Rattle.v6_client.specs.declared.states.Step6.{Step6}
use Rattle.v6_client.specs.declared.states.Tell6.{Tell6}
use Rattle.v6_client.specs.declared.turn.Turn6.{Turn6}
use Rattle.v6_client.specs.Answers.{advertise_answer, awaited, chosen, counts, granted, has_bytes, is_awaited, is_duid, is_from, is_taken, meeting_of, plea_offered, reply_answer, server_of, sol_max_with}
use Rattle.v6_client.specs.Calls.{answer_in, dates_in, due_of, fresh_in, parting_begun, stands_at}
use Rattle.v6_client.specs.Clients.{ClientContent, PleaContent, holds, is_at_end, is_declining, is_restarting, met_scope}
use Rattle.v6_client.specs.Hearing.{heard_row, is_kept_offer}
use Rattle.v6_client.specs.Inputs.{begin_row, duplicate_row}
use Rattle.v6_client.specs.V6Items.Items.{asked_at, ia_with, ias_of, is_nonempty, pruned_ia, pruned_ias, stays_in, staying, without}
use Rattle.v6_client.specs.Moves.{kept_left, parting_at, plea_by, plea_lapsed, plea_with, thinned_lease}
use Rattle.v6_client.specs.V6Items.Reading.{ia_for, is_unbound, saids_of}
use Rattle.v6_client.specs.Saying.{lease_server, plea_server}
use Rattle.v6_client.specs.Runs.{Turned6, answered, carrier_turned, contested_turned, hears_turned, rebind_turned, release_turned, rested, stepped, tick_turned}
use Rattle.v6_client.specs.V6Items.Taking.{carried, ia_granted, ias_granted, is_carried, item_from, taken_by}
use Rattle.v6_client.specs.Ticks.{tick_row}
use Rattle.v6_client.proofs.V6Items.TakenFits.{had_fit}
use Rattle.lease_evidence.specs.ClientModel.ClientSettings6.{site6_of}
use Rattle.lease_evidence.specs.EvidenceWords.Inputs.{Site}
use Rattle.lease6_evidence.specs.Replies6.{asks_at}
use Rattle.lease6_evidence.proofs.Basis6.{filter_all, with_some, without_all}
use Rattle.lease6_evidence.proofs.ExchangeStates.{client_with, pruned_kept}
use Rattle.lease6_evidence.proofs.FieldCalls6.{FitsState6, FitsStep6, begin_fits, duplicate_fits, heard_fits, holding_fits, kept_stays_fit, off_fits, plea_stays, plea_stays_asked, rebind_fits, release_fits, say_fits, state_now, state_stays, step_now, tick_fits}
use Rattle.lease6_evidence.proofs.Fields6.{FitsAsk6, FitsKept, FitsNets, FitsPlea, all_lapsed, all_offered, asked_plea, duid_short, nets_at, nets_heard}
use Rattle.lease6_evidence.proofs.Granted6.{filter_apart}
use Rattle.lease6_evidence.proofs.OwnSaid6.{IsAsked, lapsed_asked, offered_asked, pleaded_asked}
use Rattle.lease6_evidence.proofs.Spoken6.{FitsOwn}
use Rattle.lease6_evidence.proofs.Steps6.{message_in}
use Rattle.lease6_evidence.proofs.Turns6.{Call6, Begins, Contests, Drops, Hears, Ignores, Rebinds, Releases, Rests, run6}
use Rattle.lease6_evidence.proofs.TakenItems6.{Tidy, Unnamed, UnlikeNets, takes_all}

pub record Fields6 (c : ClientContent) : Type 0 where
  pub state : FitsState6 (is_some c.plea ≡ true) c.state
  pub plea : IfSome c.plea FitsPlea
  pub asked : IfSome c.plea (IsAsked c.settings.asks)
  pub kept : IfSome c.kept FitsKept

-- ---- leases without items

filtered_nets : (cause : Cause6) (ia : IaLeaseContent) → FitsNets ia
    → FitsNets (record { kind = ia.kind; iaid = ia.iaid; items = staying cause ia.kind ia.items })
filtered_nets cause ia nets = filter_all (λ item. FitsNet ia.kind item.net) (stays_in cause ia.kind) ia.items nets

without_nets : (cause : Cause6) (ias : List IaLeaseContent) → AllByRecursion FitsNets ias
    → AllByRecursion FitsNets (without cause ias)
without_nets cause ias nets =
    without_all cause FitsNets (with_some FitsNets) ias
    (all_map FitsNets (λ ia. FitsNets (record { kind = ia.kind; iaid = ia.iaid; items = staying cause ia.kind ia.items }))
    (filtered_nets cause) ias nets)

thin_fits : (cause : Cause6) (kept : Option Lease6Content) → IfSome kept FitsKept
    → IfSome (option_map (thinned_lease cause) kept) FitsKept
thin_fits cause None fits = tt
thin_fits cause (Some lease) fits = record { server = fits.server; nets = without_nets cause lease.ias fits.nets }

left_fits : (cause : Cause6) (parting : Parting6) (kept : Option Lease6Content) → IfSome kept FitsKept
    → IfSome (kept_left cause parting kept) FitsKept
left_fits cause parting kept fits =
    gated (λ (k : Option Lease6Content). IfSome k FitsKept) parting.stays _ _ (thin_fits cause kept fits) fits

-- ---- the items that are asked for again

one_pruned : (ask : IaAsk) (items : List Item6) → AllByRecursion (λ item. FitsNet ask.kind item.net) items
    → AllByRecursion FitsNets (ia_with ask.kind ask.iaid items)
one_pruned ask [] all = tt
one_pruned ask (item ∷ items) all = (all, tt)

pruned_nets : (at : ℕ) (ias : List IaLeaseContent) (asks : List IaAsk) → AllByRecursion FitsNets ias
    → AllByRecursion FitsNets (pruned_ias at ias asks)
pruned_nets at ias [] nets = tt
pruned_nets at ias (ask ∷ asks) nets =
    all_join FitsNets (pruned_ia at ias ask) (pruned_ias at ias asks)
    (one_pruned ask _ (filter_all (λ item. FitsNet ask.kind item.net) (stays_in (Lapse at) ask.kind) (asked_at ask ias)
    (nets_at ask.kind ask.iaid ias nets))) (pruned_nets at ias asks nets)

pruned_fits : (at : ℕ) (asks : List IaAsk) (kept : Option Lease6Content) → IfSome kept FitsKept
    → IfSome (pruned_kept at asks kept) FitsKept
pruned_fits at asks None fits = tt
pruned_fits at asks (Some lease) fits = record { server = fits.server; nets = pruned_nets at lease.ias asks fits.nets }

plea_lapses : (at : ℕ) (ias : List IaLeaseContent) (plea : Option PleaContent) → IfSome plea FitsPlea
    → IfSome (option_map (plea_lapsed at ias) plea) FitsPlea
plea_lapses at ias None fits = tt
plea_lapses at ias (Some plea) fits = record { server = fits.server; ias = all_lapsed at ias plea.ias fits.ias }

-- a choice, with what its test says
either_way : {A : Type 0} (P : A → Type 0) (b : Bool) (x y : A) → (b ≡ true → P x) → (b ≡ false → P y) → P (if b then x else y)
either_way P true x y p q = p refl
either_way P false x y p q = q refl

-- a message that counts is of a server
named_by : (named server : Option (List ℕ)) → is_from named server ≡ true → is_some (option_and_then duid_in server) ≡ true
named_by named None h = h
named_by None (Some server) h = ap (λ b. is_some (if b then Some server else None)) h
named_by (Some other) (Some server) h =
    ap (λ b. is_some (if b then Some server else None)) (and_parts (is_duid server) (bytes_eq server other) h).0

names_server : (c : ClientContent) (message : Content6) → counts c message ≡ true → is_some (server_of message) ≡ true
names_server c message h =
    let named : Option (List ℕ) = chosen c.state (lease_server c.kept) (plea_server c.plea) in
    named_by named message.server
    (and_parts (is_awaited (awaited c.last c.state) message.xid && has_bytes message.client c.settings.duid) (is_from named message.server) h).1

-- a Reply offers nothing
no_offer : (declining taken : Bool) (kept fresh : Option Lease6Content) (state : State6)
    → is_kept_offer (reply_answer declining taken kept fresh) state ≡ true → ⊥
no_offer true taken None fresh state h = absurd cc
no_offer true taken (Some lease) fresh state h = absurd cc
no_offer false true kept None state h = absurd cc
no_offer false true kept (Some lease) state h = absurd cc
no_offer false false kept fresh state h = absurd cc

-- what a client has then is in range, and so is what it says
pub record Result6 (site : Site) (turned : Turned6) : Type 0 where
  pub client : Fields6 turned.client
  pub says : IfSome (message_in site.managed.spec.mac site.duid turned.out) (FitsOwn site)

module _ (site : Site) (mac : FitsMac site.managed.spec.mac) (duid : length site.duid ≤ 130)
    (asks : AllByRecursion FitsAsk6 (asks_at site)) (unspent : Bool) (last : Option ℕ) (sol_max at salt : ℕ) where
  abbrev here : State6 → Option Lease6Content → Option PleaContent → ClientContent
  here state kept plea = client_with site unspent last sol_max state kept plea

  abbrev turn : Turn6
  turn = record { site = site6_of site.managed; last = last; sol_max = sol_max; at = at; salt = salt }

  step_fields : (step : Step6) (fresh : Option Lease6Content) (state : State6) (kept : Option Lease6Content)
      (plea : Option PleaContent) → FitsStep6 (is_some plea ≡ true) step
      → IfSome fresh FitsKept → IfSome kept FitsKept → IfSome plea FitsPlea → IfSome plea (IsAsked (asks_at site))
      → Result6 site (stepped step fresh (here state kept plea))
  step_fields step fresh state kept plea fits new old stood asked = record {
    client = record {
      state = state_stays step.state plea fits.state;
      plea = plea_stays step.state plea stood;
      asked = plea_stays_asked (asks_at site) step.state plea asked;
      kept = kept_stays_fit step.keep fresh kept
          new old;
    };
    says = say_fits site mac duid asks _ kept plea step.say old stood asked fits.say;
  }

  rested_fields : (state : State6) (kept : Option Lease6Content) (plea : Option PleaContent) → Fields6 (here state kept plea)
      → Result6 site (rested (here state kept plea))
  rested_fields state kept plea f = record { client = f; says = tt }

  some_lapsed : (ias : List IaLeaseContent) (plea : Option PleaContent) → is_some plea ≡ true
      → is_some (option_map (plea_lapsed at ias) plea) ≡ true
  some_lapsed ias None h = h
  some_lapsed ias (Some plea) h = refl

  pub tick_fields : (state : State6) (kept : Option Lease6Content) (plea : Option PleaContent) → Fields6 (here state kept plea)
      → Result6 site (tick_turned at salt (here state kept plea))
  unfolding tick_turned
  tick_fields state kept plea f =
      let c : ClientContent = here state kept plea in
      let parting : Parting6 = parting_at (Lapse at) c in
      let step : Step6 = tick_row turn (dates_in c) parting state in
      let fits : FitsStep6 (is_some plea ≡ true) step = tick_fits (is_some plea ≡ true) turn (dates_in c) parting state f.state in
      gated (Result6 site) (is_due (due_of c) at) _ _
      (gated (λ (before : ClientContent). Result6 site (stepped step None before))
      (holds state && parting.goes && not (is_at_end at state)) _ _
      (step_fields step None state _ _
      (step_now (is_some plea ≡ true) (is_some (option_map (plea_lapsed at (ias_of kept)) plea) ≡ true) (some_lapsed (ias_of kept) plea) step fits) tt
      (left_fits (Lapse at) parting kept f.kept) (plea_lapses at (ias_of kept) plea f.plea) (lapsed_asked at (ias_of kept) (asks_at site) plea f.asked))
      (step_fields step None state kept plea fits tt f.kept f.plea f.asked))
      (rested_fields state kept plea f)

  carrier_fields : (carrier : Carrier6) (state : State6) (kept : Option Lease6Content) (plea : Option PleaContent)
      → Fields6 (here state kept plea)
      → Result6 site (carrier_turned carrier at salt (here state kept plea))
  unfolding carrier_turned
  carrier_fields Up state kept plea f =
      let c : ClientContent = here state kept plea in
      let stands : Bool = stands_at at c in
      let step : Step6 = begin_row turn stands (parting_begun at c) state in
      let fits : FitsStep6 (is_some plea ≡ true) step = begin_fits (is_some plea ≡ true) turn stands (parting_begun at c) state f.state in
      gated (λ (before : ClientContent). Result6 site (stepped step None before)) stands _ _
      (step_fields step None state (pruned_kept at c.settings.asks kept) plea fits tt (pruned_fits at c.settings.asks kept f.kept) f.plea f.asked)
      (step_fields step None state kept plea fits tt f.kept f.plea f.asked)
  carrier_fields Down state kept plea f = step_fields _ None state kept plea (off_fits (is_some plea ≡ true) turn) tt f.kept f.plea f.asked

  release_fields : (tell : Tell6) (state : State6) (kept : Option Lease6Content) (plea : Option PleaContent)
      → Fields6 (here state kept plea)
      → Result6 site (release_turned tell at salt (here state kept plea))
  unfolding release_turned
  release_fields tell state kept plea f =
      step_fields _ None state kept plea (release_fits (is_some plea ≡ true) turn tell (is_some kept) state) tt f.kept f.plea f.asked

  rebind_fields : (state : State6) (kept : Option Lease6Content) (plea : Option PleaContent) → Fields6 (here state kept plea)
      → Result6 site (rebind_turned at salt (here state kept plea))
  unfolding rebind_turned
  rebind_fields state kept plea f =
      step_fields _ None state kept plea (rebind_fits (is_some plea ≡ true) turn (parting_begun at (here state kept plea)) state f.state) tt
      f.kept f.plea f.asked

  pleaded : (kept : Option Lease6Content) → IfSome kept FitsKept → IfSome (option_map (plea_by (asks_at site)) kept) FitsPlea
  pleaded None fits = tt
  pleaded (Some lease) fits = record { server = fits.server; ias = asked_plea (asks_at site) asks lease fits }

  contested_fields : (address : Ip6) (state : State6) (kept : Option Lease6Content) (plea : Option PleaContent)
      → Fields6 (here state kept plea)
      → Result6 site (contested_turned address at salt (here state kept plea))
  unfolding contested_turned
  contested_fields address state kept plea f =
      let parting : Parting6 = parting_at (Duplicate address) (here state kept plea) in
      let step : Step6 = duplicate_row turn parting state in
      let fits : FitsStep6 (is_some plea ≡ true) step = duplicate_fits (is_some plea ≡ true) turn parting state f.state in
      either_way (λ (before : ClientContent). Result6 site (stepped step None before)) (holds state && parting.goes) _ _
      (λ held. gated (λ (before : ClientContent). Result6 site (stepped step None before)) (is_restarting state) _ _
      (step_fields step None state _ plea fits tt (left_fits (Duplicate address) parting kept f.kept) f.plea f.asked)
      (step_fields step None state _ (plea_with (is_declining state) (asks_at site) kept plea)
      (duplicate_fits (is_some (plea_with (is_declining state) (asks_at site) kept plea) ≡ true) turn parting state
      (holding_fits (is_some plea ≡ true) (is_some (plea_with (is_declining state) (asks_at site) kept plea) ≡ true) state
      (and_parts (holds state) parting.goes held).0 f.state)) tt
      (thin_fits (Duplicate address) kept f.kept)
      (gated (λ (p : Option PleaContent). IfSome p FitsPlea) (is_declining state) _ _ f.plea (pleaded kept f.kept))
      (gated (λ (p : Option PleaContent). IfSome p (IsAsked (asks_at site))) (is_declining state) _ _ f.asked (pleaded_asked (asks_at site) kept))))
      (λ other. step_fields step None state kept plea fits tt f.kept f.plea f.asked)

  -- ---- messages

  module _ (message : Content6) (octets : AreBytes message.options) where
    server_fits : IfSome (server_of message) (λ server. length server ≤ 130)
    server_fits = by_server message.server
      where
        by_server : (server : Option (List ℕ)) → IfSome (option_and_then duid_in server) (λ s. length s ≤ 130)
        by_server None = tt
        by_server (Some bytes) = duid_short bytes

    offers_plea : (server : Option (List ℕ)) → IfSome server (λ s. length s ≤ 130)
        → IfSome (option_map (plea_offered (asks_at site) message) server) FitsPlea
    offers_plea None short = tt
    offers_plea (Some server) short = record { server = short; ias = all_offered message.options octets (asks_at site) asks }

    offers_asked : (server : Option (List ℕ)) → IfSome (option_map (plea_offered (asks_at site) message) server) (IsAsked (asks_at site))
    offers_asked None = tt
    offers_asked (Some server) = offered_asked (ias_in message.options) (asks_at site)

    offers_some : (server : Option (List ℕ)) → is_some server ≡ true → is_some (option_map (plea_offered (asks_at site) message) server) ≡ true
    offers_some None h = h
    offers_some (Some server) h = refl

    advertise_fields : is_some (server_of message) ≡ true → (state : State6) (kept : Option Lease6Content) (plea : Option PleaContent)
        → Fields6 (here state kept plea)
        → Result6 site (answered at salt message Advertise (here state kept plea))
    advertise_fields named state kept plea f =
        let told : Answer6 = advertise_answer (here state kept plea) message in
        let step : Step6 = heard_row turn told state in
        let offer : Option PleaContent = option_map (plea_offered (asks_at site) message) (server_of message) in
        either_way (λ (before : ClientContent). Result6 site (stepped step None before)) (is_kept_offer told state) _ _
        (λ keeps. step_fields step None state kept offer
        (heard_fits (is_some offer ≡ true) turn told state (λ taken. offers_some (server_of message) named)
        (state_now (is_some plea ≡ true) (is_some offer ≡ true) (λ had. offers_some (server_of message) named) state f.state)) tt f.kept
        (offers_plea (server_of message) server_fits) (offers_asked (server_of message)))
        (λ leaves. step_fields step None state kept plea (heard_fits (is_some plea ≡ true) turn told state (λ taken. absurd (unlike taken leaves)) f.state) tt
        f.kept f.plea f.asked)
      where
        unlike : {b : Bool} → b ≡ true → b ≡ false → ⊥
        unlike h k = cc

    -- the items of a lease that it grants
    module _ (ask : IaAsk) where
      abbrev NetFits : Item6 → Type 0
      NetFits item = FitsNet ask.kind item.net

      brings_nets : AllByRecursion (λ said. eqb said.valid 0 ≡ false → NetFits (item_from at said))
          (saids_of (ia_for ask (ias_in message.options)))
      brings_nets =
          all_map (λ said. FitsNet ask.kind said.net) (λ said. eqb said.valid 0 ≡ false → NetFits (item_from at said))
          (λ said fits some. fits)
          (saids_of (ia_for ask (ias_in message.options))) (nets_heard message.options octets ask)

      was_there : (items : List Item6) → AllByRecursion NetFits items → AllByRecursion (λ item. NetFits item ⊎ NetFits item)
          items
      was_there items all = all_map NetFits (λ item. NetFits item ⊎ NetFits item) (λ item fits. inr fits) items all

      carried_nets : (s : Scope6) (lost : Bool) (items : List Item6) → Apart UnlikeNets items → AllByRecursion NetFits items
          → Tidy at NetFits NetFits (carried s lost (saids_of (ia_for ask (ias_in message.options))) items)
      carried_nets s true items apart all = record { apart = tt; each = tt }
      carried_nets s false items apart all =
          let test : Item6 → Bool = is_carried s (saids_of (ia_for ask (ias_in message.options))) in
          record {
            apart = filter_apart test items apart;
            each = was_there (filter test items)
                (filter_all NetFits test items all);
          }

      either_fits : (saids : List ItemSaid) (item : Item6) → (NetFits item ⊎ (NetFits item × Unnamed at NetFits saids item))
          → NetFits item
      either_fits saids item (inl fits) = fits
      either_fits saids item (inr old) = old.0

      taken_nets : (s : Scope6) (kept : Option Lease6Content) → Apart UnlikeNets (asked_at ask (ias_of kept))
          → AllByRecursion NetFits (asked_at ask (ias_of kept))
          → AllByRecursion NetFits (taken_by (record { at = at; scope = s; kept = kept; ias = ias_in message.options })
          ask).items
      taken_nets s kept apart all =
          all_map (λ item. NetFits item ⊎ (NetFits item × Unnamed at NetFits (saids_of (ia_for ask (ias_in message.options)))
          item)) NetFits
          (either_fits (saids_of (ia_for ask (ias_in message.options)))) _
          (takes_all at NetFits NetFits (saids_of (ia_for ask (ias_in message.options)))
          (record {
            items = carried s (is_unbound (ia_for ask (ias_in message.options)))
                (saids_of (ia_for ask (ias_in message.options))) (asked_at ask (ias_of kept));
            shortest = None;
          })
          brings_nets (carried_nets s (is_unbound (ia_for ask (ias_in message.options))) (asked_at ask (ias_of kept)) apart
          all)).each

    with_nets : (ask : IaAsk) (items : List Item6) → AllByRecursion (λ item. FitsNet ask.kind item.net) items
        → AllByRecursion FitsNets (ia_with ask.kind ask.iaid items)
    with_nets ask [] all = tt
    with_nets ask (item ∷ items) all = (all, tt)

    granted_nets : (s : Scope6) (kept : Option Lease6Content) → AllByRecursion FitsIa (ias_of kept)
        → AllByRecursion FitsNets (ias_of kept) → (asked : List IaAsk)
        → AllByRecursion FitsNets (ias_granted (record { at = at; scope = s; kept = kept; ias = ias_in message.options }) asked)
    granted_nets s kept fits nets [] = tt
    granted_nets s kept fits nets (ask ∷ asked) =
        all_join FitsNets (ia_granted (record { at = at; scope = s; kept = kept; ias = ias_in message.options }) ask) _
        (with_nets ask _
        (taken_nets ask s kept (apart_from UnlikeNets (asked_at ask (ias_of kept))
        (had_fit ask.kind ask.iaid (ias_of kept) fits).unlike)
        (nets_at ask.kind ask.iaid (ias_of kept) nets))) (granted_nets s kept fits nets asked)

    kept_parts : (kept : Option Lease6Content) → IfSome kept FitsLease6 → AllByRecursion FitsIa (ias_of kept)
    kept_parts None fits = tt
    kept_parts (Some lease) fits = fits.ias.each

    kept_nets : (kept : Option Lease6Content) → IfSome kept FitsKept → AllByRecursion FitsNets (ias_of kept)
    kept_nets None fits = tt
    kept_nets (Some lease) fits = fits.nets

    from_server : (state : State6) (kept : Option Lease6Content) (plea : Option PleaContent) (server : Option (List ℕ))
        → IfSome server (λ s. length s ≤ 130)
        → AllByRecursion FitsNets (ias_granted (meeting_of at (here state kept plea) message) (asks_at site))
        → IfSome (option_and_then (granted at (here state kept plea) message) server) FitsKept
    from_server state kept plea None short nets = tt
    from_server state kept plea (Some server) short nets =
        gated (λ (lease : Option Lease6Content). IfSome lease FitsKept)
        (is_nonempty (ias_granted (meeting_of at (here state kept plea) message) (asks_at site))) _ _
        (record { server = short; nets = nets }) tt

    fresh_fits : (state : State6) (kept : Option Lease6Content) (plea : Option PleaContent) → IfSome kept FitsLease6
        → IfSome kept FitsKept
        → IfSome (fresh_in at (here state kept plea) message) FitsKept
    fresh_fits state kept plea within fits =
        gated (λ (lease : Option Lease6Content). IfSome lease FitsKept) (is_taken (here state kept plea) message) _ _
        (from_server state kept plea (server_of message) server_fits
        (granted_nets (met_scope state) kept (kept_parts kept within) (kept_nets kept fits) (asks_at site))) tt

    reply_fields : (state : State6) (kept : Option Lease6Content) (plea : Option PleaContent) → IfSome kept FitsLease6
        → Fields6 (here state kept plea)
        → Result6 site (answered at salt message Reply (here state kept plea))
    reply_fields state kept plea within f =
        step_fields _ (fresh_in at (here state kept plea) message) state kept plea
        (heard_fits (is_some plea ≡ true) turn (answer_in at (here state kept plea) message) state
        (λ offered. absurd (no_offer (is_declining state) (is_taken (here state kept plea) message) kept
        (fresh_in at (here state kept plea) message) state offered))
        f.state)
        (fresh_fits state kept plea within f.kept) f.kept f.plea f.asked

    kind_fields : is_some (server_of message) ≡ true → (kind : ServerKind6) (state : State6) (kept : Option Lease6Content) (plea : Option PleaContent)
        → IfSome kept FitsLease6 → Fields6 (here state kept plea)
        → Result6 site (answered at salt message kind (here state kept plea))
    kind_fields named Advertise state kept plea within f = advertise_fields named state kept plea f
    kind_fields named Reply state kept plea within f = reply_fields state kept plea within f

-- ---- any call

-- what a message brings is made of bytes
abbrev pub BytesFor : Call6 → Type 0
BytesFor (Hears message) = AreBytes message.options
BytesFor _ = Unit {0}

module _ (site : Site) (mac : FitsMac site.managed.spec.mac) (duid : length site.duid ≤ 130)
    (asks : AllByRecursion FitsAsk6 (asks_at site)) (unspent : Bool) (last : Option ℕ) (sol_max at salt : ℕ) where
  hears_fields : (message : Content6) → AreBytes message.options → (state : State6) (kept : Option Lease6Content)
      (plea : Option PleaContent) → IfSome kept FitsLease6
      → Fields6 (client_with site unspent last sol_max state kept plea)
      → Result6 site (hears_turned at salt message (client_with site unspent last sol_max state kept plea))
  unfolding hears_turned
  hears_fields message octets state kept plea within f =
      let c : ClientContent = client_with site unspent last sol_max state kept plea in
      either_way (Result6 site) (counts c message) _ _
      (λ counted. kind_fields site mac duid asks unspent last (sol_max_with message.sol_max sol_max) at salt message octets
      (names_server c message counted) message.kind state kept plea within
      (record { state = f.state; plea = f.plea; asked = f.asked; kept = f.kept }))
      (λ other. rested_fields site mac duid asks unspent last sol_max at salt state kept plea f)

  pub run_fields : (call : Call6) → BytesFor call → (state : State6) (kept : Option Lease6Content) (plea : Option PleaContent)
      → IfSome kept FitsLease6
      → Fields6 (client_with site unspent last sol_max state kept plea)
      → Result6 site (run6 call at salt (client_with site unspent last sol_max state kept plea))
  run_fields Ignores octets state kept plea within f = rested_fields site mac duid asks unspent last sol_max at salt state kept plea f
  run_fields Rests octets state kept plea within f = rested_fields site mac duid asks unspent last sol_max at salt state kept plea f
  run_fields (Hears message) octets state kept plea within f = hears_fields message octets state kept plea within f
  run_fields Begins octets state kept plea within f = carrier_fields site mac duid asks unspent last sol_max at salt Up state kept plea
      f
  run_fields Drops octets state kept plea within f = carrier_fields site mac duid asks unspent last sol_max at salt Down state kept
      plea f
  run_fields (Contests address) octets state kept plea within f = contested_fields site mac duid asks unspent last sol_max at salt
      address state kept plea f
  run_fields (Releases tell) octets state kept plea within f = release_fields site mac duid asks unspent last sol_max at salt tell
      state kept plea f
  run_fields Rebinds octets state kept plea within f = rebind_fields site mac duid asks unspent last sol_max at salt state kept plea f
