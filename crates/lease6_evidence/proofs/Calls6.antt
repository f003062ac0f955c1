-- Each call of a client keeps what it carries of the exchanges shown.
use Rattle.std.proofs.Common.{◌≡◌, ℕ, Bool, true, false, not, ◌&&◌, List, ◌∷◌, Option, Some, None, refl, sym, ap, subst, is_some}
use Rattle.std.specs.Prelude.{option_map}
use Rattle.machine.specs.Moment.{is_due}
use Rattle.net_types.proofs.CaseLaws.{gated}
use Rattle.net_types.specs.declared.address.Ip6.{Ip6}
use Rattle.v6_message.specs.declared.kind.ServerKind6.{ServerKind6}
use Rattle.v6_message.specs.declared.kind.ServerKind6.TheVariants.{Advertise, Reply}
use Rattle.v6_message.specs.Replies.{Content6}
use Rattle.v6_retrans.specs.declared.parameters.TheConstants.{DECLINE}
use Rattle.lease6_text.specs.Leases.{IaLeaseContent, Lease6Content}
use Rattle.v6_client.specs.declared.exchange.Exchange6.{Exchange6}
use Rattle.v6_client.specs.V6Items.declared.asks.IaAsk.{IaAsk}
use Rattle.v6_client.specs.declared.states.Carrier6.{Carrier6}
use Rattle.v6_client.specs.declared.states.Carrier6.TheVariants.{Up, Down}
use Rattle.v6_client.specs.V6Items.declared.scope.Cause6.{Cause6}
use Rattle.v6_client.specs.V6Items.declared.scope.Cause6.TheVariants.{Lapse, Duplicate}
use Rattle.v6_client.specs.V6Items.declared.scope.Dates6.{Dates6}
use Rattle.v6_client.specs.declared.states.News6.TheVariants as news
use Rattle.v6_client.specs.V6Items.declared.scope.Parting6.{Parting6}
use Rattle.v6_client.specs.declared.states.State6.{State6}
use Rattle.v6_client.specs.declared.states.State6.TheVariants.{Off, Waiting, Soliciting, Requesting, Bound, Renewing, Rebinding, Restarting, Declining}
use Rattle.v6_client.specs.declared.states.Tell6.{Tell6}
use Rattle.v6_client.specs.declared.turn.Turn6.{Turn6}
use Rattle.v6_client.specs.Answers.{advertise_answer, counts, learnt}
use Rattle.v6_client.specs.Hearing.{is_kept_offer}
use Rattle.v6_client.specs.Calls.{dates_in, due_of, parting_begun, stands_at}
use Rattle.v6_client.specs.Clients.{ClientContent, PleaContent, holds, is_at_end, is_restarting}
use Rattle.v6_client.specs.Exchanges.{begun, rand_in}
use Rattle.v6_client.specs.Inputs.{begin_row, duplicate_row}
use Rattle.v6_client.specs.V6Items.Items.{ias_of}
use Rattle.v6_client.specs.Moves.{given_up, kept_left, lapsed, parting_at, plea_after, plea_lapsed, thinned_lease}
use Rattle.v6_client.specs.Runs.{Turned6, answered, carrier_turned, contested_turned, hears_turned, rebind_turned, release_turned, rested, stepped, tick_turned}
use Rattle.v6_client.specs.Saying.{lease_server, plea_server}
use Rattle.v6_client.specs.Settings.{SettingsContent}
use Rattle.v6_client.specs.Steps.{keep_by}
use Rattle.v6_client.specs.Ticks.{tick_row}
use Rattle.lease_evidence.specs.ClientModel.ClientSettings6.{settings6_of, site6_of}
use Rattle.lease_evidence.specs.EvidenceWords.Entries.{Entry}
use Rattle.lease_evidence.specs.EvidenceWords.Inputs.{Site}
use Rattle.lease6_evidence.specs.Exchanges6.{Numbered6, Seen6, seen6_in, shows6}
use Rattle.lease6_evidence.specs.Replies6.{message6_at}
use Rattle.lease6_evidence.proofs.ExchangeStates.{Counted6, Follows6, LastXid6, On6, Watched6, client_with, pruned_kept}
use Rattle.lease6_evidence.proofs.Hearing6.{finish6, hears_final, silent_no}
use Rattle.lease6_evidence.proofs.Steps6.{message_in}
use Rattle.lease6_evidence.proofs.Watching6.{begin_after, declines_keeping, off_after, rebind_after, release_after, seen6, tick_after}

-- ---- servers stay

thin_server : (cause : Cause6) (kept : Option Lease6Content) → lease_server (option_map (thinned_lease cause) kept)
    ≡ lease_server kept
thin_server cause None = refl
thin_server cause (Some lease) = refl

left_server : (cause : Cause6) (parting : Parting6) (kept : Option Lease6Content)
    → lease_server (kept_left cause parting kept) ≡ lease_server kept
left_server cause parting kept =
    gated (λ (k : Option Lease6Content). lease_server k ≡ lease_server kept) parting.stays _ _ (thin_server cause kept) refl

pruned_server : (at : ℕ) (asks : List IaAsk) (kept : Option Lease6Content)
    → lease_server (pruned_kept at asks kept) ≡ lease_server kept
pruned_server at asks None = refl
pruned_server at asks (Some lease) = refl

lapse_server : (at : ℕ) (ias : List IaLeaseContent) (plea : Option PleaContent)
    → plea_server (option_map (plea_lapsed at ias) plea) ≡ plea_server plea
lapse_server at ias None = refl
lapse_server at ias (Some plea) = refl

-- ---- calls of a client with the interface's settings

module _ (site : Site) (past : List Entry) (count : ℕ) (current : Option Numbered6)
    (counted : Counted6 site (seen6 count current) past)
    (unspent : Bool) (last : Option ℕ) (sol_max : ℕ) (last_is : LastXid6 last current) (at salt : ℕ) where
  abbrev c : State6 → Option Lease6Content → Option PleaContent → ClientContent
  c state kept plea = client_with site unspent last sol_max state kept plea

  abbrev turn : Turn6
  turn = record { site = site6_of site.managed; last = last; sol_max = sol_max; at = at; salt = salt }

  abbrev AfterCall : Turned6 → Type 0
  AfterCall turned =
      Follows6 site turned.client.last turned.client.state (lease_server turned.client.kept) (plea_server turned.client.plea)
      (shows6 (message_in site.managed.spec.mac site.duid turned.out) (seen6 count current)) past

  abbrev OnIn : State6 → Option Lease6Content → Option PleaContent → Type 0
  OnIn state kept plea = On6 site state (lease_server kept) (plea_server plea) current past

  -- a plea that isn't needed any more
  plea_on : (state : State6) (kept : Option Lease6Content) (plea : Option PleaContent) → OnIn state kept plea
      → OnIn state kept (plea_after state plea)
  plea_on Off kept plea on = on
  plea_on (Waiting due) kept plea on = on
  plea_on (Soliciting exchange offer) kept plea on = on
  plea_on (Requesting exchange) kept plea on = on
  plea_on Bound kept plea on = on
  plea_on (Renewing exchange) kept plea on = on
  plea_on (Rebinding exchange) kept plea on = on
  plea_on (Restarting exchange end since stands) kept plea on = on
  plea_on (Declining exchange) kept plea on = on

  rests_call : (state : State6) (kept : Option Lease6Content) (plea : Option PleaContent) → OnIn state kept plea
      → AfterCall (rested (c state kept plea))
  rests_call state kept plea on = record { counted = counted; last_is = last_is; on = on }

  ticks : (dates : Dates6) (parting : Parting6) (state : State6) (kept : Option Lease6Content) (plea : Option PleaContent)
      → OnIn state kept plea
      → AfterCall (stepped (tick_row turn dates parting state) None (c state kept plea))
  ticks dates parting state kept plea on = tick_after site past count current counted kept plea turn last_is dates parting
      state on

  on_lapsed : (parting : Parting6) (state : State6) (kept : Option Lease6Content) (plea : Option PleaContent)
      → OnIn state kept plea
      → OnIn state (kept_left (Lapse at) parting kept) (option_map (plea_lapsed at (ias_of kept)) plea)
  on_lapsed parting state kept plea on =
      subst (λ (server : Option (List ℕ)). On6 site state server (plea_server (option_map (plea_lapsed at (ias_of kept)) plea))
      current past)
      (sym (left_server (Lapse at) parting kept))
      (subst (λ (server : Option (List ℕ)). On6 site state (lease_server kept) server current past)
      (sym (lapse_server at (ias_of kept) plea)) on)

  due_call : (state : State6) (kept : Option Lease6Content) (plea : Option PleaContent) → OnIn state kept plea
      → AfterCall (stepped (tick_row turn (dates_in (c state kept plea)) (parting_at (Lapse at) (c state kept plea)) state) None
      (lapsed at (parting_at (Lapse at) (c state kept plea)) (c state kept plea)))
  due_call state kept plea on =
      let parting : Parting6 = parting_at (Lapse at) (c state kept plea) in
      let dates : Dates6 = dates_in (c state kept plea) in
      gated (λ (before : ClientContent). AfterCall (stepped (tick_row turn dates parting state) None before))
      (holds state && parting.goes && not (is_at_end at state)) _ _
      (ticks dates parting state _ _ (on_lapsed parting state kept plea on)) (ticks dates parting state kept plea on)

  pub tick_call : (state : State6) (kept : Option Lease6Content) (plea : Option PleaContent) → OnIn state kept plea
      → AfterCall (tick_turned at salt (c state kept plea))
  unfolding tick_turned
  tick_call state kept plea on =
      gated AfterCall (is_due (due_of (c state kept plea)) at) _ _ (due_call state kept plea on) (rests_call state kept plea on)

  pub carrier_call : (carrier : Carrier6) (state : State6) (kept : Option Lease6Content) (plea : Option PleaContent)
      → OnIn state kept plea
      → AfterCall (carrier_turned carrier at salt (c state kept plea))
  unfolding carrier_turned
  carrier_call Up state kept plea on =
      let before : ClientContent = c state kept plea in
      let stands : Bool = stands_at at before in
      let parting : Parting6 = parting_begun at before in
      let less : Option Lease6Content = pruned_kept at before.settings.asks kept in
      gated (λ (d : ClientContent). AfterCall (stepped (begin_row turn stands parting state) None d)) stands _ _
      (begin_after site past count current counted less plea turn last_is stands parting state
      (plea_on state less plea (subst (λ (server : Option (List ℕ)). On6 site state server (plea_server plea) current past)
      (sym (pruned_server at before.settings.asks kept)) on)))
      (begin_after site past count current counted kept plea turn last_is stands parting state (plea_on state kept plea on))
  carrier_call Down state kept plea on = off_after site past count current counted kept plea turn last_is

  pub release_call : (tell : Tell6) (state : State6) (kept : Option Lease6Content) (plea : Option PleaContent)
      → AfterCall (release_turned tell at salt (c state kept plea))
  unfolding release_turned
  release_call tell state kept plea = release_after site past count current counted kept plea turn last_is tell (is_some kept)
      state

  pub rebind_call : (state : State6) (kept : Option Lease6Content) (plea : Option PleaContent) → OnIn state kept plea
      → AfterCall (rebind_turned at salt (c state kept plea))
  unfolding rebind_turned
  rebind_call state kept plea on =
      rebind_after site past count current counted kept plea turn last_is (parting_begun at (c state kept plea)) state
      (plea_on state kept plea on)

  -- ---- an address that another host uses

  abbrev parts : (goes stays : Bool) → Parting6
  parts goes stays = record { goes = goes; stays = stays }

  abbrev Contests : (address : Ip6) → (goes stays : Bool) → State6 → Option Lease6Content → Option PleaContent → Type 0
  Contests address goes stays state kept plea =
      AfterCall (stepped (duplicate_row turn (parts goes stays) state) None
      (given_up address (parts goes stays) (c state kept plea)))

  unmoved : (state : State6) (kept : Option Lease6Content) (plea : Option PleaContent) → OnIn state kept plea
      → Follows6 site last state (lease_server kept) (plea_server (plea_after state plea)) (seen6 count current) past
  unmoved state kept plea on = record { counted = counted; last_is = last_is; on = plea_on state kept plea on }

  declined : (address : Ip6) (stays : Bool) (kept : Option Lease6Content) (plea : Option PleaContent)
      → AfterCall (stepped (duplicate_row turn (parts true stays) Bound) None (c Bound kept plea))
  declined address stays kept plea =
      declines_keeping site past count current counted kept plea turn last_is (begun turn DECLINE (rand_in turn))
      (keep_by (parts true stays)) news.Changed

  -- in a restart whose items are held it isn't declined
  missed_call : (address : Ip6) (stays : Bool) (exchange : Exchange6) (end since : ℕ) (kept : Option Lease6Content)
      (plea : Option PleaContent) → OnIn (Restarting exchange end since true) kept plea
      → Contests address true stays (Restarting exchange end since true) kept plea
  missed_call address true exchange end since kept plea on = record { counted = counted; last_is = last_is; on = on }
  missed_call address false exchange end since kept plea on = record { counted = counted; last_is = last_is; on = tt }

  contests : (address : Ip6) (goes stays : Bool) (state : State6) (kept : Option Lease6Content) (plea : Option PleaContent)
      → OnIn state kept plea
      → Contests address goes stays state kept plea
  contests address goes stays Off kept plea on = unmoved Off kept plea on
  contests address goes stays (Waiting due) kept plea on = unmoved (Waiting due) kept plea on
  contests address goes stays (Soliciting exchange offer) kept plea on = unmoved (Soliciting exchange offer) kept plea on
  contests address goes stays (Requesting exchange) kept plea on = unmoved (Requesting exchange) kept plea on
  contests address true stays Bound kept plea on = declined address stays _ _
  contests address false stays Bound kept plea on = unmoved Bound kept plea on
  contests address true stays (Renewing exchange) kept plea on = declined address stays _ _
  contests address false stays (Renewing exchange) kept plea on = unmoved (Renewing exchange) kept plea on
  contests address true stays (Rebinding exchange) kept plea on = declined address stays _ _
  contests address false stays (Rebinding exchange) kept plea on = unmoved (Rebinding exchange) kept plea on
  contests address true stays (Restarting exchange end since true) kept plea on = missed_call address stays exchange end since kept plea on
  contests address false stays (Restarting exchange end since true) kept plea on =
      unmoved (Restarting exchange end since true) kept plea on
  contests address goes stays (Restarting exchange end since false) kept plea on =
      unmoved (Restarting exchange end since false) kept plea on
  contests address true stays (Declining exchange) kept plea on = declined address stays _ _
  contests address false stays (Declining exchange) kept plea on = unmoved (Declining exchange) kept plea on

  pub contested_call : (address : Ip6) (state : State6) (kept : Option Lease6Content) (plea : Option PleaContent)
      → OnIn state kept plea
      → AfterCall (contested_turned address at salt (c state kept plea))
  unfolding contested_turned
  contested_call address state kept plea on =
      let parting : Parting6 = parting_at (Duplicate address) (c state kept plea) in
      contests address parting.goes parting.stays state kept plea on

-- ---- calls of any client

-- a call keeps the settings and what is carried
abbrev pub Keeps6 : Site → List Entry → (ClientContent → Turned6) → Type 0
Keeps6 site past call = (c : ClientContent) (seen : Seen6) → Watched6 site c seen past
    → Watched6 site (call c).client (shows6 (message_in site.managed.spec.mac site.duid (call c).out) seen) past

-- a client is as its parts are
same_client : (site : Site) (c : ClientContent) → c.settings ≡ settings6_of site.duid site.managed
    → c ≡ client_with site c.fresh c.last c.sol_max c.state c.kept c.plea
same_client site c same = ap (λ (s : SettingsContent). record c { settings = s }) same

pub by_parts : (site : Site) (P : ClientContent → Type 0) (c : ClientContent) → c.settings ≡ settings6_of site.duid site.managed
    → P (client_with site c.fresh c.last c.sol_max c.state c.kept c.plea) → P c
by_parts site P c same h = subst P (sym (same_client site c same)) h

module _ (site : Site) (past : List Entry) (at salt : ℕ) where
  tick_settings : (c : ClientContent) → (tick_turned at salt c).client.settings ≡ c.settings
  unfolding tick_turned
  tick_settings c =
      gated (λ (turned : Turned6). turned.client.settings ≡ c.settings) (is_due (due_of c) at) _ _
      (gated (λ (before : ClientContent). before.settings ≡ c.settings)
      (holds c.state && (parting_at (Lapse at) c).goes && not (is_at_end at c.state)) _ _ refl refl) refl

  contested_settings : (address : Ip6) (c : ClientContent) → (contested_turned address at salt c).client.settings ≡ c.settings
  unfolding contested_turned
  contested_settings address c =
      gated (λ (before : ClientContent). before.settings ≡ c.settings)
      (holds c.state && (parting_at (Duplicate address) c).goes) _ _
      (gated (λ (before : ClientContent). before.settings ≡ c.settings) (is_restarting c.state) _ _ refl refl) refl

  carrier_settings : (carrier : Carrier6) (c : ClientContent) → (carrier_turned carrier at salt c).client.settings ≡ c.settings
  unfolding carrier_turned
  carrier_settings Up c = gated (λ (before : ClientContent). before.settings ≡ c.settings) (stands_at at c) _ _ refl refl
  carrier_settings Down c = refl

  abbrev After : (ClientContent → Turned6) → Seen6 → ClientContent → Type 0
  After call seen c = Watched6 site (call c).client (shows6 (message_in site.managed.spec.mac site.duid (call c).out) seen) past

  pub tick_keeps : Keeps6 site past (tick_turned at salt)
  tick_keeps c seen w =
      by_parts site (After (tick_turned at salt) seen) c w.settings (record {
        settings = tick_settings (client_with site c.fresh c.last c.sol_max c.state c.kept c.plea);
        follows = tick_call site past seen.count seen.current w.follows.counted c.fresh c.last c.sol_max w.follows.last_is at salt
            c.state c.kept c.plea w.follows.on;
      })

  pub carrier_keeps : (carrier : Carrier6) → Keeps6 site past (carrier_turned carrier at salt)
  carrier_keeps carrier c seen w =
      by_parts site (After (carrier_turned carrier at salt) seen) c w.settings (record {
        settings = carrier_settings carrier (client_with site c.fresh c.last c.sol_max c.state c.kept c.plea);
        follows = carrier_call site past seen.count seen.current w.follows.counted c.fresh c.last c.sol_max w.follows.last_is at salt
            carrier c.state c.kept c.plea w.follows.on;
      })

  pub contested_keeps : (address : Ip6) → Keeps6 site past (contested_turned address at salt)
  contested_keeps address c seen w =
      by_parts site (After (contested_turned address at salt) seen) c w.settings (record {
        settings = contested_settings address (client_with site c.fresh c.last c.sol_max c.state c.kept c.plea);
        follows = contested_call site past seen.count seen.current w.follows.counted c.fresh c.last c.sol_max w.follows.last_is at salt
            address c.state c.kept c.plea w.follows.on;
      })

  pub release_keeps : (tell : Tell6) → Keeps6 site past (release_turned tell at salt)
  unfolding release_turned
  release_keeps tell c seen w =
      by_parts site (After (release_turned tell at salt) seen) c w.settings (record {
        settings = refl;
        follows = release_call site past seen.count seen.current w.follows.counted c.fresh c.last c.sol_max w.follows.last_is at salt
            tell c.state c.kept c.plea;
      })

  pub rebind_keeps : Keeps6 site past (rebind_turned at salt)
  unfolding rebind_turned
  rebind_keeps c seen w =
      by_parts site (After (rebind_turned at salt) seen) c w.settings (record {
        settings = refl;
        follows = rebind_call site past seen.count seen.current w.follows.counted c.fresh c.last c.sol_max w.follows.last_is at salt
            c.state c.kept c.plea w.follows.on;
      })

-- ---- the end of a turn

module _ (site : Site) (e : Entry) (past : List Entry) where
  -- without a message
  pub silent_watched : (c : ClientContent) (seen : Seen6) → message6_at site e ≡ None → seen6_in site (e ∷ past) ≡ seen
      → Watched6 site c seen past
      → Watched6 site c (seen6_in site (e ∷ past)) (e ∷ past)
  silent_watched c seen none is w = record {
    settings = w.settings;
    follows = finish6 site e past c.last (lease_server c.kept) (plea_server c.plea) c.state seen is w.follows
        (λ x open_one a. silent_no site e past x.number none);
  }

  hears_settings : (at salt : ℕ) (message : Content6) (c : ClientContent) → (hears_turned at salt message c).client.settings
      ≡ c.settings
  unfolding hears_turned
  hears_settings at salt message c =
      gated (λ (turned : Turned6). turned.client.settings ≡ c.settings) (counts c message) _ _ (by_kind message.kind) refl
    where
      by_kind : (kind : ServerKind6) → (answered at salt message kind (learnt message.sol_max c)).client.settings ≡ c.settings
      by_kind Advertise =
          gated (λ (before : ClientContent). before.settings ≡ c.settings)
          (is_kept_offer (advertise_answer (learnt message.sol_max c) message) c.state) _ _ refl refl
      by_kind Reply = refl

  -- with one
  pub heard_watched : (at salt : ℕ) (c : ClientContent) (seen : Seen6) (message : Content6) → message6_at site e ≡ Some message
      → seen6_in site (e ∷ past) ≡ shows6 (message_in site.managed.spec.mac site.duid (hears_turned at salt message c).out)
      seen → Watched6 site c seen past
      → Watched6 site (hears_turned at salt message c).client (seen6_in site (e ∷ past)) (e ∷ past)
  heard_watched at salt c seen message came is w =
      by_parts site
      (λ (before : ClientContent). seen6_in site (e ∷ past) ≡ shows6 (message_in site.managed.spec.mac site.duid
      (hears_turned at salt message before).out) seen
      → Watched6 site (hears_turned at salt message before).client (seen6_in site (e ∷ past)) (e ∷ past)) c w.settings
      (λ same. record {
        settings = hears_settings at salt message (client_with site c.fresh c.last c.sol_max c.state c.kept c.plea);
        follows = hears_final site e past message came c.fresh c.last c.sol_max c.kept c.plea at salt seen.count seen.current
            w.follows.counted w.follows.last_is c.state w.follows.on same;
      }) is
