-- Each call of a client keeps the basis of the items that it holds.
use Rattle.std.proofs.Common.{◌≡◌, ℕ, inr, Bool, true, false, not, ◌&&◌, List, [], ◌∷◌, Option, Some, None, IfSome, refl, sym, ◌∙◌, subst, is_some, eqb, nat_le}
use Rattle.std.proofs.lemmas.Bool.{and_parts, both_ways, eq-eqb, eqb-true}
use Rattle.std.specs.List.{AllByRecursion, Contains, list_any}
use Rattle.std.specs.Prelude.{if◌then◌else◌, option_map}
use Rattle.machine.specs.Moment.{is_due}
use Rattle.net_types.proofs.AllLaws.{all_both, all_join, all_map}
use Rattle.net_types.proofs.CaseLaws.{gated, split}
use Rattle.net_types.specs.declared.address.Ip6.{Ip6}
use Rattle.v6_options.specs.declared.ia.IaKind.{IaKind}
use Rattle.v6_options.specs.declared.ia.IaKind.TheVariants.{Na, Pd}
use Rattle.v6_message.specs.Replies.{Content6}
use Rattle.lease6_text.specs.declared.lease.Item6.{Item6}
use Rattle.lease6_text.specs.Bounds.{FitsLease6}
use Rattle.lease6_text.specs.LineParts.{is_ia, is_same_kind}
use Rattle.v6_retrans.specs.declared.parameters.TheConstants.{REQUEST, DECLINE}
use Rattle.v6_client.specs.declared.exchange.Exchange6.{Exchange6}
use Rattle.v6_client.specs.V6Items.declared.asks.IaAsk.{IaAsk}
use Rattle.v6_client.specs.V6Items.declared.scope.Dates6.{Dates6}
use Rattle.lease6_text.specs.Leases.{IaLeaseContent, Lease6Content}
use Rattle.v6_client.specs.V6Items.declared.scope.Cause6.{Cause6}
use Rattle.v6_client.specs.V6Items.declared.scope.Cause6.TheVariants.{Lapse, Duplicate}
use Rattle.v6_client.specs.declared.states.Keep6.{Keep6}
use Rattle.v6_client.specs.declared.states.Keep6.TheVariants.{Stays, Clears, Takes}
use Rattle.v6_client.specs.V6Items.declared.scope.Parting6.{Parting6}
use Rattle.v6_client.specs.declared.states.Carrier6.TheVariants.{Up, Down}
use Rattle.v6_client.specs.V6Items.declared.scope.Scope6.{Scope6}
use Rattle.v6_client.specs.V6Items.declared.scope.Scope6.TheVariants as scope
use Rattle.v6_client.specs.declared.states.State6.{State6}
use Rattle.v6_client.specs.declared.states.State6.TheVariants.{Off, Waiting, Soliciting, Requesting, Bound, Renewing, Rebinding, Restarting, Declining}
use Rattle.v6_client.specs.declared.states.Step6.{Step6}
use Rattle.v6_client.specs.declared.states.Tell6.{Tell6}
use Rattle.v6_client.specs.declared.states.Tell6.TheVariants.{Server, Nobody}
use Rattle.v6_client.specs.declared.turn.Turn6.{Turn6}
use Rattle.v6_client.specs.Calls.{dates_in, due_of, has_origin, parting_begun, stands_at}
use Rattle.v6_client.specs.Clients.{ClientContent, PleaContent, holds, is_at_end, scope_of, turn_of}
use Rattle.v6_client.specs.Exchanges.{is_again_due, is_used_up}
use Rattle.v6_client.specs.Inputs.{begins, duplicate_row, rebind_row, release_row, released, stops}
use Rattle.v6_client.specs.V6Items.Items.{asked_at, goes_of, ia_with, ias_of, items_at, pruned_ia, pruned_ias, stays_in, staying}
use Rattle.v6_client.specs.Laws.{is_over_at}
use Rattle.v6_client.specs.Moves.{given_up, kept_after, lapsed, parting_at, thinned_lease}
use Rattle.v6_client.specs.Runs.{Turned6, carrier_turned, contested_turned, rebind_turned, release_turned, rested, stepped, tick_turned}
use Rattle.v6_client.specs.Settings.{SettingsContent}
use Rattle.v6_client.specs.Sound.{IsSound}
use Rattle.v6_client.specs.Steps.{expires, is_last, keep_by, loses, tells_parting}
use Rattle.v6_client.specs.Ticks.{restarting_tick, tick_row}
use Rattle.v6_client_laws.proofs.Lapsing.{start_row}
use Rattle.v6_client_laws.proofs.Lapsing as lapsing
use Rattle.v6_client.proofs.Lease6Text.IaFacts.{kind_is}
use Rattle.lease_evidence.specs.ClientModel.ClientSettings6.{settings6_of}
use Rattle.lease_evidence.specs.EvidenceWords.Entries.{Entry}
use Rattle.lease_evidence.specs.EvidenceWords.Inputs.{Site, index_at}
use Rattle.lease6_evidence.specs.Exchanges6.{Numbered6}
use Rattle.lease6_evidence.specs.ItemBasis.{Leaves, NotContested}
use Rattle.lease6_evidence.specs.Replies6.{FirstReply, asks_at}
use Rattle.lease6_evidence.proofs.Basis6.{HeldIa, HeldIas, HeldItem, IsKeptItem, RestsBy, StaysAll, filter_all, filter_stays, key_ask, none_goes, without_held, without_stays}
use Rattle.lease6_evidence.proofs.ExchangeStates.{client_with, pruned_kept, stood}
use Rattle.lease6_evidence.proofs.Granted6.{all_contained}
use Rattle.lease6_evidence.proofs.Turns6.{Goes6, GoesBut}

-- ---- what a client holds

-- each item that is held has its basis
abbrev pub Holds6 : Site → (now : ℕ) → List Entry → ClientContent → Type 0
Holds6 site now past c = holds c.state ≡ true → HeldIas site (stood c.state) now past (ias_of c.kept)

all_scope : (state : State6) → holds state ≡ true → scope_of state ≡ scope.All
all_scope Off h = absurd cc
all_scope (Waiting due) h = absurd cc
all_scope (Soliciting exchange offer) h = absurd cc
all_scope (Requesting exchange) h = absurd cc
all_scope Bound h = refl
all_scope (Renewing exchange) h = refl
all_scope (Rebinding exchange) h = refl
all_scope (Restarting exchange end since true) h = refl
all_scope (Restarting exchange end since false) h = absurd cc
all_scope (Declining exchange) h = refl

kept_held : (site : Site) (by : Bool) (now : ℕ) (past : List Entry) (keep : Keep6) (kept : Option Lease6Content)
    → HeldIas site by now past (ias_of kept)
    → HeldIas site by now past (ias_of (kept_after keep None kept))
kept_held site by now past Stays kept held = held
kept_held site by now past Clears kept held = tt
kept_held site by now past Takes kept held = tt

thinned_held : (site : Site) (by : Bool) (now : ℕ) (past : List Entry) (cause : Cause6) (kept : Option Lease6Content)
    → HeldIas site by now past (ias_of kept)
    → HeldIas site by now past (ias_of (option_map (thinned_lease cause) kept))
thinned_held site by now past cause None held = tt
thinned_held site by now past cause (Some lease) held = without_held site by now past cause lease.ias held

thinned_stays : (cause : Cause6) (kept : Option Lease6Content)
    → AllByRecursion (StaysAll cause) (ias_of (option_map (thinned_lease cause) kept))
thinned_stays cause None = tt
thinned_stays cause (Some lease) = without_stays cause lease.ias

-- where none of the held items goes, all stay
kept_stays : (cause : Cause6) (site : Site) (by : Bool) (now : ℕ) (past : List Entry) (kept : Option Lease6Content)
    → IfSome kept FitsLease6 → HeldIas site by now past (ias_of kept)
    → list_any (goes_of cause scope.All (ias_of kept)) (asks_at site) ≡ false → AllByRecursion (StaysAll cause) (ias_of kept)
kept_stays cause site by now past None fits held none = tt
kept_stays cause site by now past (Some lease) fits held none = none_goes cause site by now past lease.ias fits.ias held none

-- ---- a tick

-- a step after which items are held is one of a client that stands on the kept lease exactly where it did before
abbrev pub StandsStill : (before : Bool) → Step6 → Type 0
StandsStill before step = holds step.state ≡ true → stood step.state ≡ before

module _ (turn : Turn6) (dates : Dates6) (parting : Parting6) where
  parting_still : (before : Bool) (step : Step6) → StandsStill before step → StandsStill before (tells_parting parting step)
  parting_still before step h = gated (StandsStill before) parting.goes _ _ h h

  restarting_still : (exchange : Exchange6) (end since : ℕ) (stands : Bool)
      → StandsStill stands (restarting_tick turn parting exchange end since stands)
  restarting_still exchange end since stands =
      gated (StandsStill stands) (is_last parting) _ _
      (gated (StandsStill stands) stands (expires turn) (loses turn) (λ h. absurd cc) (λ h. absurd cc))
      (gated (StandsStill stands) (nat_le end turn.at) _ _ (λ h. absurd cc)
      (gated (StandsStill stands) (is_again_due turn exchange) _ _ (λ h. refl) (λ h. refl)))

  pub tick_still : (state : State6) → StandsStill (stood state) (tick_row turn dates parting state)
  tick_still Off = λ h. absurd cc
  tick_still (Waiting due) = λ h. absurd cc
  tick_still (Soliciting exchange None) = λ h. absurd cc
  tick_still (Soliciting exchange (Some preference)) = λ h. absurd cc
  tick_still (Requesting exchange) =
      gated (StandsStill false) (is_used_up REQUEST exchange) _ _ (λ h. absurd cc) (λ h. absurd cc)
  tick_still Bound =
      parting_still false _ (gated (StandsStill false) (is_last parting) _ _ (λ h. absurd cc)
      (gated (StandsStill false) (is_due dates.t2 turn.at) _ _ (λ h. refl)
      (gated (StandsStill false) (is_due dates.t1 turn.at) _ _ (λ h. refl) (λ h. refl))))
  tick_still (Renewing exchange) =
      parting_still false _ (gated (StandsStill false) (is_last parting) _ _ (λ h. absurd cc)
      (gated (StandsStill false) (is_due dates.t2 turn.at) _ _ (λ h. refl)
      (gated (StandsStill false) (is_again_due turn exchange) _ _ (λ h. refl) (λ h. refl))))
  tick_still (Rebinding exchange) =
      parting_still false _ (gated (StandsStill false) (is_last parting) _ _ (λ h. absurd cc)
      (gated (StandsStill false) (is_again_due turn exchange) _ _ (λ h. refl) (λ h. refl)))
  tick_still (Restarting exchange end since true) = parting_still true _ (restarting_still exchange end since true)
  tick_still (Restarting exchange end since false) = restarting_still exchange end since false
  tick_still (Declining exchange) =
      parting_still false _ (gated (StandsStill false) (is_again_due turn exchange) _ _
      (gated (StandsStill false) (is_used_up DECLINE exchange) _ _
      (gated (StandsStill false) parting.stays _ _ (λ h. refl) (λ h. absurd cc)) (λ h. refl)) (λ h. refl))

module _ (site : Site) (past : List Entry) (before at salt : ℕ) where
  -- items that are valid now
  live_item : (by : Bool) (kind : IaKind) (iaid : ℕ) (item : Item6) → HeldItem site by kind iaid before past item
      → stays_in (Lapse at) kind item ≡ true
      → HeldItem site by kind iaid at past item
  live_item by kind iaid item held stays = record { rests = held.rests; live = stays }

  live_ia : (by : Bool) (ia : IaLeaseContent) → HeldIa site by before past ia → StaysAll (Lapse at) ia
      → HeldIa site by at past ia
  live_ia by ia held stays = record {
    asked = held.asked;
    items = all_both (HeldItem site by ia.kind ia.iaid before past) (λ item. stays_in (Lapse at) ia.kind item ≡ true)
        (HeldItem site by ia.kind ia.iaid at past)
        (live_item by ia.kind ia.iaid) ia.items held.items stays;
  }

  live_ias : (by : Bool) (kept : Option Lease6Content) → IfSome kept FitsLease6 → HeldIas site by before past (ias_of kept)
      → list_any (goes_of (Lapse at) scope.All (ias_of kept)) (asks_at site) ≡ false → HeldIas site by at past (ias_of kept)
  live_ias by kept fits held none =
      all_both (HeldIa site by before past) (StaysAll (Lapse at)) (HeldIa site by at past) (live_ia by) (ias_of kept) held
      (kept_stays (Lapse at) site by before past kept fits held none)

  lapsed_held : (by : Bool) (c : ClientContent) → HeldIas site by before past (ias_of c.kept)
      → HeldIas site by before past (ias_of (lapsed at (parting_at (Lapse at) c) c).kept)
  lapsed_held by c held =
      let parting : Parting6 = parting_at (Lapse at) c in
      gated (λ (d : ClientContent). HeldIas site by before past (ias_of d.kept))
      (holds c.state && parting.goes && not (is_at_end at c.state)) _ _
      (gated (λ (kept : Option Lease6Content). HeldIas site by before past (ias_of kept)) parting.stays _ _
      (thinned_held site by before past (Lapse at) c.kept held) held) held

  -- what is held before and after is held
  abbrev Kept6 : ClientContent → Turned6 → Type 0
  Kept6 c turned = holds turned.client.state ≡ true
      → HeldIas site (stood turned.client.state) before past (ias_of turned.client.kept)
      × (is_over_at at turned.client ≡ false)

  due_kept : (c : ClientContent) → Holds6 site before past c
      → Kept6 c (stepped (tick_row (turn_of at salt c) (dates_in c) (parting_at (Lapse at) c) c.state) None
      (lapsed at (parting_at (Lapse at) c) c))
  due_kept c held holding =
      let parting : Parting6 = parting_at (Lapse at) c in
      let step : Step6 = tick_row (turn_of at salt c) (dates_in c) parting c.state in
      let still : stood step.state ≡ stood c.state = tick_still (turn_of at salt c) (dates_in c) parting c.state holding in (
        subst (λ (by : Bool). HeldIas site by before past (ias_of (kept_after step.keep None (lapsed at parting c).kept)))
            (sym still) (kept_held site (stood c.state) before past step.keep (lapsed at parting c).kept
            (lapsed_held (stood c.state) c (held (was (holds c.state) refl)))),
        lapsing.ticked c _ at salt _ (record { goes_on = refl; answers = refl }) holding,
      )
    where
      was : (b : Bool) → holds c.state ≡ b → holds c.state ≡ true
      was true e = e
      was false e = absurd
          (both_ways (holds (tick_row (turn_of at salt c) (dates_in c) (parting_at (Lapse at) c) c.state).state)
          (start_row (turn_of at salt c) (dates_in c) (parting_at (Lapse at) c) c.state e) holding)

  by_due : (c : ClientContent) → Holds6 site before past c → (due : Bool) → is_due (due_of c) at ≡ due
      → Kept6 c (if due then stepped (tick_row (turn_of at salt c) (dates_in c) (parting_at (Lapse at) c) c.state) None
      (lapsed at (parting_at (Lapse at) c) c) else rested c)
  by_due c held true is holding = due_kept c held holding
  by_due c held false is holding = (held holding, lapsing.rested c at holding is)

  tick_kept : (c : ClientContent) → Holds6 site before past c → Kept6 c (tick_turned at salt c)
  unfolding tick_turned
  tick_kept c held = by_due c held (is_due (due_of c) at) refl

  -- each item that is held after a tick is valid
  pub tick_holds : (c : ClientContent) → c.settings ≡ settings6_of site.duid site.managed
      → (tick_turned at salt c).client.settings ≡ c.settings → IsSound (tick_turned at salt c).client
      → Holds6 site before past c → Holds6 site at past (tick_turned at salt c).client
  tick_holds c same stays sound held holding =
      let after = tick_kept c held holding in
      live_ias (stood (tick_turned at salt c).client.state) (tick_turned at salt c).client.kept sound.kept after.0
      (subst (λ (s : SettingsContent). list_any (goes_of (Lapse at) scope.All (ias_of (tick_turned at salt c).client.kept))
      s.asks ≡ false) (stays ∙ same) after.1)

-- ---- a turn that leaves the items

module _ (site : Site) (e : Entry) (past : List Entry) where
  abbrev Before : (by : Bool) → IaLeaseContent → Type 0
  Before by ia = HeldIa site by e.moment past ia

  abbrev After : (by : Bool) → IaLeaseContent → Type 0
  After by ia = HeldIa site by e.moment (e ∷ past) ia

  abbrev After6 : (by : Bool) → List IaLeaseContent → Type 0
  After6 by ias = HeldIas site by e.moment (e ∷ past) ias

  -- no first Reply came
  abbrev pub NoFirst : Type 0
  NoFirst = (opened : Numbered6) (message : Content6) → FirstReply site opened message e past → ⊥

  -- what leaves the item leaves what it rests on
  rests_still : (by : Bool) (kind : IaKind) (iaid : ℕ) (item : Item6) → Leaves site (key_ask kind iaid) item.net e past
      → RestsBy site by kind iaid past item → RestsBy site by kind iaid (e ∷ past) item
  rests_still true kind iaid item leaves rests = rests
  rests_still false kind iaid item leaves rests = inr (leaves, rests)

  item_stays : (by : Bool) (kind : IaKind) (iaid : ℕ) (item : Item6) → Goes6 site e past → NoFirst
      → HeldItem site by kind iaid e.moment past item
      → HeldItem site by kind iaid e.moment (e ∷ past) item
  item_stays by kind iaid item goes none held = record {
    rests = rests_still by kind iaid item (record {
      stays = goes.stays;
      own = goes.own kind item.net.ip;
      unrevised = λ opened message first told. none opened message first;
    }) held.rests;
    live = held.live;
  }

  ia_stays : (by : Bool) → Goes6 site e past → NoFirst → (ia : IaLeaseContent) → Before by ia → After by ia
  ia_stays by goes none ia held = record {
    asked = held.asked;
    items = all_map (HeldItem site by ia.kind ia.iaid e.moment past) (HeldItem site by ia.kind ia.iaid e.moment (e ∷ past))
        (λ item h. item_stays by ia.kind ia.iaid item goes none h) ia.items held.items;
  }

  pub ias_stay : (by : Bool) → Goes6 site e past → NoFirst → (ias : List IaLeaseContent) → HeldIas site by e.moment past ias
      → HeldIas site by e.moment (e ∷ past) ias
  ias_stay by goes none ias held = all_map (Before by) (After by) (ia_stays by goes none) ias held

  -- ---- another host uses an address

  not_used : (kind : IaKind) (item : Item6) (address : Ip6) → GoesBut site e past address
      → stays_in (Duplicate address) kind item ≡ true
      → NotContested (index_at site) kind item.net.ip e.event
  not_used Na item address goes stays = goes.own item.net.ip (λ same. both (eqb item.net.ip.number address.number)
      (eq-eqb item.net.ip.number address.number same) stays)
    where
      both : (b : Bool) → b ≡ true → not b ≡ true → ⊥
      both true e h = cc
      both false e h = cc
  not_used Pd item address goes stays = tt

  item_left : (by : Bool) (kind : IaKind) (iaid : ℕ) (item : Item6) (address : Ip6) → GoesBut site e past address → NoFirst
      → HeldItem site by kind iaid e.moment past item
      → stays_in (Duplicate address) kind item ≡ true → HeldItem site by kind iaid e.moment (e ∷ past) item
  item_left by kind iaid item address goes none held stays = record {
    rests = rests_still by kind iaid item (record {
      stays = goes.stays;
      own = not_used kind item address goes stays;
      unrevised = λ opened message first told. none opened message first;
    }) held.rests;
    live = held.live;
  }

  ia_left : (by : Bool) (address : Ip6) → GoesBut site e past address → NoFirst → (ia : IaLeaseContent) → Before by ia
      → StaysAll (Duplicate address) ia → After by ia
  ia_left by address goes none ia held stays = record {
    asked = held.asked;
    items = all_both (HeldItem site by ia.kind ia.iaid e.moment past)
        (λ item. stays_in (Duplicate address) ia.kind item ≡ true)
        (HeldItem site by ia.kind ia.iaid e.moment (e ∷ past))
        (λ item h k. item_left by ia.kind ia.iaid item address goes none h k) ia.items held.items stays;
  }

  ias_left : (by : Bool) (address : Ip6) → GoesBut site e past address → NoFirst → (ias : List IaLeaseContent)
      → HeldIas site by e.moment past ias
      → AllByRecursion (StaysAll (Duplicate address)) ias → HeldIas site by e.moment (e ∷ past) ias
  ias_left by address goes none ias held stays = all_both (Before by) (StaysAll (Duplicate address)) (After by)
      (ia_left by address goes none) ias held stays

  -- ---- calls that bring nothing

  -- after a step that takes no lease; `kept` is what was kept
  abbrev Leaves6 : (kept : Option Lease6Content) → Step6 → Type 0
  Leaves6 kept step = holds step.state ≡ true → After6 (stood step.state) (ias_of (kept_after step.keep None kept))

  -- the client holds what it held
  abbrev Same6 : (kept : Option Lease6Content) → State6 → Type 0
  Same6 kept state = holds state ≡ true → After6 (stood state) (ias_of kept)

  same_leaves : (c : ClientContent) → Goes6 site e past → NoFirst → Holds6 site e.moment past c → Same6 c.kept c.state
  same_leaves c goes none held holding = ias_stay (stood c.state) goes none (ias_of c.kept) (held holding)

  rebind_leaves : (turn : Turn6) (parting : Parting6) (kept : Option Lease6Content) (state : State6) → Same6 kept state
      → Leaves6 kept (rebind_row turn parting state)
  rebind_leaves turn parting kept Off same =
      gated (λ (step : Step6). Leaves6 kept (record step { spends = true })) parting.stays _ _ (λ h. absurd cc) (λ h. absurd cc)
  rebind_leaves turn parting kept (Waiting due) same = same
  rebind_leaves turn parting kept (Soliciting exchange offer) same = same
  rebind_leaves turn parting kept (Requesting exchange) same = same
  rebind_leaves turn parting kept Bound same = same
  rebind_leaves turn parting kept (Renewing exchange) same = same
  rebind_leaves turn parting kept (Rebinding exchange) same = same
  rebind_leaves turn parting kept (Restarting exchange end since stands) same = same
  rebind_leaves turn parting kept (Declining exchange) same = same

  stops_leaves : (turn : Turn6) (tell : Tell6) (kept : Option Lease6Content) → Leaves6 kept (stops turn tell)
  stops_leaves turn Server kept = λ h. absurd cc
  stops_leaves turn Nobody kept = λ h. absurd cc

  released_leaves : (turn : Turn6) (tell : Tell6) (held : Bool) (kept : Option Lease6Content)
      → Leaves6 kept (released turn tell held)
  released_leaves turn tell held kept = gated (Leaves6 kept) held _ _ (stops_leaves turn tell kept) (λ h. absurd cc)

  release_leaves : (turn : Turn6) (tell : Tell6) (held : Bool) (kept : Option Lease6Content) (state : State6)
      → Leaves6 kept (release_row turn tell held state)
  release_leaves turn tell held kept Off = λ h. absurd cc
  release_leaves turn tell held kept (Waiting due) = λ h. absurd cc
  release_leaves turn tell held kept (Soliciting exchange offer) = λ h. absurd cc
  release_leaves turn tell held kept (Requesting exchange) = λ h. absurd cc
  release_leaves turn tell held kept Bound = released_leaves turn tell held kept
  release_leaves turn tell held kept (Renewing exchange) = released_leaves turn tell held kept
  release_leaves turn tell held kept (Rebinding exchange) = released_leaves turn tell held kept
  release_leaves turn tell held kept (Restarting exchange end since true) = released_leaves turn tell held kept
  release_leaves turn tell held kept (Restarting exchange end since false) = λ h. absurd cc
  release_leaves turn tell held kept (Declining exchange) = released_leaves turn tell held kept

  -- ---- the begin of a client that stands on the kept lease

  -- the items of an IA that the lease has
  kept_items : (lease : Lease6Content) → site.kept6 ≡ Some lease → (kind : IaKind) (iaid : ℕ) (ias : List IaLeaseContent)
      → AllByRecursion (Contains lease.ias) ias
      → AllByRecursion (IsKeptItem site kind iaid) (items_at kind iaid ias)
  kept_items lease is kind iaid [] among = tt
  kept_items lease is kind iaid (ia ∷ ias) among =
      split (is_ia (kind, iaid) ia)
      (λ e.
      let parts = and_parts (is_same_kind ia.kind kind) (eqb ia.iaid iaid) e in
      rw e (all_map (Contains ia.items) (IsKeptItem site kind iaid)
      (λ item of_ia. record {
        lease = lease;
        kept = is;
        ia = ia;
        among = among.0;
        kind_is = kind_is ia.kind kind parts.0;
        iaid_is = eqb-true ia.iaid iaid parts.1;
        of_ia = of_ia;
      }) ia.items (all_contained ia.items)))
      (λ e. rw e (kept_items lease is kind iaid ias among.1))

  some_held : (ask : IaAsk) → Contains (asks_at site) ask → (items : List Item6)
      → AllByRecursion (HeldItem site true ask.kind ask.iaid e.moment (e ∷ past)) items
      → After6 true (ia_with ask.kind ask.iaid items)
  some_held ask among [] held = tt
  some_held ask among (item ∷ items) held =
      (record { asked = record { ask = ask; among = among; kind_is = refl; iaid_is = refl }; items = held }, tt)

  one_pruned : (lease : Lease6Content) → site.kept6 ≡ Some lease → (ask : IaAsk) → Contains (asks_at site) ask
      → After6 true (pruned_ia e.moment lease.ias ask)
  one_pruned lease is ask among =
      let items : List Item6 = asked_at ask lease.ias in
      some_held ask among (staying (Lapse e.moment) ask.kind items)
      (all_both (IsKeptItem site ask.kind ask.iaid) (λ item. stays_in (Lapse e.moment) ask.kind item ≡ true)
      (HeldItem site true ask.kind ask.iaid e.moment (e ∷ past)) (λ item k live. record { rests = k; live = live })
      (staying (Lapse e.moment) ask.kind items)
      (filter_all (IsKeptItem site ask.kind ask.iaid) (stays_in (Lapse e.moment) ask.kind) items
      (kept_items lease is ask.kind ask.iaid lease.ias (all_contained lease.ias)))
      (filter_stays (Lapse e.moment) ask.kind items))

  all_pruned : (lease : Lease6Content) → site.kept6 ≡ Some lease → (asks : List IaAsk)
      → AllByRecursion (Contains (asks_at site)) asks → After6 true (pruned_ias e.moment lease.ias asks)
  all_pruned lease is [] among = tt
  all_pruned lease is (ask ∷ asks) among =
      all_join (HeldIa site true e.moment (e ∷ past)) (pruned_ia e.moment lease.ias ask) (pruned_ias e.moment lease.ias asks)
      (one_pruned lease is ask among.0) (all_pruned lease is asks among.1)

  -- all that it holds then is of the lease that was kept
  pruned_held : (kept : Option Lease6Content) → kept ≡ site.kept6
      → After6 true (ias_of (pruned_kept e.moment (asks_at site) kept))
  pruned_held None is = tt
  pruned_held (Some lease) is = all_pruned lease (sym is) (asks_at site) (all_contained (asks_at site))

  module _ (unspent : Bool) (last : Option ℕ) (sol_max salt : ℕ) (kept : Option Lease6Content) (plea : Option PleaContent) where
    abbrev at_begin : State6 → ClientContent
    at_begin state = client_with site unspent last sol_max state kept plea

    abbrev BegunHolds : State6 → Type 0
    BegunHolds state = Holds6 site e.moment (e ∷ past) (carrier_turned Up e.moment salt (at_begin state)).client

    when_off : (unspent ≡ true → kept ≡ site.kept6) → (stands : Bool) → stands_at e.moment (at_begin Off) ≡ stands
        → Holds6 site e.moment (e ∷ past)
        (stepped (begins (turn_of e.moment salt (at_begin Off)) stands (parting_begun e.moment (at_begin Off))) None
        (if stands then record (at_begin Off) { kept = pruned_kept e.moment (asks_at site) kept } else at_begin Off)).client
    when_off was true is =
        let persistent : Bool = site.managed.conf.flags.persistent in
        let one = and_parts (unspent && persistent && has_origin kept) (parting_begun e.moment (at_begin Off)).stays is in
        let two = and_parts (unspent && persistent) (has_origin kept) one.0 in
        let same : kept ≡ site.kept6 = was (and_parts unspent persistent two.0).0 in
        gated (λ (step : Step6). Leaves6 (pruned_kept e.moment (asks_at site) kept) (record step { spends = true }))
        (parting_begun e.moment (at_begin Off)).stays _ _ (λ h. pruned_held kept same) (λ h. absurd cc)
    when_off was false is =
        gated (λ (step : Step6). Leaves6 kept (record step { spends = true }))
        (parting_begun e.moment (at_begin Off)).stays _ _ (λ h. absurd cc) (λ h. absurd cc)

    begun_at : (state : State6) → (unspent ≡ true → kept ≡ site.kept6) → Same6 kept state → BegunHolds state
    unfolding carrier_turned
    begun_at Off was same = when_off was (stands_at e.moment (at_begin Off)) refl
    begun_at (Waiting due) was same = same
    begun_at (Soliciting exchange offer) was same = same
    begun_at (Requesting exchange) was same = same
    begun_at Bound was same = same
    begun_at (Renewing exchange) was same = same
    begun_at (Rebinding exchange) was same = same
    begun_at (Restarting exchange end since stands) was same = same
    begun_at (Declining exchange) was same = same

  -- ---- calls

  pub begin_holds : (salt : ℕ) (unspent : Bool) (last : Option ℕ) (sol_max : ℕ) (state : State6) (kept : Option Lease6Content)
      (plea : Option PleaContent) → Goes6 site e past → NoFirst → (unspent ≡ true → kept ≡ site.kept6)
      → Holds6 site e.moment past (client_with site unspent last sol_max state kept plea)
      → Holds6 site e.moment (e ∷ past)
      (carrier_turned Up e.moment salt (client_with site unspent last sol_max state kept plea)).client
  begin_holds salt unspent last sol_max state kept plea goes none was held =
      begun_at unspent last sol_max salt kept plea state was
      (same_leaves (client_with site unspent last sol_max state kept plea) goes none held)

  pub rebind_holds : (salt : ℕ) (c : ClientContent) → Goes6 site e past → NoFirst → Holds6 site e.moment past c
      → Holds6 site e.moment (e ∷ past) (rebind_turned e.moment salt c).client
  unfolding rebind_turned
  rebind_holds salt c goes none held =
      rebind_leaves (turn_of e.moment salt c) (parting_begun e.moment c) c.kept c.state (same_leaves c goes none held)

  pub drop_holds : (salt : ℕ) (c : ClientContent) → Holds6 site e.moment (e ∷ past) (carrier_turned Down e.moment salt c).client
  unfolding carrier_turned
  drop_holds salt c h = absurd cc

  pub release_holds : (tell : Tell6) (salt : ℕ) (c : ClientContent)
      → Holds6 site e.moment (e ∷ past) (release_turned tell e.moment salt c).client
  unfolding release_turned
  release_holds tell salt c = release_leaves (turn_of e.moment salt c) tell (is_some c.kept) c.kept c.state

  -- ---- an address that another host uses

  module _ (address : Ip6) (goes : GoesBut site e past address) (none : NoFirst) (turn : Turn6) where
    abbrev parting_with : (gone stays : Bool) → Parting6
    parting_with gone stays = record { goes = gone; stays = stays }

    -- the items that are left
    thinned_leaves : (by : Bool) (kept : Option Lease6Content) → HeldIas site by e.moment past (ias_of kept)
        → After6 by (ias_of (option_map (thinned_lease (Duplicate address)) kept))
    thinned_leaves by kept held =
        ias_left by address goes none (ias_of (option_map (thinned_lease (Duplicate address)) kept))
        (thinned_held site by e.moment past (Duplicate address) kept held)
        (thinned_stays (Duplicate address) kept)

    after_keep : (by : Bool) (keep : Keep6) (kept : Option Lease6Content) → After6 by (ias_of kept)
        → After6 by (ias_of (kept_after keep None kept))
    after_keep by keep kept held = kept_held site by e.moment (e ∷ past) keep kept held

    abbrev Contested6 : (gone stays : Bool) → State6 → ClientContent → Type 0
    Contested6 gone stays state c =
        Holds6 site e.moment (e ∷ past) (stepped (duplicate_row turn (parting_with gone stays) state) None
        (given_up address (parting_with gone stays) c)).client

    -- of an item of the IAs that are asked for: it goes, or all stay
    contested_at : (gone stays : Bool) (unspent : Bool) (last : Option ℕ) (sol_max : ℕ) (state : State6)
        (kept : Option Lease6Content) (plea : Option PleaContent)
        → (holds state ≡ true → HeldIas site (stood state) e.moment past (ias_of kept))
        → (holds state ≡ true → gone ≡ false → AllByRecursion (StaysAll (Duplicate address)) (ias_of kept))
        → Contested6 gone stays state (client_with site unspent last sol_max state kept plea)
    contested_at gone stays unspent last sol_max Off kept plea held all h = absurd cc
    contested_at gone stays unspent last sol_max (Waiting due) kept plea held all h = absurd cc
    contested_at gone stays unspent last sol_max (Soliciting exchange offer) kept plea held all h = absurd cc
    contested_at gone stays unspent last sol_max (Requesting exchange) kept plea held all h = absurd cc
    contested_at true stays unspent last sol_max Bound kept plea held all h =
        after_keep false (keep_by (parting_with true stays)) _ (thinned_leaves false kept (held refl))
    contested_at false stays unspent last sol_max Bound kept plea held all h =
        ias_left false address goes none (ias_of kept) (held refl) (all refl refl)
    contested_at true stays unspent last sol_max (Renewing exchange) kept plea held all h =
        after_keep false (keep_by (parting_with true stays)) _ (thinned_leaves false kept (held refl))
    contested_at false stays unspent last sol_max (Renewing exchange) kept plea held all h =
        ias_left false address goes none (ias_of kept) (held refl) (all refl refl)
    contested_at true stays unspent last sol_max (Rebinding exchange) kept plea held all h =
        after_keep false (keep_by (parting_with true stays)) _ (thinned_leaves false kept (held refl))
    contested_at false stays unspent last sol_max (Rebinding exchange) kept plea held all h =
        ias_left false address goes none (ias_of kept) (held refl) (all refl refl)
    contested_at true true unspent last sol_max (Restarting exchange end since true) kept plea held all h =
        thinned_leaves true kept (held refl)
    contested_at true false unspent last sol_max (Restarting exchange end since true) kept plea held all h = absurd cc
    contested_at false stays unspent last sol_max (Restarting exchange end since true) kept plea held all h =
        ias_left true address goes none (ias_of kept) (held refl) (all refl refl)
    contested_at gone stays unspent last sol_max (Restarting exchange end since false) kept plea held all h = absurd cc
    contested_at true stays unspent last sol_max (Declining exchange) kept plea held all h =
        after_keep false (keep_by (parting_with true stays)) _ (thinned_leaves false kept (held refl))
    contested_at false stays unspent last sol_max (Declining exchange) kept plea held all h =
        ias_left false address goes none (ias_of kept) (held refl) (all refl refl)

  pub contested_holds : (address : Ip6) (salt : ℕ) (unspent : Bool) (last : Option ℕ) (sol_max : ℕ) (state : State6)
      (kept : Option Lease6Content) (plea : Option PleaContent)
      → GoesBut site e past address → NoFirst → IfSome kept FitsLease6
      → Holds6 site e.moment past (client_with site unspent last sol_max state kept plea)
      → Holds6 site e.moment (e ∷ past)
      (contested_turned address e.moment salt (client_with site unspent last sol_max state kept plea)).client
  unfolding contested_turned
  contested_holds address salt unspent last sol_max state kept plea goes none fits held =
      let before : ClientContent = client_with site unspent last sol_max state kept plea in
      let parting : Parting6 = parting_at (Duplicate address) before in
      contested_at address goes none (turn_of e.moment salt before) parting.goes
      parting.stays unspent last sol_max state kept plea held
      (λ holding stay. kept_stays (Duplicate address) site (stood state) e.moment past kept fits (held holding)
      (subst (λ (s : Scope6). list_any (goes_of (Duplicate address) s (ias_of kept)) (asks_at site) ≡ false)
      (all_scope state holding) stay))
