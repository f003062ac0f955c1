-- Each call of a client keeps what it carries that stands on the kept lease, or may yet stand.
use Rattle.std.proofs.Common.{◌≡◌, ℕ, ◌<◌, Bool, true, false, not, ◌&&◌, List, ◌∷◌, Option, Some, None, refl, sym, ap, subst, ◌∙◌, arith, is_some, max, min, nat_le, IfSome}
use Rattle.std.proofs.lemmas.Bool.{and_parts, both_ways}
use Rattle.std.proofs.lemmas.Bool.Decides.{nat_tests}
use Rattle.std.specs.Prelude.{if◌then◌else◌}
use Rattle.machine.specs.Moment.{is_due}
use Rattle.net_types.proofs.CaseLaws.{gated, split}
use Rattle.net_types.specs.declared.address.Ip6.{Ip6}
use Rattle.v6_message.specs.declared.kind.ServerKind6.{ServerKind6}
use Rattle.v6_message.specs.declared.kind.ServerKind6.TheVariants.{Advertise, Reply}
use Rattle.v6_message.specs.Replies.{Content6}
use Rattle.v6_frames.specs.Spelled.{Sent6}
use Rattle.v6_retrans.specs.declared.parameters.TheConstants.{REBIND}
use Rattle.lease6_text.specs.Bounds.{FitsLease6}
use Rattle.lease6_text.specs.Leases.{Lease6Content}
use Rattle.v6_client.specs.declared.exchange.Exchange6.{Exchange6}
use Rattle.v6_client.specs.declared.states.Answer6.{Answer6}
use Rattle.v6_client.specs.declared.states.Answer6.TheVariants as answer
use Rattle.v6_client.specs.declared.states.Carrier6.TheVariants.{Up, Down}
use Rattle.v6_client.specs.V6Items.declared.scope.Cause6.TheVariants.{Lapse, Duplicate}
use Rattle.v6_client.specs.V6Items.declared.scope.Dates6.{Dates6}
use Rattle.v6_client.specs.declared.states.News6.{News6}
use Rattle.v6_client.specs.declared.states.News6.TheVariants as news
use Rattle.v6_client.specs.V6Items.declared.scope.Parting6.{Parting6}
use Rattle.v6_client.specs.declared.states.State6.{State6}
use Rattle.v6_client.specs.declared.states.State6.TheVariants.{Off, Waiting, Soliciting, Requesting, Bound, Renewing, Rebinding, Restarting, Declining}
use Rattle.v6_client.specs.declared.states.Step6.{Step6}
use Rattle.v6_client.specs.declared.states.Tell6.{Tell6}
use Rattle.v6_client.specs.declared.states.Tell6.TheVariants.{Server, Nobody}
use Rattle.v6_client.specs.declared.turn.Turn6.{Turn6}
use Rattle.v6_client.specs.Answers.{advertise_answer, counts, is_taken, learnt, reply_answer, sol_max_with}
use Rattle.v6_client.specs.Calls.{answer_in, dates_in, due_of, has_origin, parting_begun, stands_at}
use Rattle.v6_client.specs.Clients.{ClientContent, PleaContent, holds, is_at_end, is_restarting, turn_of}
use Rattle.v6_client.specs.Due.{due_row}
use Rattle.v6_client.specs.Exchanges.{again, begun, is_again_due, rand_in}
use Rattle.v6_client.specs.Hearing.{heard_row, is_better, is_kept_offer, is_taken_at_once, replied}
use Rattle.v6_client.specs.Inputs.{begin_row, begins, duplicate_row, release_row, released, stops}
use Rattle.v6_client.specs.Moves.{given_up, lapsed, parting_at}
use Rattle.v6_client.specs.Runs.{Turned6, answered, carrier_turned, contested_turned, hears_turned, rebind_turned, release_turned, rested, stepped, tick_turned}
use Rattle.v6_client.specs.Saying.{lease_server, plea_server}
use Rattle.v6_client.specs.Steps.{emptied, expires, is_last, restarting, restarts, rests, to_waiting, unanswered}
use Rattle.v6_client.specs.Sound.{IsSound}
use Rattle.v6_client.specs.Ticks.{restarting_tick, tick_row}
use Rattle.v6_client.specs.V6Items.Times.{earlier}
use Rattle.lease_evidence.specs.ClientModel.ClientSettings6.{settings6_of}
use Rattle.lease_evidence.specs.EvidenceWords.Entries.{Entry}
use Rattle.lease_evidence.specs.EvidenceWords.Inputs.{Site, StaysOn, has_carrier, is_stopped}
use Rattle.lease6_evidence.specs.Exchanges6.{Seen6, seen6_in, shows6}
use Rattle.lease6_evidence.specs.KeptBasis6.{HearsNoReply}
use Rattle.lease6_evidence.specs.Replies6.{asks_at, message6_at}
use Rattle.lease6_evidence.proofs.Calls6.{by_parts}
use Rattle.lease6_evidence.proofs.ExchangeStates.{On6, Takes6, Watched6, client_with, pruned_kept, stood}
use Rattle.lease6_evidence.proofs.HeardItems6.{no_first, untaken, untaken_kind}
use Rattle.lease6_evidence.proofs.ItemCalls6.{tick_still}
use Rattle.lease6_evidence.proofs.Spoken6.{Talk}
use Rattle.lease6_evidence.proofs.Standing6.{MayStand, Standing6, Stands, StandsIn, first_unheard, may_still, never_stopped, silent_turn, standing_not, standing_on, stands_on, starts}
use Rattle.lease6_evidence.proofs.Steps6.{message_in}
use Rattle.lease6_evidence.proofs.Turns6.{Call6, Begins, Contests, Drops, FitsCall6, Goes6, Hears, Ignores, Rebinds, Releases, Rests, run6}

-- what a client says in a call
abbrev pub said_in : Site → Turned6 → Option Sent6
said_in site turned = message_in site.managed.spec.mac site.duid turned.out

-- ---- where no client stands before, none does after

pub stood_holds : (state : State6) → holds state ≡ false → stood state ≡ false
stood_holds Off h = refl
stood_holds (Waiting due) h = refl
stood_holds (Soliciting exchange offer) h = refl
stood_holds (Requesting exchange) h = refl
stood_holds Bound h = refl
stood_holds (Renewing exchange) h = refl
stood_holds (Rebinding exchange) h = refl
stood_holds (Restarting exchange end since true) h = absurd cc
stood_holds (Restarting exchange end since false) h = refl
stood_holds (Declining exchange) h = refl

abbrev NotStood : Step6 → Type 0
NotStood step = stood step.state ≡ false

tick_not : (turn : Turn6) (dates : Dates6) (parting : Parting6) (state : State6) → stood state ≡ false
    → NotStood (tick_row turn dates parting state)
tick_not turn dates parting state isnt =
    split (holds (tick_row turn dates parting state).state) (λ h. tick_still turn dates parting state h ∙ isnt)
    (λ h. stood_holds (tick_row turn dates parting state).state h)

module _ (turn : Turn6) where
  replied_not : (told : News6) (empty : Step6) (state : State6) (a : Answer6) → NotStood empty → stood state ≡ false
      → NotStood (replied turn told empty state a)
  replied_not told empty state answer.Grants e h = refl
  replied_not told empty state answer.Empties e h = e
  replied_not told empty state answer.Keeps e h = h
  replied_not told empty state answer.Nothing e h = h
  replied_not told empty state (answer.Offer preference) e h = h

  heard_not : (a : Answer6) (state : State6) → stood state ≡ false → NotStood (heard_row turn a state)
  heard_not a Off h = refl
  heard_not a (Waiting due) h = refl
  heard_not (answer.Offer preference) (Soliciting exchange offer) h =
      gated NotStood (is_taken_at_once exchange preference) _ _ refl (gated NotStood (is_better offer preference) _ _ refl refl)
  heard_not answer.Grants (Soliciting exchange offer) h = refl
  heard_not answer.Empties (Soliciting exchange offer) h = refl
  heard_not answer.Keeps (Soliciting exchange offer) h = refl
  heard_not answer.Nothing (Soliciting exchange offer) h = refl
  heard_not a (Requesting exchange) h = replied_not news.Bound (to_waiting turn) (Requesting exchange) a refl refl
  heard_not a Bound h = refl
  heard_not a (Renewing exchange) h = replied_not news.Renew (expires turn) (Renewing exchange) a refl refl
  heard_not a (Rebinding exchange) h = replied_not news.Rebind (expires turn) (Rebinding exchange) a refl refl
  heard_not a (Restarting exchange end since true) h = absurd cc
  heard_not a (Restarting exchange end since false) h =
      replied_not news.Reboot (emptied turn false) (Restarting exchange end since false) a refl refl
  heard_not answer.Keeps (Declining exchange) h = refl
  heard_not answer.Empties (Declining exchange) h = refl
  heard_not answer.Grants (Declining exchange) h = refl
  heard_not answer.Nothing (Declining exchange) h = refl
  heard_not (answer.Offer preference) (Declining exchange) h = refl

  duplicate_not : (parting : Parting6) (state : State6) → stood state ≡ false → NotStood (duplicate_row turn parting state)
  duplicate_not parting Off h = refl
  duplicate_not parting (Waiting due) h = refl
  duplicate_not parting (Soliciting exchange offer) h = refl
  duplicate_not parting (Requesting exchange) h = refl
  duplicate_not parting Bound h = gated NotStood parting.goes _ _ refl refl
  duplicate_not parting (Renewing exchange) h = gated NotStood parting.goes _ _ refl refl
  duplicate_not parting (Rebinding exchange) h = gated NotStood parting.goes _ _ refl refl
  duplicate_not parting (Restarting exchange end since true) h = absurd cc
  duplicate_not parting (Restarting exchange end since false) h = refl
  duplicate_not parting (Declining exchange) h = gated NotStood parting.goes _ _ refl refl

  -- ---- a client that gives back what it holds is off

  stops_off : (tell : Tell6) → (stops turn tell).state ≡ Off
  stops_off Server = refl
  stops_off Nobody = refl

  released_off : (tell : Tell6) (held : Bool) → (released turn tell held).state ≡ Off
  released_off tell held = gated (λ (step : Step6). step.state ≡ Off) held _ _ (stops_off tell) refl

  pub release_off : (tell : Tell6) (held : Bool) (state : State6) → (release_row turn tell held state).state ≡ Off
  release_off tell held Off = refl
  release_off tell held (Waiting due) = refl
  release_off tell held (Soliciting exchange offer) = refl
  release_off tell held (Requesting exchange) = refl
  release_off tell held Bound = released_off tell held
  release_off tell held (Renewing exchange) = released_off tell held
  release_off tell held (Rebinding exchange) = released_off tell held
  release_off tell held (Restarting exchange end since true) = released_off tell held
  release_off tell held (Restarting exchange end since false) = refl
  release_off tell held (Declining exchange) = released_off tell held

  stops_spends : (tell : Tell6) → (stops turn tell).spends ≡ true
  stops_spends Server = refl
  stops_spends Nobody = refl

  released_spends : (tell : Tell6) (held : Bool) → (released turn tell held).spends ≡ true
  released_spends tell held = gated (λ (step : Step6). step.spends ≡ true) held _ _ (stops_spends tell) refl

  release_spends : (tell : Tell6) (held : Bool) (state : State6) → (release_row turn tell held state).spends ≡ true
  release_spends tell held Off = refl
  release_spends tell held (Waiting due) = refl
  release_spends tell held (Soliciting exchange offer) = refl
  release_spends tell held (Requesting exchange) = refl
  release_spends tell held Bound = released_spends tell held
  release_spends tell held (Renewing exchange) = released_spends tell held
  release_spends tell held (Rebinding exchange) = released_spends tell held
  release_spends tell held (Restarting exchange end since true) = released_spends tell held
  release_spends tell held (Restarting exchange end since false) = refl
  release_spends tell held (Declining exchange) = released_spends tell held

-- a step that spends the chance to stand
spent : (fresh spends : Bool) → spends ≡ true → (fresh && not spends) ≡ true → ⊥
spent true true is h = cc
spent false true is h = cc
spent fresh false is h = absurd cc

-- ---- a tick

module _ (site : Site) (past : List Entry) (before at salt : ℕ) where
  abbrev Goes : ClientContent → Step6 → Type 0
  Goes d step = StandsIn site at (said_in site (stepped step None d)) past step.state

  asked_on : (xid end : ℕ) → at < end → Stands site xid end before None past → Stands site xid end at None past
  asked_on xid end early k = record {
    persistent = k.persistent;
    told = k.told;
    up = k.up;
    stays = k.stays;
    asking = k.asking;
    unanswered = k.unanswered;
    says = tt;
    early = early;
  }

  below : (end : ℕ) → nat_le end at ≡ false → at < end
  below end e = grind (arith, nat_tests)

  not_late : (due end : ℕ) (lapse : Option ℕ) → is_due (earlier (Some (min due end)) lapse) at ≡ false → at < end
  not_late due end None e = grind (arith, nat_tests)
  not_late due end (Some first) e = grind (arith, nat_tests)

  module _ (c d : ClientContent) (parting : Parting6) where
    abbrev turn : Turn6
    turn = turn_of at salt c

    restarting_goes : (exchange : Exchange6) (end since : ℕ) → Stands site exchange.xid end before None past
        → Goes d (restarting_tick turn parting exchange end since true)
    restarting_goes exchange end since k =
        gated (Goes d) (is_last parting) _ _ tt (by_end (nat_le end at) refl)
      where
        by_end : (late : Bool) → nat_le end at ≡ late
            → Goes d (if late then unanswered turn true
            else if is_again_due turn exchange then restarting turn (again turn REBIND exchange) end (max since at) true
            else rests turn (Restarting exchange end (max since at) true))
        by_end true is = tt
        by_end false is =
            gated (Goes d) (is_again_due turn exchange) _ _
            (record {
              persistent = k.persistent;
              told = k.told;
              up = k.up;
              stays = k.stays;
              asking = k.asking;
              unanswered = k.unanswered;
              says = record { kind = refl; same_xid = refl };
              early = below end is;
            })
            (asked_on exchange.xid end (below end is) k)

    not_goes : (dates : Dates6) (state : State6) → stood state ≡ false → Goes d (tick_row turn dates parting state)
    not_goes dates state isnt =
        standing_not site at (said_in site (stepped (tick_row turn dates parting state) None d)) past
        (tick_row turn dates parting state).state (tick_not turn dates parting state isnt)

    due_goes : (dates : Dates6) (state : State6) → StandsIn site before None past state → Goes d (tick_row turn dates parting state)
    due_goes dates Off k = not_goes dates Off refl
    due_goes dates (Waiting due) k = not_goes dates (Waiting due) refl
    due_goes dates (Soliciting exchange offer) k = not_goes dates (Soliciting exchange offer) refl
    due_goes dates (Requesting exchange) k = not_goes dates (Requesting exchange) refl
    due_goes dates Bound k = not_goes dates Bound refl
    due_goes dates (Renewing exchange) k = not_goes dates (Renewing exchange) refl
    due_goes dates (Rebinding exchange) k = not_goes dates (Rebinding exchange) refl
    due_goes dates (Restarting exchange end since true) k =
        gated (Goes d) parting.goes _ _ (restarting_goes exchange end since k) (restarting_goes exchange end since k)
    due_goes dates (Restarting exchange end since false) k = not_goes dates (Restarting exchange end since false) refl
    due_goes dates (Declining exchange) k = not_goes dates (Declining exchange) refl

  -- it isn't due
  rests_on : (dates : Dates6) (state : State6) → is_due (due_row dates state) at ≡ false → StandsIn site before None past state
      → StandsIn site at None past state
  rests_on dates Off e k = tt
  rests_on dates (Waiting due) e k = tt
  rests_on dates (Soliciting exchange offer) e k = tt
  rests_on dates (Requesting exchange) e k = tt
  rests_on dates Bound e k = tt
  rests_on dates (Renewing exchange) e k = tt
  rests_on dates (Rebinding exchange) e k = tt
  rests_on dates (Restarting exchange end since true) e k =
      asked_on exchange.xid end (not_late exchange.due end dates.lapse e) k
  rests_on dates (Restarting exchange end since false) e k = tt
  rests_on dates (Declining exchange) e k = tt

  abbrev TickStands : Turned6 → Type 0
  TickStands turned = StandsIn site at (said_in site turned) past turned.client.state

  by_due : (c : ClientContent) → StandsIn site before None past c.state → (due : Bool) → is_due (due_of c) at ≡ due
      → TickStands (if due then stepped (tick_row (turn_of at salt c) (dates_in c) (parting_at (Lapse at) c) c.state) None
      (lapsed at (parting_at (Lapse at) c) c) else rested c)
  by_due c k true is = due_goes c (lapsed at (parting_at (Lapse at) c) c) (parting_at (Lapse at) c) (dates_in c) c.state k
  by_due c k false is = rests_on (dates_in c) c.state is k

  tick_stands : (c : ClientContent) → StandsIn site before None past c.state → TickStands (tick_turned at salt c)
  unfolding tick_turned
  tick_stands c k = by_due c k (is_due (due_of c) at) refl

  -- ---- one that may yet stand

  tick_fresh : (c : ClientContent) → (tick_turned at salt c).client.fresh ≡ true → c.fresh ≡ true
  unfolding tick_turned
  tick_fresh c =
      let step : Step6 = tick_row (turn_of at salt c) (dates_in c) (parting_at (Lapse at) c) c.state in
      gated (λ (turned : Turned6). turned.client.fresh ≡ true → c.fresh ≡ true) (is_due (due_of c) at) _ _
      (gated (λ (d : ClientContent). (d.fresh && not step.spends) ≡ true → c.fresh ≡ true)
      (holds c.state && (parting_at (Lapse at) c).goes && not (is_at_end at c.state)) _ _
      (λ h. (and_parts c.fresh (not step.spends) h).0) (λ h. (and_parts c.fresh (not step.spends) h).0)) (λ h. h)

  abbrev OffTicks : ClientContent → Type 0
  OffTicks c = ((tick_turned at salt c).client.state ≡ Off) × ((tick_turned at salt c).client.kept ≡ c.kept)
      × (said_in site (tick_turned at salt c) ≡ None)

  off_ticks : (c : ClientContent) → OffTicks (record c { state = Off })
  unfolding tick_turned
  off_ticks c = (refl, refl, refl)

  pub tick_standing : (c : ClientContent) → Standing6 site before None past c
      → Standing6 site at (said_in site (tick_turned at salt c)) past (tick_turned at salt c).client
  tick_standing c k = record {
    may = λ fresh.
        let m : MayStand site None past c.state c.kept = k.may (tick_fresh c fresh) in
        let t : OffTicks c = subst (λ (s : State6). OffTicks (record c { state = s })) (sym m.off) (off_ticks c) in
        record { off = t.0; same = t.1 ∙ m.same; stays = m.stays; silent = m.silent; nothing = t.2 };
    stands = tick_stands c k.stands;
  }

-- ---- an input

module _ (site : Site) (e : Entry) (past : List Entry) (salt : ℕ) (said : Option Sent6) where
  -- what is carried after a call
  abbrev After : Turned6 → Type 0
  After turned = Talk site e said (said_in site turned) → Standing6 site e.moment None (e ∷ past) turned.client

  abbrev StandsAfter : Turned6 → Type 0
  StandsAfter turned = Talk site e said (said_in site turned) → StandsIn site e.moment None (e ∷ past) turned.client.state

  rests_standing : (c : ClientContent) → StaysOn site e past → HearsNoReply site e past → Standing6 site e.moment said past c
      → After (rested c)
  rests_standing c stays unheard k talk = record {
    may = λ fresh. may_still site e past said stays c.state c.state c.kept c.kept refl refl talk (k.may fresh);
    stands = standing_on site e past said stays c.state unheard talk k.stands;
  }

  ignores_standing : (c : ClientContent) → c.state ≡ Off → is_stopped past ≡ true → Standing6 site e.moment said past c
      → Standing6 site e.moment None (e ∷ past) c
  ignores_standing c off stopped k = record {
    may = λ fresh. absurd (both_ways (is_stopped past) (never_stopped site past (k.may fresh).stays) stopped);
    stands = subst (λ (s : State6). StandsIn site e.moment None (e ∷ past) s) (sym off) tt;
  }

  -- ---- the carrier

  carried_fresh : (c : ClientContent) → (carrier_turned Up e.moment salt c).client.fresh ≡ true → c.fresh ≡ true
  unfolding carrier_turned
  carried_fresh c =
      let step : Step6 = begin_row (turn_of e.moment salt c) (stands_at e.moment c) (parting_begun e.moment c) c.state in
      gated (λ (d : ClientContent). (d.fresh && not step.spends) ≡ true → c.fresh ≡ true) (stands_at e.moment c) _ _
      (λ h. (and_parts c.fresh (not step.spends) h).0) (λ h. (and_parts c.fresh (not step.spends) h).0)

  off_begins : (c : ClientContent) → (carrier_turned Up e.moment salt (record c { state = Off })).client.fresh ≡ true → ⊥
  unfolding carrier_turned
  off_begins c h = spent _ true refl h

  begin_may : (c : ClientContent) → (c.fresh ≡ true → MayStand site said past c.state c.kept)
      → (carrier_turned Up e.moment salt c).client.fresh ≡ true → ⊥
  begin_may c may fresh =
      subst (λ (s : State6). (carrier_turned Up e.moment salt (record c { state = s })).client.fresh ≡ true → ⊥)
      (sym (may (carried_fresh c fresh)).off) (off_begins c) fresh

  module _ (unspent : Bool) (last : Option ℕ) (sol_max : ℕ) (kept : Option Lease6Content) (plea : Option PleaContent) where
    abbrev here : State6 → ClientContent
    here state = client_with site unspent last sol_max state kept plea

    abbrev turn_here : Turn6
    turn_here = turn_of e.moment salt (here Off)

    abbrev begins_by : Bool → Turned6
    begins_by stands =
        stepped (begins turn_here stands (parting_begun e.moment (here Off))) None
        (if stands then record (here Off) { kept = pruned_kept e.moment (asks_at site) kept } else here Off)

    begins_standing : StaysOn site e past → message6_at site e ≡ None → has_carrier site (e ∷ past) ≡ true
        → (unspent ≡ true → MayStand site said past Off kept) → (stands : Bool) → stands_at e.moment (here Off) ≡ stands
        → StandsAfter (begins_by stands)
    begins_standing stays none up may true is =
        let persistent : Bool = site.managed.conf.flags.persistent in
        let one = and_parts (unspent && persistent && has_origin kept) (parting_begun e.moment (here Off)).stays is in
        let two = and_parts (unspent && persistent) (has_origin kept) one.0 in
        let three = and_parts unspent persistent two.0 in
        let exchange : Exchange6 = begun turn_here REBIND (rand_in turn_here) in
        gated (λ (step : Step6). StandsAfter (stepped (record step { spends = true }) None
        (record (here Off) { kept = pruned_kept e.moment (asks_at site) kept })))
        (parting_begun e.moment (here Off)).stays (restarts turn_here true) (to_waiting turn_here)
        (λ talk. starts site e past said stays exchange.xid _ kept three.1 two.1 up none (record { kind = refl; same_xid = refl })
        talk (may three.0))
        (λ talk. tt)
    begins_standing stays none up may false is =
        gated (λ (step : Step6). StandsAfter (stepped (record step { spends = true }) None (here Off)))
        (parting_begun e.moment (here Off)).stays (restarts turn_here false) (to_waiting turn_here) (λ talk. tt) (λ talk. tt)

    begin_stands : StaysOn site e past → message6_at site e ≡ None → has_carrier site (e ∷ past) ≡ true → (state : State6)
        → (unspent ≡ true → MayStand site said past state kept)
        → StandsIn site e.moment said past state → StandsAfter (carrier_turned Up e.moment salt (here state))
    unfolding carrier_turned
    begin_stands stays none up Off may k = begins_standing stays none up may (stands_at e.moment (here Off)) refl
    begin_stands stays none up (Waiting due) may k = λ talk. tt
    begin_stands stays none up (Soliciting exchange offer) may k = λ talk. tt
    begin_stands stays none up (Requesting exchange) may k = λ talk. tt
    begin_stands stays none up Bound may k = λ talk. tt
    begin_stands stays none up (Renewing exchange) may k = λ talk. tt
    begin_stands stays none up (Rebinding exchange) may k = λ talk. tt
    begin_stands stays none up (Restarting exchange end since true) may k =
        λ talk. standing_on site e past said stays (Restarting exchange end since true) (silent_turn site e past none) talk k
    begin_stands stays none up (Restarting exchange end since false) may k = λ talk. tt
    begin_stands stays none up (Declining exchange) may k = λ talk. tt

    -- ---- another host uses an address

    contested_by : StaysOn site e past → message6_at site e ≡ None → (address : Ip6) (gone left : Bool) (state : State6)
        → StandsIn site e.moment said past state
        → StandsAfter (stepped (duplicate_row (turn_of e.moment salt (here state)) (record { goes = gone; stays = left }) state)
        None (given_up address (record { goes = gone; stays = left }) (here state)))
    contested_by stays none address gone left Off k = λ talk. tt
    contested_by stays none address gone left (Waiting due) k = λ talk. tt
    contested_by stays none address gone left (Soliciting exchange offer) k = λ talk. tt
    contested_by stays none address gone left (Requesting exchange) k = λ talk. tt
    contested_by stays none address true left Bound k = λ talk. tt
    contested_by stays none address false left Bound k = λ talk. tt
    contested_by stays none address true left (Renewing exchange) k = λ talk. tt
    contested_by stays none address false left (Renewing exchange) k = λ talk. tt
    contested_by stays none address true left (Rebinding exchange) k = λ talk. tt
    contested_by stays none address false left (Rebinding exchange) k = λ talk. tt
    contested_by stays none address true true (Restarting exchange end since true) k =
        λ talk. standing_on site e past said stays (Restarting exchange end since true) (silent_turn site e past none) talk k
    contested_by stays none address true false (Restarting exchange end since true) k = λ talk. tt
    contested_by stays none address false left (Restarting exchange end since true) k =
        λ talk. standing_on site e past said stays (Restarting exchange end since true) (silent_turn site e past none) talk k
    contested_by stays none address gone left (Restarting exchange end since false) k = λ talk. tt
    contested_by stays none address true left (Declining exchange) k = λ talk. tt
    contested_by stays none address false left (Declining exchange) k = λ talk. tt

    contest_stands : StaysOn site e past → message6_at site e ≡ None → (address : Ip6) (state : State6)
        → StandsIn site e.moment said past state → StandsAfter (contested_turned address e.moment salt (here state))
    unfolding contested_turned
    contest_stands stays none address state k =
        let parting : Parting6 = parting_at (Duplicate address) (here state) in
        contested_by stays none address parting.goes parting.stays state k

    -- ---- to be rebound at once

    rebind_stands : StaysOn site e past → message6_at site e ≡ None → (state : State6) → StandsIn site e.moment said past state
        → StandsAfter (rebind_turned e.moment salt (here state))
    unfolding rebind_turned
    rebind_stands stays none Off k =
        gated (λ (step : Step6). StandsAfter (stepped (record step { spends = true }) None (here Off)))
        (parting_begun e.moment (here Off)).stays _ _ (λ talk. tt) (λ talk. tt)
    rebind_stands stays none (Waiting due) k = λ talk. tt
    rebind_stands stays none (Soliciting exchange offer) k = λ talk. tt
    rebind_stands stays none (Requesting exchange) k = λ talk. tt
    rebind_stands stays none Bound k = λ talk. tt
    rebind_stands stays none (Renewing exchange) k = λ talk. tt
    rebind_stands stays none (Rebinding exchange) k = λ talk. tt
    rebind_stands stays none (Restarting exchange end since true) k =
        λ talk. standing_on site e past said stays (Restarting exchange end since true) (silent_turn site e past none) talk k
    rebind_stands stays none (Restarting exchange end since false) k = λ talk. tt
    rebind_stands stays none (Declining exchange) k = λ talk. tt

    -- ---- a message

    module _ (message : Content6) (came : message6_at site e ≡ Some message) (goes : Goes6 site e past) (seen : Seen6)
        (fits : IfSome kept FitsLease6) where
      abbrev HeardStands : Turned6 → Type 0
      HeardStands turned = seen6_in site (e ∷ past) ≡ shows6 (said_in site turned) seen → StandsAfter turned

      abbrev OnSeen : State6 → Type 0
      OnSeen state = On6 site state (lease_server kept) (plea_server plea) seen.current past

      -- it isn't taken
      unheard_stands : (exchange : Exchange6) (end since : ℕ) → OnSeen (Restarting exchange end since true)
          → (Takes6 (here (Restarting exchange end since true)) message → ⊥)
          → Stands site exchange.xid end e.moment said past
          → seen6_in site (e ∷ past) ≡ seen → Talk site e said None → Stands site exchange.xid end e.moment None (e ∷ past)
      unheard_stands exchange end since on never k same talk =
          stands_on site e past said goes.stays exchange.xid end
          (first_unheard site e past (no_first site e past message came goes unspent last sol_max kept plea seen fits salt
          (Restarting exchange end since true) refl on same never) k.unanswered) talk k

      restart_replied : (exchange : Exchange6) (end since : ℕ) → OnSeen (Restarting exchange end since true)
          → Stands site exchange.xid end e.moment said past → (taken : Bool)
          → is_taken (here (Restarting exchange end since true)) message ≡ taken → (granted : Option Lease6Content)
          → HeardStands (stepped (heard_row (turn_of e.moment salt (here (Restarting exchange end since true)))
          (reply_answer false taken kept granted) (Restarting exchange end since true)) granted
          (here (Restarting exchange end since true)))
      restart_replied exchange end since on k true is None same talk = tt
      restart_replied exchange end since on k true is (Some lease) same talk = tt
      restart_replied exchange end since on k false is granted same talk =
          unheard_stands exchange end since on
          (untaken site e past message came goes unspent last sol_max kept plea seen fits salt
          (Restarting exchange end since true) is) k same talk

      answered_not : (kind : ServerKind6) (state : State6) → stood state ≡ false
          → HeardStands (answered e.moment salt message kind (here state))
      answered_not Advertise state isnt same talk =
          standing_not site e.moment None (e ∷ past) _
          (heard_not (turn_of e.moment salt (here state)) (advertise_answer (here state) message) state isnt)
      answered_not Reply state isnt same talk =
          standing_not site e.moment None (e ∷ past) _
          (heard_not (turn_of e.moment salt (here state)) (answer_in e.moment (here state) message) state isnt)

      restart_by : (kind : ServerKind6) → message.kind ≡ kind → (exchange : Exchange6) (end since : ℕ)
          → OnSeen (Restarting exchange end since true) → Stands site exchange.xid end e.moment said past
          → HeardStands (answered e.moment salt message kind (here (Restarting exchange end since true)))
      restart_by Reply is exchange end since on k same talk = restart_replied exchange end since on k _ refl _ same talk
      restart_by Advertise is exchange end since on k same talk =
          unheard_stands exchange end since on
          (untaken_kind site e past message came goes unspent last sol_max kept plea seen fits salt
          (Restarting exchange end since true) is) k same talk

      heard_by : (kind : ServerKind6) → message.kind ≡ kind → (state : State6) → OnSeen state
          → StandsIn site e.moment said past state → HeardStands (answered e.moment salt message kind (here state))
      heard_by kind is Off on k = answered_not kind Off refl
      heard_by kind is (Waiting due) on k = answered_not kind (Waiting due) refl
      heard_by kind is (Soliciting exchange offer) on k = answered_not kind (Soliciting exchange offer) refl
      heard_by kind is (Requesting exchange) on k = answered_not kind (Requesting exchange) refl
      heard_by kind is Bound on k = answered_not kind Bound refl
      heard_by kind is (Renewing exchange) on k = answered_not kind (Renewing exchange) refl
      heard_by kind is (Rebinding exchange) on k = answered_not kind (Rebinding exchange) refl
      heard_by kind is (Restarting exchange end since true) on k = restart_by kind is exchange end since on k
      heard_by kind is (Restarting exchange end since false) on k = answered_not kind (Restarting exchange end since false) refl
      heard_by kind is (Declining exchange) on k = answered_not kind (Declining exchange) refl

      ignored_by : (state : State6) → OnSeen state → counts (here state) message ≡ false
          → StandsIn site e.moment said past state → HeardStands (rested (here state))
      ignored_by Off on not k same talk = tt
      ignored_by (Waiting due) on not k same talk = tt
      ignored_by (Soliciting exchange offer) on not k same talk = tt
      ignored_by (Requesting exchange) on not k same talk = tt
      ignored_by Bound on not k same talk = tt
      ignored_by (Renewing exchange) on not k same talk = tt
      ignored_by (Rebinding exchange) on not k same talk = tt
      ignored_by (Restarting exchange end since true) on not k same talk =
          unheard_stands exchange end since on
          (λ t. both_ways (counts (here (Restarting exchange end since true)) message) not t.counted) k same talk
      ignored_by (Restarting exchange end since false) on not k same talk = tt
      ignored_by (Declining exchange) on not k same talk = tt

  -- ---- what comes in

  module _ (message : Content6) (came : message6_at site e ≡ Some message) (goes : Goes6 site e past) (seen : Seen6) where
    hear_stands : (unspent : Bool) (last : Option ℕ) (sol_max : ℕ) (kept : Option Lease6Content) (plea : Option PleaContent)
        → IfSome kept FitsLease6 → (state : State6)
        → On6 site state (lease_server kept) (plea_server plea) seen.current past → StandsIn site e.moment said past state
        → seen6_in site (e ∷ past)
        ≡ shows6 (said_in site (hears_turned e.moment salt message (client_with site unspent last sol_max state kept plea))) seen
        → StandsAfter (hears_turned e.moment salt message (client_with site unspent last sol_max state kept plea))
    unfolding hears_turned
    hear_stands unspent last sol_max kept plea fits state on k =
        by_count (counts (client_with site unspent last sol_max state kept plea) message) refl
      where
        by_count : (counting : Bool) → counts (client_with site unspent last sol_max state kept plea) message ≡ counting
            → seen6_in site (e ∷ past)
            ≡ shows6 (said_in site (if counting then answered e.moment salt message message.kind
            (learnt message.sol_max (client_with site unspent last sol_max state kept plea))
            else rested (client_with site unspent last sol_max state kept plea))) seen
            → StandsAfter (if counting then answered e.moment salt message message.kind
            (learnt message.sol_max (client_with site unspent last sol_max state kept plea))
            else rested (client_with site unspent last sol_max state kept plea))
        by_count true is =
            heard_by unspent last (sol_max_with message.sol_max sol_max) kept plea message came goes seen fits message.kind refl
            state on k
        by_count false is = ignored_by unspent last sol_max kept plea message came goes seen fits state on is k

    answered_fresh : (kind : ServerKind6) (c : ClientContent) → (answered e.moment salt message kind c).client.fresh ≡ true
        → c.fresh ≡ true
    answered_fresh Advertise c =
        let step : Step6 = heard_row (turn_of e.moment salt c) (advertise_answer c message) c.state in
        gated (λ (d : ClientContent). (d.fresh && not step.spends) ≡ true → c.fresh ≡ true)
        (is_kept_offer (advertise_answer c message) c.state) _ _
        (λ h. (and_parts c.fresh (not step.spends) h).0) (λ h. (and_parts c.fresh (not step.spends) h).0)
    answered_fresh Reply c = λ h. (and_parts c.fresh _ h).0

    heard_fresh : (c : ClientContent) → (hears_turned e.moment salt message c).client.fresh ≡ true → c.fresh ≡ true
    unfolding hears_turned
    heard_fresh c =
        gated (λ (turned : Turned6). turned.client.fresh ≡ true → c.fresh ≡ true) (counts c message) _ _
        (answered_fresh message.kind (learnt message.sol_max c)) (λ h. h)

    off_hears : (c : ClientContent) → hears_turned e.moment salt message (record c { state = Off }) ≡ rested (record c { state = Off })
    unfolding hears_turned
    off_hears c = refl

    heard_off : (c : ClientContent) → c.state ≡ Off → hears_turned e.moment salt message c ≡ rested c
    heard_off c off =
        subst (λ (s : State6). hears_turned e.moment salt message (record c { state = s }) ≡ rested (record c { state = s }))
        (sym off) (off_hears c)

    hears_standing : (c : ClientContent) → Watched6 site c seen past → IsSound c → Standing6 site e.moment said past c
        → seen6_in site (e ∷ past) ≡ shows6 (said_in site (hears_turned e.moment salt message c)) seen
        → After (hears_turned e.moment salt message c)
    hears_standing c w sound k same talk = record {
      may = λ fresh.
          let m : MayStand site said past c.state c.kept = k.may (heard_fresh c fresh) in
          let is : hears_turned e.moment salt message c ≡ rested c = heard_off c m.off in
          may_still site e past said goes.stays c.state _ c.kept _ (ap (λ (t : Turned6). t.client.state) is)
          (ap (λ (t : Turned6). t.client.kept) is) (subst (λ (t : Turned6). Talk site e said (said_in site t)) is talk) m;
      stands =
          by_parts site
          (λ (d : ClientContent). Watched6 site d seen past → IsSound d → StandsIn site e.moment said past d.state
          → seen6_in site (e ∷ past) ≡ shows6 (said_in site (hears_turned e.moment salt message d)) seen
          → StandsAfter (hears_turned e.moment salt message d)) c w.settings
          (λ w s k same talk. hear_stands c.fresh c.last c.sol_max c.kept c.plea s.kept c.state w.follows.on k same talk)
          w sound k.stands same talk;
    }

  -- ---- the other inputs

  begins_after : (c : ClientContent) → c.settings ≡ settings6_of site.duid site.managed → StaysOn site e past
      → message6_at site e ≡ None → has_carrier site (e ∷ past) ≡ true → Standing6 site e.moment said past c
      → After (carrier_turned Up e.moment salt c)
  begins_after c same stays none up k talk = record {
    may = λ fresh. absurd (begin_may c k.may fresh);
    stands =
        by_parts site
        (λ (d : ClientContent). (d.fresh ≡ true → MayStand site said past d.state d.kept)
        → StandsIn site e.moment said past d.state → StandsAfter (carrier_turned Up e.moment salt d)) c same
        (λ may k talk. begin_stands c.fresh c.last c.sol_max c.kept c.plea stays none up c.state may k talk)
        k.may k.stands talk;
  }

  drops_after : (c : ClientContent) → Standing6 site e.moment None (e ∷ past) (carrier_turned Down e.moment salt c).client
  unfolding carrier_turned
  drops_after c = record { may = λ fresh. absurd (spent c.fresh true refl fresh); stands = tt }

  releases_after : (tell : Tell6) (c : ClientContent)
      → Standing6 site e.moment None (e ∷ past) (release_turned tell e.moment salt c).client
  unfolding release_turned
  releases_after tell c =
      let turn : Turn6 = turn_of e.moment salt c in
      record {
        may = λ fresh. absurd (spent c.fresh (release_row turn tell (is_some c.kept) c.state).spends
            (release_spends turn tell (is_some c.kept) c.state) fresh);
        stands = subst (λ (s : State6). StandsIn site e.moment None (e ∷ past) s)
            (sym (release_off turn tell (is_some c.kept) c.state)) tt;
      }

  contested_fresh : (address : Ip6) (c : ClientContent) → (contested_turned address e.moment salt c).client.fresh ≡ true
      → c.fresh ≡ true
  unfolding contested_turned
  contested_fresh address c =
      let parting : Parting6 = parting_at (Duplicate address) c in
      let step : Step6 = duplicate_row (turn_of e.moment salt c) parting c.state in
      gated (λ (d : ClientContent). (d.fresh && not step.spends) ≡ true → c.fresh ≡ true) (holds c.state && parting.goes) _ _
      (gated (λ (d : ClientContent). (d.fresh && not step.spends) ≡ true → c.fresh ≡ true) (is_restarting c.state) _ _
      (λ h. (and_parts c.fresh (not step.spends) h).0) (λ h. (and_parts c.fresh (not step.spends) h).0))
      (λ h. (and_parts c.fresh (not step.spends) h).0)

  abbrev OffContests : (address : Ip6) → ClientContent → Type 0
  OffContests address c = ((contested_turned address e.moment salt c).client.state ≡ Off)
      × ((contested_turned address e.moment salt c).client.kept ≡ c.kept)
      × (said_in site (contested_turned address e.moment salt c) ≡ None)

  off_contests : (address : Ip6) (c : ClientContent) → OffContests address (record c { state = Off })
  unfolding contested_turned
  off_contests address c = (refl, refl, refl)

  contested_after : (address : Ip6) (c : ClientContent) → c.settings ≡ settings6_of site.duid site.managed
      → StaysOn site e past → message6_at site e ≡ None → Standing6 site e.moment said past c
      → After (contested_turned address e.moment salt c)
  contested_after address c same stays none k talk = record {
    may = λ fresh.
        let m : MayStand site said past c.state c.kept = k.may (contested_fresh address c fresh) in
        let t : OffContests address c =
        subst (λ (s : State6). OffContests address (record c { state = s })) (sym m.off) (off_contests address c) in
        may_still site e past said stays c.state _ c.kept _ (t.0 ∙ sym m.off) t.1
        (subst (λ (s : Option Sent6). Talk site e said s) t.2 talk) m;
    stands =
        by_parts site
        (λ (d : ClientContent). StandsIn site e.moment said past d.state
        → StandsAfter (contested_turned address e.moment salt d)) c same
        (λ k talk. contest_stands c.fresh c.last c.sol_max c.kept c.plea stays none address c.state k talk) k.stands talk;
  }

  rebound_fresh : (c : ClientContent) → (rebind_turned e.moment salt c).client.fresh ≡ true → c.fresh ≡ true
  unfolding rebind_turned
  rebound_fresh c h = (and_parts c.fresh _ h).0

  off_rebinds : (c : ClientContent) → (rebind_turned e.moment salt (record c { state = Off })).client.fresh ≡ true → ⊥
  unfolding rebind_turned
  off_rebinds c h = spent c.fresh true refl h

  rebinds_after : (c : ClientContent) → c.settings ≡ settings6_of site.duid site.managed → StaysOn site e past
      → message6_at site e ≡ None → Standing6 site e.moment said past c
      → After (rebind_turned e.moment salt c)
  rebinds_after c same stays none k talk = record {
    may = λ fresh. absurd (subst
        (λ (s : State6). (rebind_turned e.moment salt (record c { state = s })).client.fresh ≡ true → ⊥)
        (sym (k.may (rebound_fresh c fresh)).off) (off_rebinds c) fresh);
    stands =
        by_parts site
        (λ (d : ClientContent). StandsIn site e.moment said past d.state → StandsAfter (rebind_turned e.moment salt d)) c same
        (λ k talk. rebind_stands c.fresh c.last c.sol_max c.kept c.plea stays none c.state k talk) k.stands talk;
  }

  -- ---- any call

  -- an interface that was told to stop
  pub record IsHalted (c : ClientContent) : Type 0 where
    pub off : c.state ≡ Off
    pub stopped : is_stopped past ≡ true

  pub call_standing : (call : Call6) → FitsCall6 site e past call → (seen : Seen6) (c : ClientContent) → Watched6 site c seen past
      → IsSound c → (call ≡ Ignores → IsHalted c) → Standing6 site e.moment said past c
      → seen6_in site (e ∷ past) ≡ shows6 (said_in site (run6 call e.moment salt c)) seen
      → After (run6 call e.moment salt c)
  call_standing Ignores fit seen c w sound halted k same talk =
      let h : IsHalted c = halted refl in ignores_standing c h.off h.stopped k
  call_standing Rests fit seen c w sound halted k same talk =
      rests_standing c fit.0.stays (silent_turn site e past fit.1) k talk
  call_standing (Hears message) fit seen c w sound halted k same talk =
      hears_standing message fit.1 fit.0 seen c w sound k same talk
  call_standing Begins fit seen c w sound halted k same talk =
      begins_after c w.settings fit.0.stays fit.1 fit.2 k talk
  call_standing Drops fit seen c w sound halted k same talk = drops_after c
  call_standing (Contests address) fit seen c w sound halted k same talk =
      contested_after address c w.settings fit.0.stays fit.1 k talk
  call_standing (Releases tell) fit seen c w sound halted k same talk = releases_after tell c
  call_standing Rebinds fit seen c w sound halted k same talk = rebinds_after c w.settings fit.0.stays fit.1 k talk
