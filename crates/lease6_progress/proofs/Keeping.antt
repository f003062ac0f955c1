-- A client that holds a lease that lasts, when its moment may have come.
use Rattle.std.proofs.Common.{◌≡◌, ℕ, ◌+◌, ◌<◌, ◌≤◌, ◌/◌, ◌%◌, ◌^◌, min, max, Bool, true, false, cond, not, ◌&&◌, List, Option, Some, None, nat_le, refl, sym, ap, subst, ◌∙◌, arith}
use Rattle.std.proofs.lemmas.Bool.Decides.{nat_tests}
use Rattle.std.proofs.lemmas.Bool.{and_parts, both_ways, cond_both, eq-eqb, not_from_true}
use Rattle.std.specs.Prelude.{◌==◌, option_map}
use Rattle.machine.specs.Moment.{is_due}
use Rattle.net_types.proofs.CaseLaws.{split}
use Rattle.net_types.specs.declared.interface.IfIndex.{IfIndex}
use Rattle.v6_message.specs.declared.kind.Kind6.{Kind6}
use Rattle.v6_message.specs.declared.kind.Kind6.TheVariants as kind
use Rattle.v6_message.specs.Requests.{AskedContent}
use Rattle.lease6_text.specs.Leases.{IaLeaseContent, Lease6Content}
use Rattle.v6_client.specs.declared.exchange.Exchange6.{Exchange6}
use Rattle.v6_client.specs.V6Items.declared.scope.Cause6.TheVariants.{Lapse}
use Rattle.v6_client.specs.V6Items.declared.scope.Dates6.{Dates6}
use Rattle.v6_client.specs.V6Items.declared.scope.Parting6.{Parting6}
use Rattle.v6_client.specs.V6Items.declared.scope.Scope6.TheVariants as scope
use Rattle.v6_client.specs.declared.states.State6.{State6}
use Rattle.v6_client.specs.declared.states.State6.TheVariants.{Off, Waiting, Soliciting, Requesting, Bound, Renewing, Rebinding, Restarting, Declining}
use Rattle.v6_client.specs.declared.states.Step6.{Step6}
use Rattle.v6_client.specs.declared.turn.Turn6.{Turn6}
use Rattle.v6_client.specs.V6Items.Asking.{ias_asked}
use Rattle.v6_client.specs.Calls.{dates_in, due_of}
use Rattle.v6_client.specs.Clients.{ClientContent, PleaContent, holds, is_at_end, turn_of}
use Rattle.v6_client.specs.Exchanges.{is_again_due, new_xid, other_than, xid_drawn}
use Rattle.v6_client.specs.V6Items.Items.{without}
use Rattle.v6_client.specs.Moves.{lapsed, lease_with, parting_at, plea_lapsed}
use Rattle.v6_client.specs.Runs.{Turned6, stepped, tick_turned}
use Rattle.v6_client.specs.Saying.{SpokenContent, spoken_by}
use Rattle.v6_client.specs.Settings.{SettingsContent}
use Rattle.v6_client.specs.Steps.{is_last, rebinds, renews}
use Rattle.v6_client.specs.Ticks.{bound_tick, rebinding_tick, renewing_tick, tick_row}
use Rattle.v6_client.specs.Times.{elapsed}
use Rattle.v6_client.specs.V6Items.Times.{earlier}
use Rattle.lease6_progress.specs.GoingWell.{Answered, EachQuestion, RebindsAlone, NotAfter, Serves}
use Rattle.lease6_progress.specs.Questions.{Question, asked_by, new_question}
use Rattle.lease6_progress.specs.Staying.{IsAhead, IsBefore, IsRenewedInTime, IsValidUntil, asked_when, has_valid}
use Rattle.lease6_progress.proofs.Stages.{client_of, further, in_time, question_of}
use Rattle.lease6_progress.proofs.Validity.{IsStill, stays_valid, still_ahead, valid_after, valid_now}

-- ---- how far it may be

-- nothing is asked
pub record Rests (now : ℕ) (lease : Lease6Content) (pending : Option Question) : Type 0 where
  pub t1_ahead : IsAhead now lease.t1
  pub t2_ahead : IsAhead now lease.t2
  pub none : pending ≡ None

-- a message of the exchange is pending
pub record Asks (k : Kind6) (server : Option (List ℕ)) (exchange : Exchange6) (pending : Option Question) : Type 0 where
  pub elapsed : ℕ
  pub ias : List AskedContent
  pub asked : ℕ
  pub is : pending ≡ Some (question_of k exchange.xid elapsed server false ias asked)

-- and was said for the first time by a moment at which it is to be
pub record AsksInTime (wait now : ℕ) (when : Option ℕ) (k : Kind6) (server : Option (List ℕ)) (exchange : Exchange6) (pending : Option Question)
    : Type 0 where
  pub asks : Asks k server exchange pending
  pub due : ℕ
  pub when_is : when ≡ Some due
  pub in_time : asks.asked ≤ due
  pub not_yet : now ≤ asks.asked + wait

-- or nobody answers it
pub record AsksInVain (now : ℕ) (last : Option ℕ) (lease : Lease6Content) (exchange : Exchange6) (pending : Option Question) : Type 0 where
  pub asks : Asks kind.Renew (Some lease.server) exchange pending
  pub last_is : last ≡ Some exchange.xid
  pub t2_ahead : IsAhead now lease.t2

abbrev pub Renews : Answered → (wait now : ℕ) → Option ℕ → Lease6Content → Exchange6 → Option Question → Type 0
Renews EachQuestion wait now last lease exchange pending = AsksInTime wait now lease.t1 kind.Renew (Some lease.server) exchange pending
Renews RebindsAlone wait now last lease exchange pending = AsksInVain now last lease exchange pending

abbrev pub Rebinds : Answered → (wait now : ℕ) → Lease6Content → Exchange6 → Option Question → Type 0
Rebinds EachQuestion wait now lease exchange pending = ⊥
Rebinds RebindsAlone wait now lease exchange pending = AsksInTime wait now lease.t2 kind.Rebind None exchange pending

abbrev pub Stage : Answered → (wait now : ℕ) → Option ℕ → Lease6Content → State6 → Option Question → Type 0
Stage answered wait now last lease Off pending = ⊥
Stage answered wait now last lease (Waiting due) pending = ⊥
Stage answered wait now last lease (Soliciting exchange offer) pending = ⊥
Stage answered wait now last lease (Requesting exchange) pending = ⊥
Stage answered wait now last lease Bound pending = Rests now lease pending
Stage answered wait now last lease (Renewing exchange) pending = Renews answered wait now last lease exchange pending
Stage answered wait now last lease (Rebinding exchange) pending = Rebinds answered wait now lease exchange pending
Stage answered wait now last lease (Restarting exchange end since stands) pending = ⊥
Stage answered wait now last lease (Declining exchange) pending = ⊥

-- a client that holds a lease that lasts
pub record Firm (settings : SettingsContent) (answered : Answered) (wait now : ℕ) (c : ClientContent) (pending : Option Question) : Type 0 where
  pub lease : Lease6Content
  pub kept : c.kept ≡ Some lease
  pub renewed : IsRenewedInTime answered wait lease
  pub valid : IsValidUntil settings.asks wait (asked_when answered lease) lease.ias
  pub stage : Stage answered wait now c.last lease c.state pending

-- ---- moments

sooner_first : (first second : Option ℕ) (last at : ℕ) → NotAfter (earlier first second) last at → NotAfter first last at
sooner_first None second last at h = tt
sooner_first (Some a) None last at h = h
sooner_first (Some a) (Some b) last at h = nearer a b last at h
  where
    nearer : (a b last at : ℕ) → at ≤ max (min a b) last → at ≤ max a last
    nearer a b last at h = grind arith

sooner_second : (first second : Option ℕ) (last at : ℕ) → NotAfter (earlier first second) last at → NotAfter second last at
sooner_second None second last at h = h
sooner_second (Some a) None last at h = tt
sooner_second (Some a) (Some b) last at h = nearer a b last at h
  where
    nearer : (a b last at : ℕ) → at ≤ max (min a b) last → at ≤ max b last
    nearer a b last at h = grind arith

ahead_so : (when : Option ℕ) (last at : ℕ) → NotAfter when last at → IsAhead last when → IsAhead at when
ahead_so None last at prompt h = tt
ahead_so (Some due) last at prompt h = in_time due last at prompt h

-- a moment that has come
record IsCome (when : Option ℕ) (at : ℕ) : Type 0 where
  pub due : ℕ
  pub is : when ≡ Some due

come : (when : Option ℕ) (at : ℕ) → is_due when at ≡ true → IsCome when at
come None at h = absurd cc
come (Some due) at h = record { due = due; is = refl }

overtaken : (first second wait at : ℕ) → first + wait < second → at ≤ first + wait → nat_le second at ≡ true → ⊥
overtaken first second wait at before le come = grind (arith, nat_tests)

-- T2 isn't come while a RENEW may still be answered
no_t2 : (t1 t2 : Option ℕ) (wait at : ℕ) → IsBefore wait t1 t2 → IsStill at wait t1 → is_due t2 at ≡ true → ⊥
no_t2 t1 None wait at before still due = cc
no_t2 None (Some second) wait at before still due = before
no_t2 (Some first) (Some second) wait at before still due = overtaken first second wait at before still due

pub still_asked : (at asked wait due : ℕ) → at ≤ asked + wait → asked ≤ due → at ≤ due + wait
still_asked at asked wait due le h = omega arith

-- ---- transaction ids

other_xid : (xid last : ℕ) → xid < 2 ^ 24 → (other_than (Some last) xid == last) ≡ false
other_xid xid last small =
    split (last == xid)
    (λ e. rw e (next xid last small e)) (λ e. rw e (unlike xid last e))
  where
    next : (xid last : ℕ) → xid < 2 ^ 24 → (last == xid) ≡ true → ((xid + 1) % 2 ^ 24 == last) ≡ false
    next xid last small e = grind (arith, nat_tests)

    unlike : (xid last : ℕ) → (last == xid) ≡ false → (xid == last) ≡ false
    unlike xid last e = grind (arith, nat_tests)

drawn_xid : (salt : ℕ) (iface : IfIndex) (last : ℕ) → (xid_drawn salt iface (Some last) == last) ≡ false
drawn_xid salt iface last = other_xid ((salt / 2 ^ 32 + iface.number) % 2 ^ 24) last (omega arith)

fresh_xid : (turn : Turn6) (xid : ℕ) → turn.last ≡ Some xid → (new_xid turn == xid) ≡ false
fresh_xid turn xid is =
    subst (λ (last : Option ℕ). (xid_drawn turn.salt turn.site.iface.index last == xid) ≡ false) (sym is)
    (drawn_xid turn.salt turn.site.iface.index xid)

not_both : (b : Bool) → b ≡ true → not b ≡ true → ⊥
not_both b t n = both_ways (not b) (not_from_true b t) n

-- ---- ticks

module _ (settings : SettingsContent) (wait at salt : ℕ) (last : Option ℕ) (sol_max : ℕ) (plea : Option PleaContent) (unspent : Bool)
    (lease : Lease6Content) (now : ℕ) (pending : Option Question) where
  abbrev client : State6 → Option Lease6Content → Option PleaContent → ClientContent
  client state kept plead = client_of settings last sol_max state kept plead unspent

  abbrev holding : State6 → ClientContent
  holding state = client state (Some lease) plea

  abbrev turn : State6 → Turn6
  turn state = turn_of at salt (holding state)

  abbrev parting : State6 → Parting6
  parting state = parting_at (Lapse at) (holding state)

  abbrev dates : State6 → Dates6
  dates state = dates_in (holding state)

  abbrev After : Answered → Turned6 → Type 0
  After answered turned = Firm settings answered wait at turned.client (asked_by at turned.out.say pending)

  -- what is valid is left
  abbrev LiveOn : List IaLeaseContent → Type 0
  LiveOn more = (later : ℕ) → at ≤ later → has_valid settings.asks later lease.ias ≡ true → has_valid settings.asks later more ≡ true

  lapse_cases : (state : State6) (P : ClientContent → Type 0)
      → ((more : List IaLeaseContent) (plead : Option PleaContent) → LiveOn more → P (client state (Some (lease_with more lease)) plead))
      → P (lapsed at (parting state) (holding state))
  lapse_cases state P each =
      cond_both (holds state && (parting state).goes && not (is_at_end at state)) _ _ P
      (λ goes.
      cond_both (parting state).stays _ _ (λ (kept : Option Lease6Content). P (client state kept (option_map (plea_lapsed at lease.ias) plea)))
      (λ e. each (without (Lapse at) lease.ias) (option_map (plea_lapsed at lease.ias) plea)
      (λ later le h. stays_valid settings.asks lease.ias at later le h))
      (λ e. each lease.ias (option_map (plea_lapsed at lease.ias) plea) (λ later le h. h)))
      (λ stays. each lease.ias plea (λ later le h. h))

  -- a RENEW or a REBIND that is said now, of a client without what is over
  abbrev said_now : Kind6 → (xid began : ℕ) → (more : List IaLeaseContent) → Option PleaContent → SpokenContent
  said_now k xid began more plead =
      spoken_by settings.site.rapid scope.All settings.asks (Some (lease_with more lease)) plead
      (record { kind = k; xid = xid; elapsed = elapsed began at })

  -- ---- where each question is answered

  module _ (renewed : IsBefore wait lease.t1 lease.t2) (valid : IsValidUntil settings.asks wait lease.t1 lease.ias) where
    renew_now : (still : IsStill at wait lease.t1) → IsAhead at lease.t1 → pending ≡ None → (more : List IaLeaseContent) (plead : Option PleaContent)
        → LiveOn more → is_due lease.t1 at ≡ true
        → After EachQuestion (stepped (renews (turn Bound)) None (client Bound (Some (lease_with more lease)) plead))
    renew_now still ahead none more plead live due =
        let d : IsCome lease.t1 at = come lease.t1 at due in
        record {
          lease = lease_with more lease;
          kept = refl;
          renewed = renewed;
          valid = valid_after settings.asks wait lease.t1 lease.ias more at still live valid;
          stage = record {
            asks = record {
              elapsed = elapsed at at;
              ias = ias_asked scope.All more settings.asks;
              asked = at;
              is = ap (λ (o : Option Question). asked_by at (Some (said_now kind.Renew (new_xid (turn Bound)) at more plead)) o) none;
            };
            due = d.due;
            when_is = d.is;
            in_time = subst (IsAhead at) d.is ahead;
            not_yet = further at wait;
          };
        }

    pub each_bound : Rests now lease pending → NotAfter (due_of (holding Bound)) now at → After EachQuestion (tick_turned at salt (holding Bound))
    unfolding tick_turned
    each_bound r prompt =
        let t1_ahead : IsAhead at lease.t1 = ahead_so lease.t1 now at (sooner_first lease.t1 _ now at prompt) r.t1_ahead in
        let t2_ahead : IsAhead at lease.t2 =
        ahead_so lease.t2 now at (sooner_first lease.t2 _ now at (sooner_second lease.t1 _ now at prompt)) r.t2_ahead in
        let still : IsStill at wait lease.t1 = still_ahead at wait lease.t1 t1_ahead in
        let some : has_valid settings.asks at lease.ias ≡ true = valid_now settings.asks wait lease.t1 lease.ias at still valid in
        cond_both (is_due (due_of (holding Bound)) at) _ _ (After EachQuestion)
        (λ due. lapse_cases Bound (λ (c : ClientContent). After EachQuestion (stepped (tick_row (turn Bound) (dates Bound) (parting Bound) Bound) None c))
        (λ more plead live.
        let row : After EachQuestion (stepped (bound_tick (turn Bound) (dates Bound) (parting Bound)) None (client Bound (Some
        (lease_with more lease)) plead)) =
        cond_both (is_last (parting Bound)) _ _
        (λ (step : Step6). After EachQuestion (stepped step None (client Bound (Some (lease_with more lease)) plead)))
        (λ gone. absurd (not_both (parting Bound).stays some (and_parts (parting Bound).goes (not (parting Bound).stays) gone).1))
        (λ left. cond_both (is_due lease.t2 at) _ _
        (λ (step : Step6). After EachQuestion (stepped step None (client Bound (Some (lease_with more lease)) plead)))
        (λ t2. absurd (no_t2 lease.t1 lease.t2 wait at renewed still t2))
        (λ no. cond_both (is_due lease.t1 at) _ _
        (λ (step : Step6). After EachQuestion (stepped step None (client Bound (Some (lease_with more lease)) plead)))
        (λ t1. renew_now still t1_ahead r.none more plead live t1)
        (λ none. record {
          lease = lease_with more lease;
          kept = refl;
          renewed = renewed;
          valid = valid_after settings.asks wait lease.t1 lease.ias more at still live valid;
          stage = record { t1_ahead = t1_ahead; t2_ahead = t2_ahead; none = r.none };
        }))) in
        cond_both (parting Bound).goes _ _
        (λ (step : Step6). After EachQuestion (stepped step None (client Bound (Some (lease_with more lease)) plead))) (λ g. row) (λ g. row)))
        (λ early. record {
          lease = lease;
          kept = refl;
          renewed = renewed;
          valid = valid;
          stage = record { t1_ahead = t1_ahead; t2_ahead = t2_ahead; none = r.none };
        })

    pub each_renewing : (exchange : Exchange6) → AsksInTime wait now lease.t1 kind.Renew (Some lease.server) exchange pending
        → Serves EachQuestion wait pending at → After EachQuestion (tick_turned at salt (holding (Renewing exchange)))
    unfolding tick_turned
    each_renewing exchange r served =
        let le : at ≤ r.asks.asked + wait = (subst (λ (o : Option Question). Serves EachQuestion wait o at) r.asks.is served) refl in
        let still : IsStill at wait lease.t1 = subst (IsStill at wait) (sym r.when_is) (still_asked at r.asks.asked wait r.due le r.in_time) in
        let some : has_valid settings.asks at lease.ias ≡ true = valid_now settings.asks wait lease.t1 lease.ias at still valid in
        let state : State6 = Renewing exchange in
        let question : Question = question_of kind.Renew exchange.xid r.asks.elapsed (Some lease.server) false r.asks.ias r.asks.asked in
        cond_both (is_due (due_of (holding state)) at) _ _ (After EachQuestion)
        (λ due. lapse_cases state (λ (c : ClientContent). After EachQuestion (stepped (tick_row (turn state) (dates state) (parting state) state) None c))
        (λ more plead live.
        let row : After EachQuestion (stepped (renewing_tick (turn state) (dates state) (parting state) exchange) None (client state (Some
        (lease_with more lease)) plead)) =
        cond_both (is_last (parting state)) _ _
        (λ (step : Step6). After EachQuestion (stepped step None (client state (Some (lease_with more lease)) plead)))
        (λ gone. absurd (not_both (parting state).stays some (and_parts (parting state).goes (not (parting state).stays) gone).1))
        (λ left. cond_both (is_due lease.t2 at) _ _
        (λ (step : Step6). After EachQuestion (stepped step None (client state (Some (lease_with more lease)) plead)))
        (λ t2. absurd (no_t2 lease.t1 lease.t2 wait at renewed still t2))
        (λ no. cond_both (is_again_due (turn state) exchange) _ _
        (λ (step : Step6). After EachQuestion (stepped step None (client state (Some (lease_with more lease)) plead)))
        (λ more_due. record {
          lease = lease_with more lease;
          kept = refl;
          renewed = renewed;
          valid = valid_after settings.asks wait lease.t1 lease.ias more at still live valid;
          stage = record {
            asks = record {
              elapsed = r.asks.elapsed;
              ias = r.asks.ias;
              asked = r.asks.asked;
              is = ap (λ (o : Option Question). asked_by at (Some (said_now kind.Renew exchange.xid exchange.began more plead)) o) r.asks.is
                  ∙ ap (λ (b : Bool). Some (cond b question (new_question at (said_now kind.Renew exchange.xid exchange.began more plead))))
                  (eq-eqb exchange.xid exchange.xid refl);
            };
            due = r.due;
            when_is = r.when_is;
            in_time = r.in_time;
            not_yet = le;
          };
        })
        (λ none. record {
          lease = lease_with more lease;
          kept = refl;
          renewed = renewed;
          valid = valid_after settings.asks wait lease.t1 lease.ias more at still live valid;
          stage = record { asks = r.asks; due = r.due; when_is = r.when_is; in_time = r.in_time; not_yet = le };
        }))) in
        cond_both (parting state).goes _ _
        (λ (step : Step6). After EachQuestion (stepped step None (client state (Some (lease_with more lease)) plead))) (λ g. row) (λ g. row)))
        (λ early. record {
          lease = lease;
          kept = refl;
          renewed = renewed;
          valid = valid;
          stage = record { asks = r.asks; due = r.due; when_is = r.when_is; in_time = r.in_time; not_yet = le };
        })

  -- ---- where REBINDs alone are answered

  module _ (valid : IsValidUntil settings.asks wait lease.t2 lease.ias) where
    -- a REBIND that is said now takes the place of what was asked before
    rebind_now : (state : State6) → IsAhead at lease.t2 → (more : List IaLeaseContent) (plead : Option PleaContent)
        → asked_by at (Some (said_now kind.Rebind (new_xid (turn state)) at more plead)) pending
        ≡ Some (new_question at (said_now kind.Rebind (new_xid (turn state)) at more plead))
        → LiveOn more → is_due lease.t2 at ≡ true
        → After RebindsAlone (stepped (rebinds (turn state)) None (client state (Some (lease_with more lease)) plead))
    rebind_now state ahead more plead anew live due =
        let d : IsCome lease.t2 at = come lease.t2 at due in
        record {
          lease = lease_with more lease;
          kept = refl;
          renewed = tt;
          valid = valid_after settings.asks wait lease.t2 lease.ias more at (still_ahead at wait lease.t2 ahead) live valid;
          stage = record {
            asks = record { elapsed = elapsed at at; ias = ias_asked scope.All more settings.asks; asked = at; is = anew };
            due = d.due;
            when_is = d.is;
            in_time = subst (IsAhead at) d.is ahead;
            not_yet = further at wait;
          };
        }

    pub rebind_bound : Rests now lease pending → NotAfter (due_of (holding Bound)) now at → After RebindsAlone (tick_turned at salt (holding Bound))
    unfolding tick_turned
    rebind_bound r prompt =
        let t1_ahead : IsAhead at lease.t1 = ahead_so lease.t1 now at (sooner_first lease.t1 _ now at prompt) r.t1_ahead in
        let t2_ahead : IsAhead at lease.t2 =
        ahead_so lease.t2 now at (sooner_first lease.t2 _ now at (sooner_second lease.t1 _ now at prompt)) r.t2_ahead in
        let still : IsStill at wait lease.t2 = still_ahead at wait lease.t2 t2_ahead in
        let some : has_valid settings.asks at lease.ias ≡ true = valid_now settings.asks wait lease.t2 lease.ias at still valid in
        cond_both (is_due (due_of (holding Bound)) at) _ _ (After RebindsAlone)
        (λ due. lapse_cases Bound
        (λ (c : ClientContent). After RebindsAlone (stepped (tick_row (turn Bound) (dates Bound)
        (parting Bound) Bound) None c))
        (λ more plead live.
        let row : After RebindsAlone (stepped (bound_tick (turn Bound) (dates Bound)
        (parting Bound)) None (client Bound (Some (lease_with more lease)) plead)) =
        cond_both ((parting Bound).goes && not ((parting Bound).stays)) _ _ (λ (step : Step6). After RebindsAlone (stepped step None (client Bound (Some
        (lease_with more lease)) plead)))
        (λ gone. absurd (not_both ((parting Bound).stays) some (and_parts ((parting Bound).goes) (not ((parting Bound).stays)) gone).1))
        (λ left. cond_both (is_due lease.t2 at) _ _ (λ (step : Step6). After RebindsAlone (stepped step None (client Bound (Some
        (lease_with more lease)) plead)))
        (λ t2. rebind_now Bound t2_ahead more plead
        (ap (λ (o : Option Question). asked_by at (Some (said_now kind.Rebind (new_xid (turn Bound)) at more plead)) o) r.none) live t2)
        (λ no. cond_both (is_due lease.t1 at) _ _ (λ (step : Step6). After RebindsAlone (stepped step None (client Bound (Some (lease_with more lease)) plead)))
        (λ t1. record {
          lease = lease_with more lease;
          kept = refl;
          renewed = tt;
          valid = valid_after settings.asks wait lease.t2 lease.ias more at still live valid;
          stage = record {
            asks = record {
              elapsed = elapsed at at;
              ias = ias_asked scope.All more settings.asks;
              asked = at;
              is = ap (λ (o : Option Question). asked_by at (Some (said_now kind.Renew (new_xid (turn Bound)) at more plead)) o) r.none;
            };
            last_is = refl;
            t2_ahead = t2_ahead;
          };
        })
        (λ none. record {
          lease = lease_with more lease;
          kept = refl;
          renewed = tt;
          valid = valid_after settings.asks wait lease.t2 lease.ias more at still live valid;
          stage = record { t1_ahead = t1_ahead; t2_ahead = t2_ahead; none = r.none };
        }))) in
        cond_both ((parting Bound).goes) _ _ (λ (step : Step6). After RebindsAlone (stepped step None (client Bound (Some (lease_with more lease)) plead)))
        (λ g. row) (λ g. row)))
        (λ early. record {
          lease = lease;
          kept = refl;
          renewed = tt;
          valid = valid;
          stage = record { t1_ahead = t1_ahead; t2_ahead = t2_ahead; none = r.none };
        })

    pub rebind_renewing : (exchange : Exchange6) → AsksInVain now last lease exchange pending
        → NotAfter (due_of (holding (Renewing exchange))) now at → After RebindsAlone (tick_turned at salt (holding (Renewing exchange)))
    unfolding tick_turned
    rebind_renewing exchange r prompt =
        let t2_ahead : IsAhead at lease.t2 =
        ahead_so lease.t2 now at (sooner_first lease.t2 (dates (Renewing exchange)).lapse now at
        (sooner_second (Some exchange.due) (earlier lease.t2 (dates (Renewing exchange)).lapse) now at prompt)) r.t2_ahead in
        let still : IsStill at wait lease.t2 = still_ahead at wait lease.t2 t2_ahead in
        let some : has_valid settings.asks at lease.ias ≡ true = valid_now settings.asks wait lease.t2 lease.ias at still valid in
        let state : State6 = Renewing exchange in
        let question : Question = question_of kind.Renew exchange.xid r.asks.elapsed (Some lease.server) false r.asks.ias r.asks.asked in
        cond_both (is_due (due_of (holding state)) at) _ _ (After RebindsAlone)
        (λ due. lapse_cases state
        (λ (c : ClientContent). After RebindsAlone (stepped (tick_row (turn state) (dates state)
        (parting state) state) None c))
        (λ more plead live.
        let row : After RebindsAlone (stepped (renewing_tick (turn state) (dates state)
        (parting state) exchange) None (client state (Some (lease_with more lease)) plead)) =
        cond_both ((parting state).goes && not ((parting state).stays)) _ _ (λ (step : Step6). After RebindsAlone (stepped step None (client state (Some
        (lease_with more lease)) plead)))
        (λ gone. absurd (not_both ((parting state).stays) some (and_parts ((parting state).goes) (not ((parting state).stays)) gone).1))
        (λ left. cond_both (is_due lease.t2 at) _ _ (λ (step : Step6). After RebindsAlone (stepped step None (client state (Some
        (lease_with more lease)) plead)))
        (λ t2. rebind_now state t2_ahead more plead
        (ap (λ (o : Option Question). asked_by at (Some (said_now kind.Rebind (new_xid (turn state)) at more plead)) o) r.asks.is
        ∙ ap (λ (b : Bool). Some (cond b question (new_question at (said_now kind.Rebind (new_xid (turn state)) at more plead)))) (fresh_xid
        (turn state) exchange.xid r.last_is)) live t2)
        (λ no. cond_both (is_again_due (turn state) exchange) _ _ (λ (step : Step6). After RebindsAlone (stepped step None (client state (Some
        (lease_with more lease)) plead)))
        (λ more_due. record {
          lease = lease_with more lease;
          kept = refl;
          renewed = tt;
          valid = valid_after settings.asks wait lease.t2 lease.ias more at still live valid;
          stage = record {
            asks = record {
              elapsed = r.asks.elapsed;
              ias = r.asks.ias;
              asked = r.asks.asked;
              is = ap (λ (o : Option Question). asked_by at (Some (said_now kind.Renew exchange.xid exchange.began more plead)) o) r.asks.is
                  ∙ ap (λ (b : Bool). Some (cond b question (new_question at (said_now kind.Renew exchange.xid exchange.began more plead))))
                  (eq-eqb exchange.xid exchange.xid refl);
            };
            last_is = refl;
            t2_ahead = t2_ahead;
          };
        })
        (λ none. record {
          lease = lease_with more lease;
          kept = refl;
          renewed = tt;
          valid = valid_after settings.asks wait lease.t2 lease.ias more at still live valid;
          stage = record { asks = r.asks; last_is = r.last_is; t2_ahead = t2_ahead };
        }))) in
        cond_both ((parting state).goes) _ _ (λ (step : Step6). After RebindsAlone (stepped step None (client state (Some (lease_with more lease)) plead)))
        (λ g. row) (λ g. row)))
        (λ early. record {
          lease = lease;
          kept = refl;
          renewed = tt;
          valid = valid;
          stage = record { asks = r.asks; last_is = r.last_is; t2_ahead = t2_ahead };
        })

    pub rebind_rebinding : (exchange : Exchange6) → AsksInTime wait now lease.t2 kind.Rebind None exchange pending
        → Serves RebindsAlone wait pending at → After RebindsAlone (tick_turned at salt (holding (Rebinding exchange)))
    unfolding tick_turned
    rebind_rebinding exchange r served =
        let le : at ≤ r.asks.asked + wait = (subst (λ (o : Option Question). Serves RebindsAlone wait o at) r.asks.is served) refl in
        let still : IsStill at wait lease.t2 = subst (IsStill at wait) (sym r.when_is) (still_asked at r.asks.asked wait r.due le r.in_time) in
        let some : has_valid settings.asks at lease.ias ≡ true = valid_now settings.asks wait lease.t2 lease.ias at still valid in
        let state : State6 = Rebinding exchange in
        let question : Question = question_of kind.Rebind exchange.xid r.asks.elapsed None false r.asks.ias r.asks.asked in
        cond_both (is_due (due_of (holding state)) at) _ _ (After RebindsAlone)
        (λ due. lapse_cases state
        (λ (c : ClientContent). After RebindsAlone (stepped (tick_row (turn state) (dates state)
        (parting state) state) None c))
        (λ more plead live.
        let row : After RebindsAlone (stepped (rebinding_tick (turn state)
        (parting state) exchange) None (client state (Some (lease_with more lease)) plead)) =
        cond_both ((parting state).goes && not ((parting state).stays)) _ _ (λ (step : Step6). After RebindsAlone (stepped step None (client state (Some
        (lease_with more lease)) plead)))
        (λ gone. absurd (not_both ((parting state).stays) some (and_parts ((parting state).goes) (not ((parting state).stays)) gone).1))
        (λ left. cond_both (is_again_due (turn state) exchange) _ _ (λ (step : Step6). After RebindsAlone (stepped step None (client state (Some
        (lease_with more lease)) plead)))
        (λ more_due. record {
          lease = lease_with more lease;
          kept = refl;
          renewed = tt;
          valid = valid_after settings.asks wait lease.t2 lease.ias more at still live valid;
          stage = record {
            asks = record {
              elapsed = r.asks.elapsed;
              ias = r.asks.ias;
              asked = r.asks.asked;
              is = ap (λ (o : Option Question). asked_by at (Some (said_now kind.Rebind exchange.xid exchange.began more plead)) o) r.asks.is
                  ∙ ap (λ (b : Bool). Some (cond b question (new_question at (said_now kind.Rebind exchange.xid exchange.began more plead))))
                  (eq-eqb exchange.xid exchange.xid refl);
            };
            due = r.due;
            when_is = r.when_is;
            in_time = r.in_time;
            not_yet = le;
          };
        })
        (λ none. record {
          lease = lease_with more lease;
          kept = refl;
          renewed = tt;
          valid = valid_after settings.asks wait lease.t2 lease.ias more at still live valid;
          stage = record { asks = r.asks; due = r.due; when_is = r.when_is; in_time = r.in_time; not_yet = le };
        })) in
        cond_both ((parting state).goes) _ _ (λ (step : Step6). After RebindsAlone (stepped step None (client state (Some (lease_with more lease)) plead)))
        (λ g. row) (λ g. row)))
        (λ early. record {
          lease = lease;
          kept = refl;
          renewed = tt;
          valid = valid;
          stage = record { asks = r.asks; due = r.due; when_is = r.when_is; in_time = r.in_time; not_yet = le };
        })
