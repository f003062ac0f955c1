-- What a client that holds nothing yet does when its moment may have come.
use Rattle.std.proofs.Common.{◌≡◌, ℕ, ◌+◌, ◌≤◌, min, Bool, true, false, cond, map, Option, Some, None, nat_le, inl, inr, refl, ap, subst, ◌∙◌, arith}
use Rattle.std.proofs.lemmas.Bool.Decides.{nat_tests}
use Rattle.std.proofs.lemmas.Bool.{cond_both, eq-eqb}
use Rattle.machine.specs.Moment.{is_due}
use Rattle.v6_message.specs.declared.kind.Kind6.TheVariants as kind
use Rattle.v6_retrans.specs.declared.parameters.TheConstants.{REQUEST}
use Rattle.lease6_text.specs.Leases.{Lease6Content}
use Rattle.v6_client.specs.declared.exchange.Exchange6.{Exchange6}
use Rattle.v6_client.specs.V6Items.declared.scope.Scope6.TheVariants as scope
use Rattle.v6_client.specs.declared.states.State6.{State6}
use Rattle.v6_client.specs.declared.states.State6.TheVariants.{Off, Waiting, Soliciting, Requesting, Bound, Renewing, Rebinding, Restarting, Declining}
use Rattle.v6_client.specs.declared.states.Step6.{Step6}
use Rattle.v6_client.specs.declared.turn.Turn6.{Turn6}
use Rattle.v6_client.specs.V6Items.Asking.{ia_solicited}
use Rattle.v6_client.specs.Calls.{due_of}
use Rattle.v6_client.specs.Clients.{ClientContent, PleaContent, turn_of}
use Rattle.v6_client.specs.Exchanges.{begun, is_used_up, new_xid, rand_in}
use Rattle.v6_client.specs.Runs.{Turned6, stepped, tick_turned}
use Rattle.v6_client.specs.Saying.{SpokenContent, plea_ias, plea_server, spoken_by}
use Rattle.v6_client.specs.Ticks.{requesting_tick}
use Rattle.v6_client.specs.Settings.{SettingsContent}
use Rattle.v6_client.specs.Times.{elapsed}
use Rattle.lease6_progress.specs.GoingWell.{EachQuestion, NotAfter, Serves}
use Rattle.lease6_progress.specs.Questions.{Question, asked_by, new_question}
use Rattle.lease6_progress.proofs.Stages.{Chooses, Limits, Pending, PendingIn, Requests, Solicits, Waits, again_time, client_of, come_so, further, in_time, question_of, request_time, solicit_least, solicit_most}

-- ---- moments

at_most : (at due first : ℕ) → at ≤ due → due ≤ first → at ≤ first
at_most at due first le h = omega arith

not_due : (due at asked wait : ℕ) → nat_le due at ≡ true → at ≤ asked + wait → asked + 1001 ≤ due → wait ≤ 1000 → ⊥
not_due due at asked wait come le least short = grind (arith, nat_tests)

few_said : (sent : ℕ) → sent ≡ 1 → nat_le 10 sent ≡ true → ⊥
few_said sent one used = grind (arith, nat_tests)

second_due : (at asked due rt : ℕ) → due ≤ at → asked + 900 ≤ due → 900 ≤ rt → asked + 1001 ≤ at + rt
second_due at asked due rt come least time = omega arith

-- ---- a REQUEST that is said now

abbrev pub request_said : SettingsContent → Option Lease6Content → Option PleaContent → Turn6 → SpokenContent
request_said settings kept plea turn =
    spoken_by settings.site.rapid scope.Nothing settings.asks kept plea
    (record { kind = kind.Request; xid = new_xid turn; elapsed = elapsed turn.at turn.at })

pub requests_now : (settings : SettingsContent) (l : Limits) (Offered : Type 0) (kept : Option Lease6Content) (plea : Option PleaContent) (turn : Turn6)
    (pending : Option Question) → Offered → pending ≡ None → turn.at ≤ l.first + 1100
    → Requests l Offered turn.at (begun turn REQUEST (rand_in turn)) (plea_server plea) (asked_by turn.at (Some (request_said settings kept plea turn)) pending)
requests_now settings l Offered kept plea turn pending offered none le = record {
  offered = offered;
  elapsed = elapsed turn.at turn.at;
  ias = plea_ias plea;
  asked = turn.at;
  is = ap (λ (o : Option Question). asked_by turn.at (Some (request_said settings kept plea turn)) o) none;
  in_time = le;
  not_yet = further turn.at l.wait;
  time = request_time turn;
  few = inl (refl, later turn.at _ (request_time turn));
}
  where
    later : (at rt : ℕ) → 900 ≤ rt → at + 900 ≤ at + rt
    later at rt h = omega arith

-- ---- ticks

module _ (settings : SettingsContent) (first wait : ℕ) (short : wait ≤ 1000) (Offered : Type 0) (at salt : ℕ)
    (last : Option ℕ) (sol_max : ℕ) (kept : Option Lease6Content) (plea : Option PleaContent) (unspent : Bool)
    (now : ℕ) (pending : Option Question) where
  abbrev l : Limits
  l = record { rapid = settings.site.rapid; first = first; wait = wait }

  abbrev client : State6 → ClientContent
  client state = client_of settings last sol_max state kept plea unspent

  abbrev turn : State6 → Turn6
  turn state = turn_of at salt (client state)

  abbrev After : Turned6 → Type 0
  After turned = PendingIn l Offered at turned.client (asked_by at turned.out.say pending)

  abbrev solicit_said : State6 → SpokenContent
  solicit_said state =
      spoken_by settings.site.rapid scope.Nothing settings.asks kept plea
      (record { kind = kind.Solicit; xid = new_xid (turn state); elapsed = elapsed at at })

  tick_waits : (due : ℕ) → Waits l now due pending → NotAfter (Some due) now at → After (tick_turned at salt (client (Waiting due)))
  unfolding tick_turned
  tick_waits due w prompt =
      let le : at ≤ due = in_time due now at prompt w.not_yet in
      cond_both (is_due (due_of (client (Waiting due))) at) _ _ After
      (λ come. record {
        elapsed = elapsed at at;
        ias = map ia_solicited settings.asks;
        asked = at;
        is = ap (λ (o : Option Question). asked_by at (Some (solicit_said (Waiting due))) o) w.none;
        in_time = at_most at due first le w.in_time;
        not_yet = further at wait;
        least = solicit_least (turn (Waiting due));
        most = solicit_most (turn (Waiting due));
      })
      (λ early. record { none = w.none; in_time = w.in_time; not_yet = le })

  tick_solicits : (exchange : Exchange6) → Solicits l now exchange pending → Serves EachQuestion wait pending at
      → After (tick_turned at salt (client (Soliciting exchange None)))
  unfolding tick_turned
  tick_solicits exchange s served =
      let le : at ≤ s.asked + wait = (subst (λ (o : Option Question). Serves EachQuestion wait o at) s.is served) refl in
      cond_both (is_due (due_of (client (Soliciting exchange None))) at) _ _ After
      (λ come. absurd (not_due exchange.due at s.asked wait come le s.least short))
      (λ early. record {
        elapsed = s.elapsed;
        ias = s.ias;
        asked = s.asked;
        is = s.is;
        in_time = s.in_time;
        not_yet = le;
        least = s.least;
        most = s.most;
      })

  tick_chooses : (exchange : Exchange6) (preference : ℕ) → Chooses l Offered now exchange pending → NotAfter (Some exchange.due) now at
      → After (tick_turned at salt (client (Soliciting exchange (Some preference))))
  unfolding tick_turned
  tick_chooses exchange preference c prompt =
      let le : at ≤ exchange.due = in_time exchange.due now at prompt c.not_yet in
      cond_both (is_due (due_of (client (Soliciting exchange (Some preference)))) at) _ _ After
      (λ come.
      requests_now settings l Offered kept plea (turn (Soliciting exchange (Some preference))) pending c.offered c.none
      (at_most at exchange.due (first + 1100) le c.in_time))
      (λ early. record { offered = c.offered; none = c.none; in_time = c.in_time; not_yet = le })

  -- a REQUEST that is said again
  abbrev said_again : Exchange6 → SpokenContent
  said_again exchange =
      spoken_by settings.site.rapid scope.Nothing settings.asks kept plea
      (record { kind = kind.Request; xid = exchange.xid; elapsed = elapsed exchange.began at })

  still_open : (exchange : Exchange6) (r : Requests l Offered now exchange (plea_server plea) pending)
      → asked_by at (Some (said_again exchange)) pending
      ≡ Some (question_of kind.Request exchange.xid r.elapsed (plea_server plea) false r.ias r.asked)
  still_open exchange r =
      let question : Question = question_of kind.Request exchange.xid r.elapsed (plea_server plea) false r.ias r.asked in
      ap (λ (o : Option Question). asked_by at (Some (said_again exchange)) o) r.is
      ∙ ap (λ (b : Bool). Some (cond b question (new_question at (said_again exchange)))) (eq-eqb exchange.xid exchange.xid refl)

  requests_again : (exchange : Exchange6) (r : Requests l Offered now exchange (plea_server plea) pending) → at ≤ r.asked + wait
      → nat_le exchange.due at ≡ true → exchange.sent ≡ 1 → r.asked + 900 ≤ exchange.due
      → After (stepped (requesting_tick (turn (Requesting exchange)) exchange) None (client (Requesting exchange)))
  requests_again exchange r le come once least =
      cond_both (is_used_up REQUEST exchange) _ _
      (λ (step : Step6). After (stepped step None (client (Requesting exchange))))
      (λ used. absurd (few_said exchange.sent once used))
      (λ further. record {
        offered = r.offered;
        elapsed = r.elapsed;
        ias = r.ias;
        asked = r.asked;
        is = still_open exchange r;
        in_time = r.in_time;
        not_yet = le;
        time = again_time (turn (Requesting exchange)) exchange r.time;
        few = inr (
          ap (λ (n : ℕ). min (n + 1) 4294967295) once,
          second_due at r.asked exchange.due _ (come_so exchange.due at come) least
              (again_time (turn (Requesting exchange)) exchange r.time),
        );
      })

  tick_requests : (exchange : Exchange6) → Requests l Offered now exchange (plea_server plea) pending → Serves EachQuestion wait pending at
      → After (tick_turned at salt (client (Requesting exchange)))
  unfolding tick_turned
  tick_requests exchange r served =
      let le : at ≤ r.asked + wait = (subst (λ (o : Option Question). Serves EachQuestion wait o at) r.is served) refl in
      cond_both (is_due (due_of (client (Requesting exchange))) at) _ _ After
      (λ come. elim r.few [
        | inl once ↦ requests_again exchange r le come once.0 once.1
        | inr twice ↦ absurd (not_due exchange.due at r.asked wait come le twice.1 short)
      ])
      (λ early. record {
        offered = r.offered;
        elapsed = r.elapsed;
        ias = r.ias;
        asked = r.asked;
        is = r.is;
        in_time = r.in_time;
        not_yet = le;
        time = r.time;
        few = r.few;
      })

  pub tick_pends : (state : State6) → Pending l Offered now state (plea_server plea) pending → NotAfter (due_of (client state)) now at
      → Serves EachQuestion wait pending at → After (tick_turned at salt (client state))
  tick_pends Off p prompt served = absurd p
  tick_pends (Waiting due) p prompt served = tick_waits due p prompt
  tick_pends (Soliciting exchange None) p prompt served = tick_solicits exchange p served
  tick_pends (Soliciting exchange (Some preference)) p prompt served = tick_chooses exchange preference p prompt
  tick_pends (Requesting exchange) p prompt served = tick_requests exchange p served
  tick_pends Bound p prompt served = absurd p
  tick_pends (Renewing exchange) p prompt served = absurd p
  tick_pends (Rebinding exchange) p prompt served = absurd p
  tick_pends (Restarting exchange end since stands) p prompt served = absurd p
  tick_pends (Declining exchange) p prompt served = absurd p
