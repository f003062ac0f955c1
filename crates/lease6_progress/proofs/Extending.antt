-- What a client that holds a lease that lasts makes of what comes in.
use Rattle.std.proofs.Common.{◌≡◌, ℕ, Bool, true, false, cond, Option, Some, None, IfSome, refl, sym, ap, subst}
use Rattle.std.proofs.lemmas.Bool.{and_from, and_left, and_parts, and_right, cond_both}
use Rattle.std.specs.Option.{option_and_then}
use Rattle.net_types.specs.declared.address.Ip6.{Ip6}
use Rattle.v6_message.specs.declared.kind.Kind6.TheVariants as kind
use Rattle.v6_message.specs.declared.kind.ServerKind6.{ServerKind6}
use Rattle.v6_message.specs.declared.kind.ServerKind6.TheVariants.{Advertise, Reply}
use Rattle.v6_message.specs.Replies.{Content6}
use Rattle.lease6_text.specs.Leases.{Lease6Content}
use Rattle.v6_client.specs.declared.exchange.Exchange6.{Exchange6}
use Rattle.v6_client.specs.declared.states.Answer6.TheVariants as answer
use Rattle.v6_client.specs.V6Items.declared.scope.Cause6.TheVariants.{Duplicate}
use Rattle.v6_client.specs.declared.states.News6.TheVariants as news
use Rattle.v6_client.specs.V6Items.declared.scope.Parting6.{Parting6}
use Rattle.v6_client.specs.declared.states.State6.{State6}
use Rattle.v6_client.specs.declared.states.State6.TheVariants.{Bound, Renewing, Rebinding}
use Rattle.v6_client.specs.declared.turn.Turn6.{Turn6}
use Rattle.v6_client.specs.Answers.{counts, granted, grants_or_empties, is_from, server_of, sol_max_with}
use Rattle.v6_client.specs.Calls.{fresh_in}
use Rattle.v6_client.specs.Clients.{ClientContent, PleaContent, turn_of}
use Rattle.v6_client.specs.Hearing.{heard_row}
use Rattle.v6_client.specs.Moves.{declining_now, parting_at}
use Rattle.v6_client.specs.V6Items.Reading.{serves}
use Rattle.v6_client.specs.Runs.{Turned6, answered, contested_turned, hears_turned, stepped}
use Rattle.v6_client.specs.Settings.{SettingsContent}
use Rattle.v6_client.specs.Steps.{declines, keep_by, rests}
use Rattle.lease6_progress.specs.ClientTurns.{Hears}
use Rattle.lease6_progress.specs.GoingWell.{Answered, NothingIsDenied}
use Rattle.lease6_progress.specs.Questions.{Question, answers, asked_by, gives, is_answer, unanswered}
use Rattle.lease6_progress.specs.Staying.{IsRenewedInTime, IsValidUntil, Lasts, asked_when}
use Rattle.lease6_progress.proofs.Granting.{GrantsSome, grants_some}
use Rattle.lease6_progress.proofs.Hearing.{no_answer}
use Rattle.lease6_progress.proofs.Keeping.{Asks, Firm, Rebinds, Renews, Rests, Stage}
use Rattle.lease6_progress.proofs.Stages.{client_of, question_of}

module _ (settings : SettingsContent) (servers : Answered) (wait at salt : ℕ) (last : Option ℕ) (sol_max : ℕ) (plea : Option PleaContent)
    (unspent : Bool) (lease : Lease6Content) (renewed : IsRenewedInTime servers wait lease)
    (valid : IsValidUntil settings.asks wait (asked_when servers lease) lease.ias) where
  abbrev holding : State6 → ClientContent
  holding state = client_of settings last sol_max state (Some lease) plea unspent

  abbrev After : Option Question → Turned6 → Type 0
  After pending turned = Firm settings servers wait at turned.client (asked_by at turned.out.say pending)

  -- it stays as it is
  pub firm : (c : ClientContent) (pending : Option Question) → c.kept ≡ Some lease → Stage servers wait at c.last lease c.state pending
      → Firm settings servers wait at c pending
  firm c pending kept stage = record { lease = lease; kept = kept; renewed = renewed; valid = valid; stage = stage }

  -- ---- an address that others use

  module _ (address : Ip6) (pending : Option Question) where
    abbrev parting : State6 → Parting6
    parting state = parting_at (Duplicate address) (holding state)

    abbrev used_by : Bool → State6 → Turned6
    used_by goes state =
        stepped (cond goes (record (declines (turn_of at salt (holding state))) { keep = keep_by (parting state); news = news.Changed })
        (rests (turn_of at salt (holding state)) state)) None
        (cond goes (declining_now address (holding state)) (holding state))

    not_used : (state : State6) → (parting state).goes ≡ false → Stage servers wait at last lease state pending
        → After pending (used_by (parting state).goes state)
    not_used state none stage =
        subst (λ (goes : Bool). After pending (used_by goes state)) (sym none) (firm _ pending refl stage)

    pub used_bound : (parting Bound).goes ≡ false → Stage servers wait at last lease Bound pending
        → After pending (contested_turned address at salt (holding Bound))
    unfolding contested_turned
    used_bound none stage = not_used Bound none stage

    pub used_renewing : (exchange : Exchange6) → (parting (Renewing exchange)).goes ≡ false
        → Stage servers wait at last lease (Renewing exchange) pending
        → After pending (contested_turned address at salt (holding (Renewing exchange)))
    unfolding contested_turned
    used_renewing exchange none stage = not_used (Renewing exchange) none stage

    pub used_rebinding : (exchange : Exchange6) → (parting (Rebinding exchange)).goes ≡ false
        → Stage servers wait at last lease (Rebinding exchange) pending
        → After pending (contested_turned address at salt (holding (Rebinding exchange)))
    unfolding contested_turned
    used_rebinding exchange none stage = not_used (Rebinding exchange) none stage

  -- ---- messages

  module _ (message : Content6) (gives_so : NothingIsDenied settings.asks (Hears message)) (pending : Option Question) where
    abbrev heard : State6 → ClientContent
    heard state = client_of settings last (sol_max_with message.sol_max sol_max) state (Some lease) plea unspent

    abbrev turn : State6 → Turn6
    turn state = turn_of at salt (heard state)

    -- a lease that the Reply grants lasts
    abbrev GrantsSo : State6 → Type 0
    GrantsSo state = message.kind ≡ Reply → IfSome (fresh_in at (holding state) message) (Lasts settings.asks servers wait at)

    bound_kind : (k : ServerKind6) → Rests at lease pending → After (unanswered settings message pending) (answered at salt message k (heard Bound))
    bound_kind Advertise r = firm _ _ refl (record { t1_ahead = r.t1_ahead; t2_ahead = r.t2_ahead; none = ap (unanswered settings message) r.none })
    bound_kind Reply r = firm _ _ refl (record { t1_ahead = r.t1_ahead; t2_ahead = r.t2_ahead; none = ap (unanswered settings message) r.none })

    pub bound_hears : Rests at lease pending → After (unanswered settings message pending) (hears_turned at salt message (holding Bound))
    unfolding hears_turned
    bound_hears r =
        cond_both (counts (holding Bound) message) _ _ (After (unanswered settings message pending))
        (λ counted. bound_kind message.kind r)
        (λ ignored. firm _ _ refl (record { t1_ahead = r.t1_ahead; t2_ahead = r.t2_ahead; none = ap (unanswered settings message) r.none }))

    -- ---- a RENEW is pending

    module _ (exchange : Exchange6) (asks : Asks kind.Renew (Some lease.server) exchange pending) where
      abbrev question : Question
      question = question_of kind.Renew exchange.xid asks.elapsed (Some lease.server) false asks.ias asks.asked

      abbrev left : ServerKind6 → Option Question
      left k = cond (answers k settings question.said message) None (Some question)

      abbrev state : State6
      state = Renewing exchange

      abbrev fresh : Option Lease6Content
      fresh = option_and_then (granted at (heard state) message) (server_of message)

      module _ (again : (after : Option Question) → after ≡ Some question → Renews servers wait at last lease exchange after) (lasts : GrantsSo state) where
        renew_reply : message.kind ≡ Reply → is_answer settings question.said message ≡ true → (t : Bool) → serves settings.asks message ≡ t
            → After (left Reply)
            (stepped (heard_row (turn state) (cond t (grants_or_empties (cond t fresh None)) answer.Nothing) state)
            (cond t fresh None) (heard state))
        renew_reply is counted true t =
            let g : GrantsSome fresh =
            grants_some at (heard state) message (Some lease.server) (and_parts _ (is_from (Some lease.server) message.server) counted).1 (gives_so is t) in
            let l : Lasts settings.asks servers wait at g.lease =
            subst (λ (o : Option Lease6Content). IfSome o (Lasts settings.asks servers wait at)) g.is
            (subst (λ (b : Bool). IfSome (cond b fresh None) (Lasts settings.asks servers wait at)) t (lasts is)) in
            subst (λ (o : Option Lease6Content). After (left Reply)
            (stepped (heard_row (turn state) (grants_or_empties o) state) o (heard state))) (sym g.is)
            (record {
              lease = g.lease;
              kept = refl;
              renewed = l.renewed;
              valid = l.valid;
              stage = record {
                t1_ahead = l.t1_ahead;
                t2_ahead = l.t2_ahead;
                none = ap (λ (b : Bool). cond b None (Some question))
                    (and_from _ (gives settings.asks message) (and_from (is_answer settings question.said message) (serves settings.asks message) counted t)
                    (gives_so is t));
              };
            })
        renew_reply is counted false t =
            firm _ _ refl (again (left Reply) (ap (λ (b : Bool). cond b None (Some question))
            (and_left _ (gives settings.asks message) (and_right (is_answer settings question.said message) (serves settings.asks message) t))))

        renew_kind : (k : ServerKind6) → message.kind ≡ k → is_answer settings question.said message ≡ true
            → After (left k) (answered at salt message k (heard state))
        renew_kind Advertise is counted =
            firm _ _ refl (again (left Advertise) (ap (λ (b : Bool). cond b None (Some question))
            (and_left _ (serves settings.asks message) (and_right (is_answer settings question.said message) false refl))))
        renew_kind Reply is counted = renew_reply is counted (serves settings.asks message) refl

        pub renewing_hears : After (unanswered settings message pending) (hears_turned at salt message (holding state))
        unfolding hears_turned
        renewing_hears =
            subst (λ (o : Option Question). After (unanswered settings message o) (hears_turned at salt message (holding state))) (sym asks.is)
            (cond_both (counts (holding state) message) _ _ (After (left message.kind))
            (λ counted. renew_kind message.kind refl counted)
            (λ ignored. firm _ _ refl (again (left message.kind) (ap (λ (b : Bool). cond b None (Some question))
            (no_answer settings question.said message message.kind ignored)))))

    -- ---- a REBIND is pending

    module _ (exchange : Exchange6) (asks : Asks kind.Rebind None exchange pending) where
      abbrev asked : Question
      asked = question_of kind.Rebind exchange.xid asks.elapsed None false asks.ias asks.asked

      abbrev left_of : ServerKind6 → Option Question
      left_of k = cond (answers k settings asked.said message) None (Some asked)

      abbrev rebinding : State6
      rebinding = Rebinding exchange

      abbrev fresh_by : Option Lease6Content
      fresh_by = option_and_then (granted at (heard rebinding) message) (server_of message)

      module _ (again : (after : Option Question) → after ≡ Some asked → Rebinds servers wait at lease exchange after) (lasts : GrantsSo rebinding) where
        rebind_reply : message.kind ≡ Reply → is_answer settings asked.said message ≡ true → (t : Bool) → serves settings.asks message ≡ t
            → After (left_of Reply)
            (stepped (heard_row (turn rebinding) (cond t (grants_or_empties (cond t fresh_by None)) answer.Nothing) rebinding)
            (cond t fresh_by None) (heard rebinding))
        rebind_reply is counted true t =
            let g : GrantsSome fresh_by =
            grants_some at (heard rebinding) message None (and_parts _ (is_from None message.server) counted).1 (gives_so is t) in
            let l : Lasts settings.asks servers wait at g.lease =
            subst (λ (o : Option Lease6Content). IfSome o (Lasts settings.asks servers wait at)) g.is
            (subst (λ (b : Bool). IfSome (cond b fresh_by None) (Lasts settings.asks servers wait at)) t (lasts is)) in
            subst (λ (o : Option Lease6Content). After (left_of Reply)
            (stepped (heard_row (turn rebinding) (grants_or_empties o) rebinding) o (heard rebinding))) (sym g.is)
            (record {
              lease = g.lease;
              kept = refl;
              renewed = l.renewed;
              valid = l.valid;
              stage = record {
                t1_ahead = l.t1_ahead;
                t2_ahead = l.t2_ahead;
                none = ap (λ (b : Bool). cond b None (Some asked))
                    (and_from _ (gives settings.asks message) (and_from (is_answer settings asked.said message) (serves settings.asks message) counted t)
                    (gives_so is t));
              };
            })
        rebind_reply is counted false t =
            firm _ _ refl (again (left_of Reply) (ap (λ (b : Bool). cond b None (Some asked))
            (and_left _ (gives settings.asks message) (and_right (is_answer settings asked.said message) (serves settings.asks message) t))))

        rebind_kind : (k : ServerKind6) → message.kind ≡ k → is_answer settings asked.said message ≡ true
            → After (left_of k) (answered at salt message k (heard rebinding))
        rebind_kind Advertise is counted =
            firm _ _ refl (again (left_of Advertise) (ap (λ (b : Bool). cond b None (Some asked))
            (and_left _ (serves settings.asks message) (and_right (is_answer settings asked.said message) false refl))))
        rebind_kind Reply is counted = rebind_reply is counted (serves settings.asks message) refl

        pub rebinding_hears : After (unanswered settings message pending) (hears_turned at salt message (holding rebinding))
        unfolding hears_turned
        rebinding_hears =
            subst (λ (o : Option Question). After (unanswered settings message o) (hears_turned at salt message (holding rebinding))) (sym asks.is)
            (cond_both (counts (holding rebinding) message) _ _ (After (left_of message.kind))
            (λ counted. rebind_kind message.kind refl counted)
            (λ ignored. firm _ _ refl (again (left_of message.kind) (ap (λ (b : Bool). cond b None (Some asked))
            (no_answer settings asked.said message message.kind ignored)))))
