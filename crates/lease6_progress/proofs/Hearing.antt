-- What a client that holds nothing yet makes of what comes in.
use Rattle.std.proofs.Common.{◌≡◌, ℕ, ◌+◌, ◌≤◌, Bool, true, false, cond, ◌&&◌, ◌||◌, List, Option, Some, None, inl, inr, refl, sym, ap, subst, ◌∙◌, arith}
use Rattle.std.proofs.lemmas.Bool.{and_from, and_left, and_parts, and_right, cond_both}
use Rattle.std.specs.Option.{option_and_then, option_map}
use Rattle.std.specs.Prelude.{◌⊎◌}
use Rattle.net_types.specs.declared.address.Ip6.{Ip6}
use Rattle.v6_message.specs.declared.kind.Kind6.TheVariants as kind
use Rattle.v6_message.specs.declared.kind.ServerKind6.{ServerKind6}
use Rattle.v6_message.specs.declared.kind.ServerKind6.TheVariants.{Advertise, Reply}
use Rattle.v6_message.specs.Replies.{Content6}
use Rattle.lease6_text.specs.Leases.{Lease6Content}
use Rattle.v6_client.specs.declared.exchange.Exchange6.{Exchange6}
use Rattle.v6_client.specs.declared.states.Answer6.{Answer6}
use Rattle.v6_client.specs.declared.states.Answer6.TheVariants as answer
use Rattle.v6_client.specs.declared.states.State6.{State6}
use Rattle.v6_client.specs.declared.states.State6.TheVariants.{Off, Waiting, Soliciting, Requesting, Bound, Renewing, Rebinding, Restarting, Declining}
use Rattle.v6_client.specs.declared.turn.Turn6.{Turn6}
use Rattle.v6_client.specs.Answers.{chosen, counts, granted, grants_or_empties, is_from, plea_offered, server_of, sol_max_with}
use Rattle.v6_client.specs.Clients.{ClientContent, PleaContent, turn_of}
use Rattle.v6_client.specs.Hearing.{heard_row, is_better, is_taken_at_once}
use Rattle.v6_client.specs.V6Items.Reading.{serves}
use Rattle.v6_client.specs.Runs.{Turned6, answered, contested_turned, hears_turned, rebind_turned, stepped}
use Rattle.v6_client.specs.Saying.{SpokenContent, plea_server}
use Rattle.v6_client.specs.Settings.{SettingsContent}
use Rattle.v6_client.specs.Steps.{requests, rests}
use Rattle.v6_client.specs.Answers.{advertised}
use Rattle.lease6_progress.specs.ClientTurns.{Input6, Quiet, Hears, IsUsed, Rebinds, Drops, Releases, takes}
use Rattle.lease6_progress.specs.GoingWell.{CarrierStays, NothingIsDenied}
use Rattle.lease6_progress.specs.Questions.{Question, answers, asked_by, gives, is_answer, left_by, unanswered}
use Rattle.lease6_progress.proofs.Granting.{GrantsSome, grants_some}
use Rattle.lease6_progress.proofs.Stages.{Chooses, HoldsSome, IsGrantedBy, Limits, Pending, PendingIn, Requests, Solicits, Waits, client_of, question_of}
use Rattle.lease6_progress.proofs.Ticking.{requests_now}

-- ---- moments

while_offers : (at asked wait first : ℕ) → at ≤ asked + wait → asked ≤ first → wait ≤ 1000 → at ≤ first + 1100
while_offers at asked wait first le h short = omega arith

still_choosing : (at asked wait due : ℕ) → at ≤ asked + wait → wait ≤ 1000 → asked + 1001 ≤ due → at ≤ due
still_choosing at asked wait due le short least = omega arith

choice_ends : (due asked first : ℕ) → due ≤ asked + 1100 → asked ≤ first → due ≤ first + 1100
choice_ends due asked first most h = omega arith

-- ---- messages that answer nothing

pub no_answer : (settings : SettingsContent) (said : SpokenContent) (message : Content6) (k : ServerKind6)
    → is_answer settings said message ≡ false → answers k settings said message ≡ false
no_answer settings said message Advertise h = and_left _ (serves settings.asks message) (and_left (is_answer settings said message) _ h)
no_answer settings said message Reply h = and_left _ (gives settings.asks message) (and_left (is_answer settings said message) _ h)

module _ (settings : SettingsContent) (first wait : ℕ) (short : wait ≤ 1000) (Offered : Type 0) (at salt : ℕ)
    (last : Option ℕ) (sol_max : ℕ) (kept : Option Lease6Content) (plea : Option PleaContent) (unspent : Bool) where
  abbrev l : Limits
  l = record { rapid = settings.site.rapid; first = first; wait = wait }

  abbrev client : State6 → ClientContent
  client state = client_of settings last sol_max state kept plea unspent

  abbrev Comes : (Granted : Lease6Content → Type 0) → Option Question → Turned6 → Type 0
  Comes Granted pending turned =
      PendingIn l Offered at turned.client (asked_by at turned.out.say pending) ⊎ HoldsSome Granted turned.client (asked_by at turned.out.say pending)

  module _ (message : Content6) (gives_so : NothingIsDenied settings.asks (Hears message)) (offers_so : message.kind ≡ Advertise → Offered) where
    -- with the longest time that was told
    abbrev heard : State6 → ClientContent
    heard state = client_of settings last (sol_max_with message.sol_max sol_max) state kept plea unspent

    abbrev turn : State6 → Turn6
    turn state = turn_of at salt (heard state)

    abbrev fresh : State6 → Option Lease6Content
    fresh state = option_and_then (granted at (heard state) message) (server_of message)

    -- the lease that it grants
    abbrev granted_in : State6 → Lease6Content → Type 0
    granted_in state lease = IsGrantedBy at (client state) (Hears message) lease

    grants : (state : State6) (chosen : Option (List ℕ)) → is_from chosen message.server ≡ true → message.kind ≡ Reply
        → serves settings.asks message ≡ true → GrantsSome (fresh state)
    grants state chosen from is served = grants_some at (heard state) message chosen from (gives_so is served)

    -- the client goes on with an offer
    abbrev offered_plea : Option PleaContent
    offered_plea = option_map (plea_offered settings.asks message) (server_of message)

    abbrev chosen_by : (taken better : Bool) → Exchange6 → (before : Option ℕ) → Turned6
    chosen_by taken better exchange before =
        stepped (cond taken (requests (turn (Soliciting exchange before)))
        (cond better (rests (turn (Soliciting exchange before)) (Soliciting exchange (Some message.preference)))
        (rests (turn (Soliciting exchange before)) (Soliciting exchange before)))) None
        (cond (taken || better) (record (heard (Soliciting exchange before)) { plea = offered_plea }) (heard (Soliciting exchange before)))

    -- ---- while a SOLICIT is pending

    module _ (exchange : Exchange6) (pending : Option Question) (s : Solicits l at exchange pending) where
      abbrev question : Question
      question = question_of kind.Solicit exchange.xid s.elapsed None settings.site.rapid s.ias s.asked

      abbrev left : ServerKind6 → Option Question
      left k = cond (answers k settings question.said message) None (Some question)

      still : (after : Option Question) → after ≡ Some question → Solicits l at exchange after
      still after is = record {
        elapsed = s.elapsed;
        ias = s.ias;
        asked = s.asked;
        is = is;
        in_time = s.in_time;
        not_yet = s.not_yet;
        least = s.least;
        most = s.most;
      }

      offer_comes : Offered → left Advertise ≡ None → (taken : Bool) → Comes (granted_in (Soliciting exchange None)) (left Advertise)
          (chosen_by taken true exchange None)
      offer_comes offered none true =
          inl (requests_now settings l Offered kept offered_plea (turn (Soliciting exchange None)) (left Advertise) offered none
          (while_offers at s.asked wait first s.not_yet s.in_time short))
      offer_comes offered none false = inl (record {
        offered = offered;
        none = none;
        in_time = choice_ends exchange.due s.asked first s.most s.in_time;
        not_yet = still_choosing at s.asked wait exchange.due s.not_yet short s.least;
      })

      advertise_comes : message.kind ≡ Advertise → is_answer settings question.said message ≡ true
          → Comes (granted_in (Soliciting exchange None)) (left Advertise) (answered at salt message Advertise (heard (Soliciting exchange None)))
      advertise_comes is counted =
          cond_both (serves settings.asks message) (answer.Offer message.preference) answer.Nothing
          (λ (a : Answer6). Comes (granted_in (Soliciting exchange None)) (left Advertise) (stepped (heard_row (turn (Soliciting exchange None)) a
          (Soliciting exchange None)) None
          (advertised a message (heard (Soliciting exchange None)))))
          (λ yes.
          offer_comes (offers_so is)
          (ap (λ (b : Bool). cond b None (Some question))
          (and_from _ (serves settings.asks message) (and_from (is_answer settings question.said message) true counted refl) yes))
          (is_taken_at_once exchange message.preference))
          (λ no.
          inl (still (left Advertise) (ap (λ (b : Bool). cond b None (Some question)) (and_right _ (serves settings.asks message) no))))

      abbrev taken : Bool
      taken = message.rapid && settings.site.rapid && serves settings.asks message

      reply_comes : message.kind ≡ Reply → is_answer settings question.said message ≡ true → (t : Bool) → taken ≡ t
          → Comes (granted_in (Soliciting exchange None)) (left Reply)
          (stepped (heard_row (turn (Soliciting exchange None))
          (cond t (grants_or_empties (cond t (fresh (Soliciting exchange None)) None)) answer.Nothing) (Soliciting exchange None))
          (cond t (fresh (Soliciting exchange None)) None) (heard (Soliciting exchange None)))
      reply_comes is counted true t =
          let served : serves settings.asks message ≡ true = (and_parts (message.rapid && settings.site.rapid) (serves settings.asks message) t).1 in
          let g : GrantsSome (fresh (Soliciting exchange None)) =
          grants (Soliciting exchange None) None (and_parts _ (is_from None message.server) counted).1 is served in
          subst (λ (o : Option Lease6Content). Comes (granted_in (Soliciting exchange None)) (left Reply)
          (stepped (heard_row (turn (Soliciting exchange None)) (grants_or_empties o) (Soliciting exchange None)) o (heard (Soliciting exchange None))))
          (sym g.is) (inr (record {
            lease = g.lease;
            bound = refl;
            held = refl;
            some_item = g.some_item;
            granted = (is, ap (λ (b : Bool). cond b (fresh (Soliciting exchange None)) None) t ∙ g.is);
            settled = ap (λ (b : Bool). cond b None (Some question))
                (and_from _ (gives settings.asks message) (and_from (is_answer settings question.said message) taken counted t) (gives_so is served));
          }))
      reply_comes is counted false t =
          inl (still (left Reply) (ap (λ (b : Bool). cond b None (Some question))
          (and_left _ (gives settings.asks message) (and_right (is_answer settings question.said message) taken t))))

      answer_comes : (k : ServerKind6) → message.kind ≡ k → is_answer settings question.said message ≡ true
          → Comes (granted_in (Soliciting exchange None)) (left k) (answered at salt message k (heard (Soliciting exchange None)))
      answer_comes Advertise is counted = advertise_comes is counted
      answer_comes Reply is counted =
          reply_comes is counted taken refl

      pub solicits_hears : Comes (granted_in (Soliciting exchange None)) (unanswered settings message pending) (hears_turned at salt message (client
          (Soliciting exchange None)))
      unfolding hears_turned
      solicits_hears =
          subst (λ (o : Option Question). Comes (granted_in (Soliciting exchange None)) (unanswered settings message o) (hears_turned at salt message (client
          (Soliciting exchange None))))
          (sym s.is)
          (cond_both (counts (client (Soliciting exchange None)) message) _ _ (Comes (granted_in (Soliciting exchange None)) (left message.kind))
          (λ counted. answer_comes message.kind refl counted)
          (λ ignored. inl (still (left message.kind) (ap (λ (b : Bool). cond b None (Some question))
          (no_answer settings question.said message message.kind ignored)))))

    -- ---- while further offers are waited for

    module _ (exchange : Exchange6) (preference : ℕ) (pending : Option Question) (c : Chooses l Offered at exchange pending) where
      abbrev state : State6
      state = Soliciting exchange (Some preference)

      none_left : unanswered settings message pending ≡ None
      none_left = ap (unanswered settings message) c.none

      still_chooses : Chooses l Offered at exchange (unanswered settings message pending)
      still_chooses = record { offered = c.offered; none = none_left; in_time = c.in_time; not_yet = c.not_yet }

      offer_more : (taken better : Bool) → Comes (granted_in state) (unanswered settings message pending) (chosen_by taken better exchange (Some preference))
      offer_more true better =
          inl (requests_now settings l Offered kept offered_plea (turn state) (unanswered settings message pending) c.offered none_left
          (choice_over at exchange.due c.not_yet c.in_time))
        where
          choice_over : (at due : ℕ) → at ≤ due → due ≤ first + 1100 → at ≤ first + 1100
          choice_over at due le h = omega arith
      offer_more false true = inl still_chooses
      offer_more false false = inl still_chooses

      abbrev taken_more : Bool
      taken_more = message.rapid && settings.site.rapid && serves settings.asks message

      reply_more : message.kind ≡ Reply → is_from None message.server ≡ true → (t : Bool) → taken_more ≡ t
          → Comes (granted_in state) (unanswered settings message pending)
          (stepped (heard_row (turn state) (cond t (grants_or_empties (cond t (fresh state) None)) answer.Nothing) state)
          (cond t (fresh state) None) (heard state))
      reply_more is from true t =
          let g : GrantsSome (fresh state) =
          grants state None from is (and_parts (message.rapid && settings.site.rapid) (serves settings.asks message) t).1 in
          subst (λ (o : Option Lease6Content). Comes (granted_in state) (unanswered settings message pending)
          (stepped (heard_row (turn state) (grants_or_empties o) state) o (heard state)))
          (sym g.is) (inr (record {
            lease = g.lease;
            bound = refl;
            held = refl;
            some_item = g.some_item;
            settled = none_left;
            granted = (
              is,
              ap (λ
                  (b : Bool). cond b (fresh state) None) t ∙ g.is,
            );
          }))
      reply_more is from false t = inl still_chooses

      more_comes : (k : ServerKind6) → message.kind ≡ k → counts (client state) message ≡ true
          → Comes (granted_in state) (unanswered settings message pending) (answered at salt message k (heard state))
      more_comes Advertise is counted =
          cond_both (serves settings.asks message) (answer.Offer message.preference) answer.Nothing
          (λ (a : Answer6). Comes (granted_in state) (unanswered settings message pending) (stepped (heard_row (turn state) a state) None
          (advertised a message (heard state))))
          (λ yes. offer_more (is_taken_at_once exchange message.preference) (is_better (Some preference) message.preference))
          (λ no. inl still_chooses)
      more_comes Reply is counted = reply_more is (and_parts _ (is_from None message.server) counted).1 taken_more refl

      pub chooses_hears : Comes (granted_in state) (unanswered settings message pending) (hears_turned at salt message (client state))
      unfolding hears_turned
      chooses_hears =
          cond_both (counts (client state) message) _ _ (Comes (granted_in state) (unanswered settings message pending))
          (λ counted. more_comes message.kind refl counted) (λ ignored. inl still_chooses)

    -- ---- while a REQUEST is pending

    module _ (exchange : Exchange6) (pending : Option Question) (r : Requests l Offered at exchange (plea_server plea) pending) where
      abbrev asked : Question
      asked = question_of kind.Request exchange.xid r.elapsed (plea_server plea) false r.ias r.asked

      abbrev left_of : ServerKind6 → Option Question
      left_of k = cond (answers k settings asked.said message) None (Some asked)

      still_requests : (after : Option Question) → after ≡ Some asked → Requests l Offered at exchange (plea_server plea) after
      still_requests after is = record {
        offered = r.offered;
        elapsed = r.elapsed;
        ias = r.ias;
        asked = r.asked;
        is = is;
        in_time = r.in_time;
        not_yet = r.not_yet;
        time = r.time;
        few = r.few;
      }

      granted_comes : message.kind ≡ Reply → is_answer settings asked.said message ≡ true → (t : Bool) → serves settings.asks message ≡ t
          → Comes (granted_in (Requesting exchange)) (left_of Reply)
          (stepped (heard_row (turn (Requesting exchange))
          (cond t (grants_or_empties (cond t (fresh (Requesting exchange)) None)) answer.Nothing) (Requesting exchange))
          (cond t (fresh (Requesting exchange)) None) (heard (Requesting exchange)))
      granted_comes is counted true t =
          let g : GrantsSome (fresh (Requesting exchange)) =
          grants (Requesting exchange) (plea_server plea) (and_parts _ (is_from (plea_server plea) message.server) counted).1 is t in
          subst (λ (o : Option Lease6Content). Comes (granted_in (Requesting exchange)) (left_of Reply)
          (stepped (heard_row (turn (Requesting exchange)) (grants_or_empties o) (Requesting exchange)) o (heard (Requesting exchange))))
          (sym g.is) (inr (record {
            lease = g.lease;
            bound = refl;
            held = refl;
            some_item = g.some_item;
            granted = (is, ap (λ (b : Bool). cond b (fresh (Requesting exchange)) None) t ∙ g.is);
            settled = ap (λ (b : Bool). cond b None (Some asked))
                (and_from _ (gives settings.asks message) (and_from (is_answer settings asked.said message) (serves settings.asks message) counted t)
                (gives_so is t));
          }))
      granted_comes is counted false t =
          inl (still_requests (left_of Reply) (ap (λ (b : Bool). cond b None (Some asked))
          (and_left _ (gives settings.asks message) (and_right (is_answer settings asked.said message) (serves settings.asks message) t))))

      reply_or_not : (k : ServerKind6) → message.kind ≡ k → is_answer settings asked.said message ≡ true
          → Comes (granted_in (Requesting exchange)) (left_of k) (answered at salt message k (heard (Requesting exchange)))
      reply_or_not Advertise is counted =
          inl (still_requests (left_of Advertise) (ap (λ (b : Bool). cond b None (Some asked))
          (and_left _ (serves settings.asks message) (and_right (is_answer settings asked.said message) false refl))))
      reply_or_not Reply is counted =
          granted_comes is counted (serves settings.asks message) refl

      pub requests_hears : Comes (granted_in (Requesting exchange)) (unanswered settings message pending) (hears_turned at salt message (client
          (Requesting exchange)))
      unfolding hears_turned
      requests_hears =
          subst (λ (o : Option Question). Comes (granted_in (Requesting exchange)) (unanswered settings message o) (hears_turned at salt message (client
          (Requesting exchange))))
          (sym r.is)
          (cond_both (counts (client (Requesting exchange)) message) _ _ (Comes (granted_in (Requesting exchange)) (left_of message.kind))
          (λ counted. reply_or_not message.kind refl counted)
          (λ ignored. inl (still_requests (left_of message.kind) (ap (λ (b : Bool). cond b None (Some asked))
          (no_answer settings asked.said message message.kind ignored)))))

    -- ---- before a SOLICIT

    waits_hears : (due : ℕ) (pending : Option Question) → Waits l at due pending
        → Comes (granted_in (Waiting due)) (unanswered settings message pending) (hears_turned at salt message (client (Waiting due)))
    unfolding hears_turned
    waits_hears due pending w =
        inl (record { none = ap (unanswered settings message) w.none; in_time = w.in_time; not_yet = w.not_yet })

    pub message_comes : (state : State6) (pending : Option Question) → Pending l Offered at state (plea_server plea) pending
        → Comes (granted_in state) (unanswered settings message pending) (hears_turned at salt message (client state))
    message_comes Off pending p = absurd p
    message_comes (Waiting due) pending p = waits_hears due pending p
    message_comes (Soliciting exchange None) pending p = solicits_hears exchange pending p
    message_comes (Soliciting exchange (Some preference)) pending p = chooses_hears exchange preference pending p
    message_comes (Requesting exchange) pending p = requests_hears exchange pending p
    message_comes Bound pending p = absurd p
    message_comes (Renewing exchange) pending p = absurd p
    message_comes (Rebinding exchange) pending p = absurd p
    message_comes (Restarting exchange end since stands) pending p = absurd p
    message_comes (Declining exchange) pending p = absurd p

  -- ---- other inputs

  used_comes : (Granted : Lease6Content → Type 0) (address : Ip6) (state : State6) (pending : Option Question) → Pending l Offered at state
      (plea_server plea) pending
      → Comes Granted pending (contested_turned address at salt (client state))
  unfolding contested_turned
  used_comes Granted address Off pending p = absurd p
  used_comes Granted address (Waiting due) pending p = inl p
  used_comes Granted address (Soliciting exchange None) pending p = inl p
  used_comes Granted address (Soliciting exchange (Some preference)) pending p = inl p
  used_comes Granted address (Requesting exchange) pending p = inl p
  used_comes Granted address Bound pending p = absurd p
  used_comes Granted address (Renewing exchange) pending p = absurd p
  used_comes Granted address (Rebinding exchange) pending p = absurd p
  used_comes Granted address (Restarting exchange end since stands) pending p = absurd p
  used_comes Granted address (Declining exchange) pending p = absurd p

  rebind_comes : (Granted : Lease6Content → Type 0) (state : State6) (pending : Option Question) → Pending l Offered at state (plea_server plea) pending
      → Comes Granted pending (rebind_turned at salt (client state))
  unfolding rebind_turned
  rebind_comes Granted Off pending p = absurd p
  rebind_comes Granted (Waiting due) pending p = inl p
  rebind_comes Granted (Soliciting exchange None) pending p = inl p
  rebind_comes Granted (Soliciting exchange (Some preference)) pending p = inl p
  rebind_comes Granted (Requesting exchange) pending p = inl p
  rebind_comes Granted Bound pending p = absurd p
  rebind_comes Granted (Renewing exchange) pending p = absurd p
  rebind_comes Granted (Rebinding exchange) pending p = absurd p
  rebind_comes Granted (Restarting exchange end since stands) pending p = absurd p
  rebind_comes Granted (Declining exchange) pending p = absurd p

  -- an offer may come
  abbrev pub MayOffer : Input6 → Type 0
  MayOffer (Hears message) = message.kind ≡ Advertise → Offered
  MayOffer _ = Unit {0}

  pub input_comes : (input : Input6) (state : State6) (pending : Option Question) → CarrierStays input → NothingIsDenied settings.asks input
      → MayOffer input → Pending l Offered at state (plea_server plea) pending
      → Comes (IsGrantedBy at (client state) input) (left_by settings input pending) (takes at salt input (client state))
  input_comes Quiet before pending stays gives_so offers p = inl p
  input_comes (Hears message) before pending stays gives_so offers p = message_comes message gives_so offers before pending p
  input_comes (IsUsed address) before pending stays gives_so offers p = used_comes (λ lease. ⊥) address before pending p
  input_comes Rebinds before pending stays gives_so offers p = rebind_comes (λ lease. ⊥) before pending p
  input_comes Drops before pending stays gives_so offers p = absurd stays
  input_comes (Releases tell) before pending stays gives_so offers p = absurd stays
