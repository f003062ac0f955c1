-- What the judge keeps of an interface that asks for its kept lease of DHCPv6.
use Rattle.std.proofs.Common.{◌≡◌, ℕ, ◌+◌, ◌<◌, ◌⊎◌, inl, inr, Bool, true, false, ◌&&◌, List, [], ◌∷◌, Option, Some, None, IfSome, refl, sym, ap, subst, ◌∙◌}
use Rattle.std.proofs.lemmas.Bool.{and_parts, and_from, eqb-true, eq-eqb}
use Rattle.std.specs.Prelude.{◌==◌, if◌then◌else◌, is_some}
use Rattle.std.specs.List.{AllByRecursion, list_any}
use Rattle.machine.specs.Since.{Since, Always}
use Rattle.v6_message.specs.declared.kind.Kind6.{Kind6}
use Rattle.v6_message.specs.declared.kind.Kind6.TheVariants as kind
use Rattle.v6_message.specs.Replies.{Content6}
use Rattle.v6_frames.specs.Spelled.{Sent6}
use Rattle.v6_client.specs.declared.times.TheConstants.{RESTART_TIME}
use Rattle.v6_items.specs.Reading.{serves}
use Rattle.lease6_evidence.proofs.V6ClientLaws.Given.{messages_serve}
use Rattle.audit_words.specs.EvidenceWords.Entries.{Entry}
use Rattle.audit_words.specs.EvidenceWords.Inputs.{GoesOn, Site, StaysOn, carrier_after, has_carrier, index_at}
use Rattle.lease6_evidence.specs.Exchanges6.{Numbered6, messages6_at, seen6_in}
use Rattle.lease6_evidence.specs.KeptBasis6.{HearsNoReply, IsRebind, RebindsAlone, SaysNone6, StartsAsking}
use Rattle.lease6_evidence.specs.Replies6.{GoodReply, answers, asks_at, message6_at}
use Rattle.kept_judge.specs.Staying.{stays}
use Rattle.kept_judge.proofs.Left.{does_go, goes}
use Rattle.kept_judge.specs.declared.standing.Asked6.{Asked6}
use Rattle.kept_judge.specs.declared.standing.Asked6.TheVariants.{Nothing, Again, Over}
use Rattle.kept_judge.specs.Asking6.{has_reply, if_stays6, is_good_in, is_rebind, kept6_in, said6_all, unless_replied}

-- ---- REBINDs

rebind_is : (sort : Kind6) → is_rebind sort ≡ true → sort ≡ kind.Rebind
rebind_is kind.Solicit h = absurd cc
rebind_is kind.Request h = absurd cc
rebind_is kind.Renew h = absurd cc
rebind_is kind.Rebind h = refl
rebind_is kind.Release h = absurd cc
rebind_is kind.Decline h = absurd cc

abbrev AllRebind : (xid : ℕ) → List (Option Sent6) → Type 0
AllRebind xid messages = AllByRecursion (λ message. IfSome message (IsRebind xid)) messages

abbrev is_known : (xid : ℕ) → Sent6 → Bool
is_known xid sent = is_rebind sent.said.kind && (sent.said.xid == xid)

known_is : (xid : ℕ) (sent : Sent6) → is_known xid sent ≡ true → IsRebind xid sent
known_is xid sent h =
    let parts = and_parts (is_rebind sent.said.kind) (sent.said.xid == xid) h in
    record { kind = rebind_is sent.said.kind parts.0; same_xid = eqb-true sent.said.xid xid parts.1 }

is_known_by : (xid : ℕ) (sent : Sent6) → IsRebind xid sent → is_known xid sent ≡ true
is_known_by xid sent h =
    and_from (is_rebind sent.said.kind) (sent.said.xid == xid) (ap is_rebind h.kind) (eq-eqb sent.said.xid xid h.same_xid)

-- ---- the messages of a turn

module _ (at : ℕ) where
  pub over_all : (messages : List (Option Sent6)) → said6_all at messages Over ≡ Over
  over_all [] = refl
  over_all (None ∷ messages) = over_all messages
  over_all (Some sent ∷ messages) = over_all messages

  -- in an exchange
  abbrev Goes : (xid since : ℕ) → List (Option Sent6) → Asked6 → Type 0
  Goes xid since messages after = (after ≡ Over) ⊎ ((after ≡ Again xid since) × AllRebind xid messages)

  again_goes : (xid since : ℕ) (messages : List (Option Sent6)) → Goes xid since messages (said6_all at messages (Again xid since))
  again_goes xid since [] = inr (refl, tt)
  again_goes xid since (None ∷ messages) = elim (again_goes xid since messages) [ inl over ↦ inl over | inr h ↦ inr (h.0, (tt, h.1)) ]
  again_goes xid since (Some sent ∷ messages) = by (is_known xid sent) refl (again_goes xid since messages)
    where
      by : (b : Bool) → is_known xid sent ≡ b → Goes xid since messages (said6_all at messages (Again xid since))
          → Goes xid since (Some sent ∷ messages) (said6_all at messages (if b then Again xid since else Over))
      by false k more = inl (over_all messages)
      by true k more = elim more [ inl over ↦ inl over | inr h ↦ inr (h.0, (known_is xid sent k, h.1)) ]

  again_stays : (xid since : ℕ) (messages : List (Option Sent6)) → AllRebind xid messages
      → said6_all at messages (Again xid since) ≡ Again xid since
  again_stays xid since [] h = refl
  again_stays xid since (None ∷ messages) h = again_stays xid since messages h.1
  again_stays xid since (Some sent ∷ messages) h =
      ap (λ (b : Bool). said6_all at messages (if b then Again xid since else Over)) (is_known_by xid sent h.0)
      ∙ again_stays xid since messages h.1

  -- before any
  data Begins (messages : List (Option Sent6)) (after : Asked6) : Type 0 where
    says_none : after ≡ Nothing → list_any is_some messages ≡ false → Begins messages after
    says_first : (xid : ℕ) → after ≡ Again xid at → AllRebind xid messages → list_any is_some messages ≡ true → Begins messages after
    says_other : after ≡ Over → Begins messages after

  nothing_goes : (messages : List (Option Sent6)) → Begins messages (said6_all at messages Nothing)
  nothing_goes [] = says_none refl refl
  nothing_goes (None ∷ messages) = further (nothing_goes messages)
    where
      further : Begins messages (said6_all at messages Nothing) → Begins (None ∷ messages) (said6_all at messages Nothing)
      further (says_none is none) = says_none is none
      further (says_first xid is all some) = says_first xid is (tt, all) some
      further (says_other is) = says_other is
  nothing_goes (Some sent ∷ messages) = by (is_rebind sent.said.kind) refl
    where
      by : (b : Bool) → is_rebind sent.said.kind ≡ b
          → Begins (Some sent ∷ messages) (said6_all at messages (if b then Again sent.said.xid at else Over))
      by false k = says_other (over_all messages)
      by true k = elim (again_goes sent.said.xid at messages) [
        | inl over ↦ says_other over
        | inr h ↦ says_first sent.said.xid h.0 (record { kind = rebind_is sent.said.kind k; same_xid = refl }, h.1) refl
      ]

  nothing_stays : (messages : List (Option Sent6)) → list_any is_some messages ≡ false → said6_all at messages Nothing ≡ Nothing
  nothing_stays [] h = refl
  nothing_stays (None ∷ messages) h = nothing_stays messages h
  nothing_stays (Some sent ∷ messages) h = absurd cc

  begins_so : (xid : ℕ) (messages : List (Option Sent6)) → AllRebind xid messages → list_any is_some messages ≡ true
      → said6_all at messages Nothing ≡ Again xid at
  begins_so xid [] all h = absurd cc
  begins_so xid (None ∷ messages) all h = begins_so xid messages all.1 h
  begins_so xid (Some sent ∷ messages) all h =
      ap (λ (b : Bool). said6_all at messages (if b then Again sent.said.xid at else Over)) (ap is_rebind all.0.kind)
      ∙ ap (λ (x : ℕ). said6_all at messages (Again x at)) all.0.same_xid
      ∙ again_stays xid at messages all.1

-- a turn in which nothing is said has REBINDs alone, too
none_rebind : (xid : ℕ) (messages : List (Option Sent6)) → list_any is_some messages ≡ false → AllRebind xid messages
none_rebind xid [] h = tt
none_rebind xid (None ∷ messages) h = (tt, none_rebind xid messages h)
none_rebind xid (Some sent ∷ messages) h = absurd cc

-- ---- replies

opposite : (b : Bool) → b ≡ true → b ≡ false → ⊥
opposite true t f = cc
opposite false t f = cc

module _ (site : Site) where
  module _ (e : Entry) (past : List Entry) where
    good_in : (current : Option Numbered6) (came : Option Content6) (x : Numbered6) (m : Content6) → current ≡ Some x → came ≡ Some m
        → answers site x.exchange m ≡ true → serves (asks_at site) m ≡ true → is_good_in site current came ≡ true
    good_in current came x m c k a s =
        ap (λ (o : Option Numbered6). is_good_in site o came) c ∙ ap (λ (o : Option Content6). is_good_in site (Some x) o) k
        ∙ and_from (answers site x.exchange m) (serves (asks_at site) m) a s

    -- a good Reply is known as one,
    replied_by : (x : Numbered6) (m : Content6) → GoodReply site x m e past → has_reply site e past ≡ true
    replied_by x m g =
        good_in (seen6_in site (e ∷ past)).current (message6_at site e) x m g.is_open g.came g.good
        ((messages_serve (asks_at site) m).1 g.serves)

    hears_none : has_reply site e past ≡ false → HearsNoReply site e past
    hears_none none x m g = opposite (has_reply site e past) (replied_by x m g) none

    -- and no other message is
    by_parts : (current : Option Numbered6) (came : Option Content6) → (seen6_in site (e ∷ past)).current ≡ current → message6_at site e ≡ came
        → HearsNoReply site e past → is_good_in site current came ≡ true → ⊥
    by_parts None came c k none h = absurd cc
    by_parts (Some x) None c k none h = absurd cc
    by_parts (Some x) (Some m) c k none h =
        let parts = and_parts (answers site x.exchange m) (serves (asks_at site) m) h in
        none x m (record { is_open = c; came = k; good = parts.0; serves = (messages_serve (asks_at site) m).0 parts.1 })

    none_heard : HearsNoReply site e past → has_reply site e past ≡ false
    none_heard none = by (has_reply site e past) refl
      where
        by : (b : Bool) → has_reply site e past ≡ b → b ≡ false
        by false k = refl
        by true k =
            absurd (by_parts (seen6_in site (e ∷ past)).current (message6_at site e) refl refl none k)

  -- ---- what is kept has happened

  pub record Silent (past : List Entry) : Type 0 where
    pub stays : Always (StaysOn site) past
    pub silent : Always (SaysNone6 site) past
    pub unanswered : Always (HearsNoReply site) past

  pub record Asking (xid since : ℕ) (past : List Entry) : Type 0 where
    pub stays : Always (StaysOn site) past
    pub began : (now : ℕ) → now < since + RESTART_TIME → Since (RebindsAlone site xid) (StartsAsking site xid now) past
    pub unanswered : Always (HearsNoReply site) past

  abbrev pub Stands : Asked6 → List Entry → Type 0
  Stands Nothing past = Silent past
  Stands (Again xid since) past = Asking xid since past
  Stands Over past = Unit {0}

  pub up_is : (past : List Entry) → (kept6_in site past).up ≡ has_carrier site past
  up_is [] = refl
  up_is (e ∷ past) = ap (carrier_after (index_at site) e.event) (up_is past)

  abbrev stays_at : Entry → List Entry → Bool
  stays_at e past = stays (kept6_in site past).up (index_at site) e.event

  goes_at : (e : Entry) (past : List Entry) → stays_at e past ≡ true → StaysOn site e past
  goes_at e past h =
      subst (λ (up : Bool). GoesOn up (index_at site) e.event) (up_is past) (goes (kept6_in site past).up (index_at site) e.event h)

  does_at : (e : Entry) (past : List Entry) → StaysOn site e past → stays_at e past ≡ true
  does_at e past h =
      does_go (kept6_in site past).up (index_at site) e.event
      (subst (λ (up : Bool). GoesOn up (index_at site) e.event) (sym (up_is past)) h)

  module _ (e : Entry) (past : List Entry) (on : StaysOn site e past) (none : HearsNoReply site e past) where
    from_silent : Silent past → (after : Asked6) → Begins e.moment (messages6_at site e) after → Stands after (e ∷ past)
    from_silent was after (says_none is quiet) =
        subst (λ (a : Asked6). Stands a (e ∷ past)) (sym is)
        (record { stays = (on, was.stays); silent = (quiet, was.silent); unanswered = (none, was.unanswered) })
    from_silent was after (says_first xid is all speaks) =
        subst (λ (a : Asked6). Stands a (e ∷ past)) (sym is) (record {
          stays = (on, was.stays);
          began = λ now soon. inl (record { speaks = speaks; alone = all; first = was.silent; soon = soon });
          unanswered = (none, was.unanswered);
        })
    from_silent was after (says_other is) = subst (λ (a : Asked6). Stands a (e ∷ past)) (sym is) tt

    from_asking : (xid since : ℕ) → Asking xid since past → (after : Asked6) → Goes e.moment xid since (messages6_at site e) after
        → Stands after (e ∷ past)
    from_asking xid since was after (inl is) = subst (λ (a : Asked6). Stands a (e ∷ past)) (sym is) tt
    from_asking xid since was after (inr h) =
        subst (λ (a : Asked6). Stands a (e ∷ past)) (sym h.0) (record {
          stays = (on, was.stays);
          began = λ now soon. inr (h.1, was.began now soon);
          unanswered = (none, was.unanswered);
        })

    from : (asked : Asked6) → Stands asked past → Stands (said6_all e.moment (messages6_at site e) asked) (e ∷ past)
    from Nothing was = from_silent was (said6_all e.moment (messages6_at site e) Nothing) (nothing_goes e.moment (messages6_at site e))
    from (Again xid since) was =
        from_asking xid since was (said6_all e.moment (messages6_at site e) (Again xid since))
        (again_goes e.moment xid since (messages6_at site e))
    from Over was = subst (λ (a : Asked6). Stands a (e ∷ past)) (sym (over_all e.moment (messages6_at site e))) tt

  module _ (e : Entry) (past : List Entry) where
    next : (goes_on replied : Bool) → stays_at e past ≡ goes_on → has_reply site e past ≡ replied → (asked : Asked6) → Stands asked past
        → Stands (unless_replied replied (said6_all e.moment (messages6_at site e) (if_stays6 goes_on asked))) (e ∷ past)
    next goes_on true s r asked was = tt
    next false false s r asked was = subst (λ (a : Asked6). Stands a (e ∷ past)) (sym (over_all e.moment (messages6_at site e))) tt
    next true false s r asked was = from e past (goes_at e past s) (hears_none e past r) asked was

  pub stands : (past : List Entry) → Stands (kept6_in site past).asked past
  stands [] = record { stays = tt; silent = tt; unanswered = tt }
  stands (e ∷ past) = next e past (stays_at e past) (has_reply site e past) refl refl (kept6_in site past).asked (stands past)

  -- ---- what has happened is kept

  after_turn : (e : Entry) (past : List Entry) → StaysOn site e past → HearsNoReply site e past
      → (kept6_in site (e ∷ past)).asked ≡ said6_all e.moment (messages6_at site e) (kept6_in site past).asked
  after_turn e past on none =
      ap (λ (b : Bool). unless_replied b (said6_all e.moment (messages6_at site e) (if_stays6 (stays_at e past) (kept6_in site past).asked)))
      (none_heard e past none)
      ∙ ap (λ (b : Bool). said6_all e.moment (messages6_at site e) (if_stays6 b (kept6_in site past).asked)) (does_at e past on)

  silent_is : (past : List Entry) → Always (StaysOn site) past → Always (SaysNone6 site) past → Always (HearsNoReply site) past
      → (kept6_in site past).asked ≡ Nothing
  silent_is [] on quiet none = refl
  silent_is (e ∷ past) on quiet none =
      after_turn e past on.0 none.0
      ∙ ap (said6_all e.moment (messages6_at site e)) (silent_is past on.1 quiet.1 none.1)
      ∙ nothing_stays e.moment (messages6_at site e) quiet.0

  pub record IsAgain (xid now : ℕ) (asked : Asked6) : Type 0 where
    pub since : ℕ
    pub is : asked ≡ Again xid since
    pub soon : now < since + RESTART_TIME

  pub asking_is : (xid now : ℕ) (past : List Entry) → Always (StaysOn site) past
      → Since (RebindsAlone site xid) (StartsAsking site xid now) past → Always (HearsNoReply site) past
      → IsAgain xid now (kept6_in site past).asked
  asking_is xid now [] on since none = absurd since
  asking_is xid now (e ∷ past) on since none = elim since [
    | inl start ↦ record {
      since = e.moment;
      is =
          after_turn e past on.0 none.0
          ∙ ap (said6_all e.moment (messages6_at site e)) (silent_is past on.1 start.first none.1)
          ∙ begins_so e.moment xid (messages6_at site e) start.alone start.speaks;
      soon = start.soon;
    }
    | inr more ↦ let before = asking_is xid now past on.1 more.1 none.1 in
        record {
          since = before.since;
          is =
              after_turn e past on.0 none.0
              ∙ ap (said6_all e.moment (messages6_at site e)) before.is
              ∙ again_stays e.moment xid before.since (messages6_at site e) more.0;
          soon = before.soon;
        }
  ]
