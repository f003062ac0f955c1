-- The judge tells the basis that all Replies give.
use Rattle.std.proofs.Common.{◌≡◌, ℕ, ◌<◌, ◌≤◌, ◌⊎◌, inl, inr, Bool, true, false, not, ◌&&◌, ◌||◌, List, [], ◌∷◌, ◌++◌, Option, Some, None, refl, sym, ap, subst, ◌∙◌, nat_lt, arith}
use Rattle.std.specs.List.{Contains}
use Rattle.std.specs.Prelude.{◌==◌, if◌then◌else◌}
use Rattle.std.proofs.lemmas.Bool.{and_parts, and_from, or_cases, or_left, or_right}
use Rattle.std.proofs.lemmas.Bool.Decides.{nat_tests}
use Rattle.machine.specs.Since.{Always, Since}
use Rattle.net_types.specs.declared.address.Net.{Net}
use Rattle.net_types.specs.declared.address.Net6.{Net6}
use Rattle.v6_options.specs.declared.ia.ItemSaid.{ItemSaid}
use Rattle.v6_options.specs.Ias.{IaContent, ias_in}
use Rattle.v6_message.specs.Replies.{Content6}
use Rattle.v6_client.specs.V6Items.declared.asks.IaAsk.{IaAsk}
use Rattle.v6_client.specs.V6Items.Reading.{serves}
use Rattle.v6_client_laws.specs.GivenItems.{IsHeldAs}
use Rattle.v6_client_laws.proofs.FirstItems.{middle_in}
use Rattle.v6_client_laws.proofs.Given.{messages_serve}
use Rattle.lease6_evidence.specs.EvidenceWords.Entries.{Entry}
use Rattle.lease6_evidence.specs.EvidenceWords.Inputs.{Site}
use Rattle.lease6_evidence.specs.Exchanges6.{Numbered6, Seen6, messages6_at, seen6_in, show6}
use Rattle.lease6_evidence.specs.ItemBasis.{AddressBasis, Gives, IsValid, ItemBasis, Mentions, Revises}
use Rattle.lease6_evidence.specs.Replies6.{FirstReply, GoodReply, NoReply, answers, asks_at, message6_at}
use Rattle.lease6_judge.specs.Watching.{Replied, Watch, watch_in}
use Rattle.lease6_judge.specs.Terms.{Term, not_held, if_left, is_held, is_left, longer, revises, term_in_saids}
use Rattle.lease6_judge.specs.HeardBasis.{HasItem, HeardAddressBasis, HeardBasis, HeardItem, Spares}
use Rattle.lease6_judge.specs.HeardTerms.{good_in, good_reply, heard_by, heard_in, if_unrevised, is_new, items_heard}
use Rattle.lease6_judge.specs.HeardLaws.{HeardItemsAreTold, HeldAddressesWereHeard, HeldWasHeard}
use Rattle.lease6_judge.proofs.Judging.{both_left, is_left_on, left_is, left_parts, none_not, one_reply, opposite}
use Rattle.lease6_judge.proofs.Numbering.{above_it, at_most, is_first_reply, numbers, seen_is, takes, unlike_by, was_had}
use Rattle.lease6_judge.proofs.TermsTold.{does_revise, given_in, held_longer, in_given, revised}
use Rattle.lease6_judge.proofs.ItemsRead.{given_of, lasting_of}

not_less : (a n : ℕ) → (a < n → ⊥) → n ≤ a
not_less a n none = by (nat_lt a n) refl
  where
    less : nat_lt a n ≡ true → a < n
    less h = grind (arith, nat_tests)

    by : (b : Bool) → nat_lt a n ≡ b → n ≤ a
    by true h = absurd (none (less h))
    by false h = grind (arith, nat_tests)

both_false : (new revises : Bool) → (new ≡ true → revises ≡ true → ⊥) → (new && revises) ≡ false
both_false true true none = absurd (none refl refl)
both_false true false none = refl
both_false false revises none = refl

-- ---- which Replies are good

module _ (site : Site) (e : Entry) (past : List Entry) where
  abbrev pub came_good : Option Replied
  came_good = good_reply site e (watch_in site past)

  shown_is : (current : Option Numbered6) (came : Option Content6) → (seen6_in site (e ∷ past)).current ≡ current
      → message6_at site e ≡ came → came_good ≡ good_in site current came
  shown_is current came is heard =
      ap (λ (seen : Seen6). good_in site (show6 (messages6_at site e) seen).current (message6_at site e)) (seen_is site past)
      ∙ ap (λ (o : Option Numbered6). good_in site o (message6_at site e)) is
      ∙ ap (λ (o : Option Content6). good_in site current o) heard

  good_from : (x : Numbered6) (m : Content6) → (seen6_in site (e ∷ past)).current ≡ Some x → message6_at site e ≡ Some m
      → (answers site x.exchange m && serves (asks_at site) m) ≡ true → GoodReply site x m e past
  good_from x m is came test =
      let parts = and_parts (answers site x.exchange m) (serves (asks_at site) m) test in
      record { is_open = is; came = came; good = parts.0; serves = (messages_serve (asks_at site) m).0 parts.1 }

  by_test : (x : Numbered6) (m : Content6) (r : Replied) (b : Bool) → (b ≡ true → GoodReply site x m e past)
      → (if b then Some (record { opened = x; message = m }) else None) ≡ Some r → GoodReply site r.opened r.message e past
  by_test x m r true good h =
      subst (λ (o : Replied). GoodReply site o.opened o.message e past) (one (record { opened = x; message = m }) r h) (good refl)
    where
      one : (a b : Replied) → Some a ≡ Some b → a ≡ b
      one a b e = cc
  by_test x m r false good h = absurd cc

  good_by : (current : Option Numbered6) (came : Option Content6) (r : Replied) → (seen6_in site (e ∷ past)).current ≡ current
      → message6_at site e ≡ came → good_in site current came ≡ Some r → GoodReply site r.opened r.message e past
  good_by None came r is heard h = absurd cc
  good_by (Some x) None r is heard h = absurd cc
  good_by (Some x) (Some m) r is heard h =
      by_test x m r (answers site x.exchange m && serves (asks_at site) m) (good_from x m is heard) h

  pub good_of : (r : Replied) → came_good ≡ Some r → GoodReply site r.opened r.message e past
  good_of r h =
      good_by (seen6_in site (e ∷ past)).current (message6_at site e) r refl refl
      (sym (shown_is (seen6_in site (e ∷ past)).current (message6_at site e) refl refl) ∙ h)

  pub has_good : (x : Numbered6) (m : Content6) → GoodReply site x m e past → came_good ≡ Some (record { opened = x; message = m })
  has_good x m good =
      shown_is (Some x) (Some m) good.is_open good.came
      ∙ ap (λ (b : Bool). if b then Some (record { opened = x; message = m }) else None)
      (and_from (answers site x.exchange m) (serves (asks_at site) m) good.good ((messages_serve (asks_at site) m).1 good.serves))

  -- what is first is new, and the other way
  pub new_first : (x : Numbered6) (m : Content6) → GoodReply site x m e past
      → is_new (watch_in site past).answered (record { opened = x; message = m }) ≡ true → FirstReply site x m e past
  new_first x m good new = is_first_reply site e past x m (takes site e past x m good new)

  pub first_new : (x : Numbered6) (m : Content6) → FirstReply site x m e past
      → is_new (watch_in site past).answered (record { opened = x; message = m }) ≡ true
  first_new x m first = unlike_by (watch_in site past).answered x.number (was_had site e past x m first)

-- ---- an exchange that gave something is no later than the last that was answered

module _ (site : Site) (ask : IaAsk) (net : Net6) (number now : ℕ) where
  had_none : (past : List Entry) → Since (Spares site ask net number) (HeardItem site ask net number now) past
      → Always (NoReply site number) past → ⊥
  had_none [] since none = absurd since
  had_none (e ∷ past) (inl g) none = none.0 g.opened g.message g.good g.same
  had_none (e ∷ past) (inr on) none = had_none past on.1 none.1

  within : (past : List Entry) → Since (Spares site ask net number) (HeardItem site ask net number now) past
      → number ≤ (watch_in site past).answered
  within past since =
      not_less (watch_in site past).answered number (λ less. had_none past since ((numbers site past).above number less))

-- ---- what is held has its basis

module _ (site : Site) (ask : IaAsk) (net : Net6) (now : ℕ) (e : Entry) (past : List Entry) where
  abbrev answered : ℕ
  answered = (watch_in site past).answered

  abbrev before : Term
  before = heard_in site ask net past

  abbrev kept : Term
  kept = if_left (is_left site ask net e (watch_in site past).up) before

  abbrev given : Content6 → Term
  given message = term_in_saids e.moment net (items_heard ask message)

  abbrev Unrevised : Type 0
  Unrevised = (opened : Numbered6) (message : Content6) → FirstReply site opened message e past → Revises ask net message → ⊥

  abbrev Before : Type 0
  Before = is_held now before ≡ true → HeardBasis site ask net now past

  stays_based : Unrevised → Before → is_held now kept ≡ true → HeardBasis site ask net now (e ∷ past)
  stays_based unrevised was h =
      let parts = left_parts (is_left site ask net e (watch_in site past).up) before now h in
      let on = is_left_on site ask net now e past parts.0 in
      let basis = was parts.1 in
      record {
        number = basis.number;
        since = inr (
          record { stays = on.0; own = on.1; unrevised = λ opened message first less rev. unrevised opened message first rev },
          basis.since,
        );
      }

  gives_now : (r : Replied) → came_good site e past ≡ Some r → is_held now (given r.message) ≡ true → HeardBasis site ask net now (e ∷ past)
  gives_now r is h =
      let lasting = lasting_of ask net e.moment now r.message (given_in e.moment net now (items_heard ask r.message) h) in
      record {
        number = r.opened.number;
        since = inl (record {
          opened = r.opened;
          message = r.message;
          good = good_of site e past r is;
          same = refl;
          has = lasting.has;
          some = lasting.some;
          valid = lasting.valid;
        });
      }

  revised_now : (r : Replied) → came_good site e past ≡ Some r → (is_new answered r && revises ask net r.message) ≡ false → Unrevised
  revised_now r is none opened message first rev =
      let one : record { opened = opened; message = message } ≡ r =
      one_reply (came_good site e past) (record { opened = opened; message = message }) r (has_good site e past opened message first.good) is in
      opposite (is_new answered r && revises ask net r.message)
      (subst (λ (x : Replied). (is_new answered x && revises ask net x.message) ≡ true) one
      (and_from (is_new answered (record { opened = opened; message = message })) (revises ask net message)
      (first_new site e past opened message first) (does_revise ask net message rev))) none

  stood : (r : Replied) → came_good site e past ≡ Some r → Before → (b : Bool) → (is_new answered r && revises ask net r.message) ≡ b
      → is_held now (if b then not_held else kept) ≡ true → HeardBasis site ask net now (e ∷ past)
  stood r is was true rev h = absurd cc
  stood r is was false rev h = stays_based (revised_now r is rev) was h

  based : Before → (k : Option Replied) → came_good site e past ≡ k → is_held now (heard_by e.moment answered ask net k kept) ≡ true
      → HeardBasis site ask net now (e ∷ past)
  based was None is h =
      stays_based (λ opened message first rev.
      none_not (came_good site e past) (record { opened = opened; message = message }) is (has_good site e past opened message first.good)) was h
  based was (Some r) is h =
      elim (or_cases (is_held now (given r.message)) (is_held now (if_unrevised (is_new answered r) ask net r.message kept))
      (sym (held_longer now (given r.message) (if_unrevised (is_new answered r) ask net r.message kept)) ∙ h)) [
        | inl new ↦ gives_now r is new
        | inr old ↦ stood r is was (is_new answered r && revises ask net r.message) refl old
      ]

  -- ---- what has its basis is held

  given_held : (number : ℕ) → HeardItem site ask net number now e past
      → is_held now (heard_by e.moment answered ask net (came_good site e past) kept) ≡ true
  given_held number g =
      let r : Replied = record { opened = g.opened; message = g.message } in
      let h : is_held now (given g.message) ≡ true =
      in_given e.moment net now (items_heard ask g.message)
      (given_of ask net e.moment now g.message (record { has = g.has; some = g.some; valid = g.valid })) in
      ap (λ (k : Option Replied). is_held now (heard_by e.moment answered ask net k kept)) (has_good site e past g.opened g.message g.good)
      ∙ held_longer now (given g.message) (if_unrevised (is_new answered r) ask net g.message kept)
      ∙ or_left (is_held now (given g.message)) (is_held now (if_unrevised (is_new answered r) ask net g.message kept)) h

  apart : (n a k : ℕ) → n ≤ a → a < k → n < k
  apart n a k le less = omega (arith, le, less)

  unrevised_still : (number : ℕ) → Spares site ask net number e past → number ≤ answered → (r : Replied) → came_good site e past ≡ Some r
      → (is_new answered r && revises ask net r.message) ≡ false
  unrevised_still number spares le r is =
      both_false (is_new answered r) (revises ask net r.message) (λ new rev.
      let good = good_of site e past r is in
      spares.unrevised r.opened r.message (new_first site e past r.opened r.message good new)
      (apart number answered r.opened.number le
      (above_it answered r.opened.number new (at_most site e past r.opened r.message good.is_open)))
      (revised ask net r.message rev))

  kept_on : (number : ℕ) → Spares site ask net number e past → number ≤ answered → is_held now kept ≡ true → (k : Option Replied)
      → came_good site e past ≡ k → is_held now (heard_by e.moment answered ask net k kept) ≡ true
  kept_on number spares le h None is = h
  kept_on number spares le h (Some r) is =
      held_longer now (given r.message) (if_unrevised (is_new answered r) ask net r.message kept)
      ∙ or_right (is_held now (given r.message)) (is_held now (if_unrevised (is_new answered r) ask net r.message kept))
      (ap (λ (b : Bool). is_held now (if b then not_held else kept)) (unrevised_still number spares le r is) ∙ h)

  kept_held : (number : ℕ) → Spares site ask net number e past → number ≤ answered → is_held now before ≡ true
      → is_held now (heard_by e.moment answered ask net (came_good site e past) kept) ≡ true
  kept_held number spares le h =
      kept_on number spares le
      (both_left (is_left site ask net e (watch_in site past).up) before now (left_is site ask net now e past spares.stays spares.own) h)
      (came_good site e past) refl

module _ (site : Site) (ask : IaAsk) (net : Net6) (now : ℕ) where
  sound : (past : List Entry) → is_held now (heard_in site ask net past) ≡ true → HeardBasis site ask net now past
  sound [] h = absurd cc
  sound (e ∷ past) h = based site ask net now e past (sound past) (came_good site e past) refl h

  whole : (number : ℕ) (past : List Entry) → Since (Spares site ask net number) (HeardItem site ask net number now) past
      → is_held now (heard_in site ask net past) ≡ true
  whole number [] since = absurd since
  whole number (e ∷ past) (inl g) = given_held site ask net now e past number g
  whole number (e ∷ past) (inr on) =
      kept_held site ask net now e past number on.0 (within site ask net number now past on.1) (whole number past on.1)

pub heard_told : HeardItemsAreTold
heard_told site ask net now past = (sound site ask net now past, λ basis. whole site ask net now basis.number past basis.since)

-- ---- what first Replies give, all give

module _ (ask : IaAsk) (net : Net6) (message : Content6) (m : Mentions ask net message) where
  abbrev has_said : HasItem ask net message
  has_said = record {
    ia = m.gives.ia;
    among =
        subst (λ (ias : List IaContent). Contains ias m.gives.ia) (sym m.gives.first.cut)
        (middle_in m.gives.first.before m.gives.ia m.gives.first.after);
    is = m.gives.first.is;
    well = m.gives.well;
    said = m.gives.said;
    of_ia =
        subst (λ (items : List ItemSaid). Contains items m.gives.said) (sym m.gives.among.cut)
        (middle_in m.gives.among.before m.gives.said m.gives.among.after);
    may = m.gives.among.may;
    item = subst (λ (n : Net6). IsHeldAs m.gives.ia.kind m.gives.said.net n) m.item m.gives.net;
  }

module _ (site : Site) (ask : IaAsk) (net : Net6) (now : ℕ) where
  heard_now : (e : Entry) (past : List Entry) → Gives site ask net now e past → HeardBasis site ask net now (e ∷ past)
  heard_now e past g = record {
    number = g.opened.number;
    since = inl (record {
      opened = g.opened;
      message = g.message;
      good = g.reply.good;
      same = refl;
      has = has_said ask net g.message g.mentions;
      some = subst (λ (v : ℕ). 0 < v) g.mentions.gives.valid g.some;
      valid = subst (λ (v : ℕ). IsValid e.moment v now) g.mentions.gives.valid g.valid;
    });
  }

  pub was_heard : (past : List Entry) → ItemBasis site ask net now past → HeardBasis site ask net now past
  was_heard [] basis = absurd basis
  was_heard (e ∷ past) (inl g) = heard_now e past g
  was_heard (e ∷ past) (inr on) =
      let basis = was_heard past on.1 in
      record {
        number = basis.number;
        since = inr (
          record {
            stays = on.0.stays;
            own = on.0.own;
            unrevised = λ opened message first less rev. on.0.unrevised opened message first rev;
          },
          basis.since,
        );
      }

pub held_was_heard : HeldWasHeard
held_was_heard site ask net now past basis = was_heard site ask net now past basis

pub addresses_were_heard : HeldAddressesWereHeard
addresses_were_heard site net now past it = record {
  ask = it.ask;
  asked = it.asked;
  is_address = it.is_address;
  item = it.item;
  is_item = it.is_item;
  basis = was_heard site it.ask it.item now past it.basis;
}
