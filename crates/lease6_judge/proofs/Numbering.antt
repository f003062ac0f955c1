-- Which Replies are the first of their exchanges is told by the number of the last exchange that had one.
use Rattle.std.proofs.Common.{◌≡◌, ℕ, ◌<◌, ◌≤◌, Bool, true, false, not, ◌&&◌, List, [], ◌∷◌, Option, Some, None, IfSome, refl, sym, ap, subst, ◌∙◌, arith}
use Rattle.std.proofs.lemmas.Bool.{and_parts, and_from}
use Rattle.std.proofs.lemmas.Bool.Decides.{nat_tests}
use Rattle.std.specs.Prelude.{◌==◌, if◌then◌else◌}
use Rattle.machine.specs.Since.{Always}
use Rattle.v6_message.specs.Replies.{Content6}
use Rattle.v6_message.specs.Requests.{SaidContent}
use Rattle.v6_frames.specs.Spelled.{Sent6}
use Rattle.v6_client.specs.V6Items.Reading.{serves}
use Rattle.v6_client_laws.proofs.Given.{messages_serve}
use Rattle.lease6_evidence.specs.EvidenceWords.Entries.{Entry}
use Rattle.lease6_evidence.specs.EvidenceWords.Inputs.{Site, index_at, has_carrier, carrier_after}
use Rattle.lease6_evidence.specs.Exchanges6.{Numbered6, Seen6, asks, asks_reply, closes6, joined6, messages6_at, opens6, seen6_in, show6, shows6}
use Rattle.lease6_evidence.specs.Replies6.{FirstReply, GoodReply, NoReply, answers, asks_at, message6_at}
use Rattle.lease6_judge.specs.Watching.{Replied, answered_after, first_in, first_reply, is_first, watch_in}
use Rattle.lease6_judge.specs.Laws.{FirstRepliesAreTold}

pub up_is : (site : Site) (past : List Entry) → (watch_in site past).up ≡ has_carrier site past
up_is site [] = refl
up_is site (e ∷ past) = ap (carrier_after (index_at site) e.event) (up_is site past)

pub seen_is : (site : Site) (past : List Entry) → (watch_in site past).seen ≡ seen6_in site past
seen_is site [] = refl
seen_is site (e ∷ past) = ap (show6 (messages6_at site e)) (seen_is site past)

-- ---- the open exchange is the last one

record Grown (count : ℕ) (seen : Seen6) : Type 0 where
  pub grown : count ≤ seen.count
  pub latest : IfSome seen.current (λ x. (x.number ≡ seen.count) × (0 < x.number))

either : (b : Bool) (one other : Seen6) (count : ℕ) → Grown count one → Grown count other → Grown count (if b then one else other)
either true one other count k l = k
either false one other count k l = l

opened_grown : (said : SaidContent) (before count : ℕ) → before ≤ count → Grown before (opens6 said count)
opened_grown said before count le = record { grown = omega (arith, le); latest = (refl, omega arith) }

asked_grown : (said : SaidContent) (before count : ℕ) (current : Option Numbered6) → Grown before (record { count = count; current = current })
    → Grown before (asks said (record { count = count; current = current }) current)
asked_grown said before count None k = opened_grown said before count k.grown
asked_grown said before count (Some x) k =
    either (said.xid == x.exchange.xid) (joined6 said (record { count = count; current = Some x }) x) (opens6 said count) before
    (record { grown = k.grown; latest = k.latest }) (opened_grown said before count k.grown)

one_grown : (before : ℕ) (message : Option Sent6) (seen : Seen6) → Grown before seen → Grown before (shows6 message seen)
one_grown before None seen k = k
one_grown before (Some sent) seen k =
    either (asks_reply sent.said.kind sent.said.rapid) (asks sent.said seen seen.current) (closes6 seen) before
    (asked_grown sent.said before seen.count seen.current k) (record { grown = k.grown; latest = tt })

all_grown : (before : ℕ) (messages : List (Option Sent6)) (seen : Seen6) → Grown before seen → Grown before (show6 messages seen)
all_grown before [] seen k = k
all_grown before (message ∷ messages) seen k = all_grown before messages (shows6 message seen) (one_grown before message seen k)

itself : (n : ℕ) → n ≤ n
itself n = omega arith

seen_grown : (site : Site) (past : List Entry) → Grown 0 (seen6_in site past)
seen_grown site [] = record { grown = itself 0; latest = tt }
seen_grown site (e ∷ past) = all_grown 0 (messages6_at site e) (seen6_in site past) (seen_grown site past)

turn_grown : (site : Site) (e : Entry) (past : List Entry) → Grown (seen6_in site past).count (seen6_in site (e ∷ past))
turn_grown site e past =
    all_grown (seen6_in site past).count (messages6_at site e) (seen6_in site past)
    (record { grown = itself (seen6_in site past).count; latest = (seen_grown site past).latest })

pub number_is : (site : Site) (e : Entry) (past : List Entry) (x : Numbered6) → (seen6_in site (e ∷ past)).current ≡ Some x
    → (x.number ≡ (seen6_in site (e ∷ past)).count) × (0 < x.number)
number_is site e past x is =
    subst (λ (o : Option Numbered6). IfSome o (λ y. (y.number ≡ (seen6_in site (e ∷ past)).count) × (0 < y.number))) is
    (turn_grown site e past).latest

-- ---- what is taken for a first Reply

unlike : (a b : ℕ) → a < b → not (a == b) ≡ true
unlike a b less = grind (arith, nat_tests)

pub unlike_by : (a b : ℕ) → (a ≡ b → ⊥) → not (a == b) ≡ true
unlike_by a b h = grind (arith, nat_tests)

alike_not : (a b : ℕ) → not (a == b) ≡ true → a ≡ b → ⊥
alike_not a b h e = grind (arith, nat_tests)

pub above_it : (a b : ℕ) → not (a == b) ≡ true → a ≤ b → a < b
above_it a b h le = grind (arith, nat_tests)

module _ (site : Site) (e : Entry) (past : List Entry) where
  abbrev known : ℕ
  known = (watch_in site past).answered

  shown_is : (current : Option Numbered6) (came : Option Content6) → (seen6_in site (e ∷ past)).current ≡ current
      → message6_at site e ≡ came → first_reply site e (watch_in site past) ≡ first_in site known current came
  shown_is current came is heard =
      ap (λ (seen : Seen6). first_in site known (show6 (messages6_at site e) seen).current (message6_at site e)) (seen_is site past)
      ∙ ap (λ (o : Option Numbered6). first_in site known o (message6_at site e)) is
      ∙ ap (λ (o : Option Content6). first_in site known current o) heard

  record Taken (r : Replied) : Type 0 where
    pub good : GoodReply site r.opened r.message e past
    pub new : not (known == r.opened.number) ≡ true

  taken_of : (x : Numbered6) (m : Content6) → (seen6_in site (e ∷ past)).current ≡ Some x → message6_at site e ≡ Some m
      → is_first site known x m ≡ true → Taken (record { opened = x; message = m })
  taken_of x m is came first =
      let both = and_parts (answers site x.exchange m && serves (asks_at site) m) (not (known == x.number)) first in
      let parts = and_parts (answers site x.exchange m) (serves (asks_at site) m) both.0 in
      record {
        good = record { is_open = is; came = came; good = parts.0; serves = (messages_serve (asks_at site) m).0 parts.1 };
        new = both.1;
      }

  by_test : (x : Numbered6) (m : Content6) (r : Replied) (b : Bool) → (b ≡ true → Taken (record { opened = x; message = m }))
      → (if b then Some (record { opened = x; message = m }) else None) ≡ Some r → Taken r
  by_test x m r true taken h = subst (λ (o : Replied). Taken o) (one (record { opened = x; message = m }) r h) (taken refl)
    where
      one : (a b : Replied) → Some a ≡ Some b → a ≡ b
      one a b e = cc
  by_test x m r false taken h = absurd cc

  taken_in : (current : Option Numbered6) (came : Option Content6) (r : Replied) → (seen6_in site (e ∷ past)).current ≡ current
      → message6_at site e ≡ came → first_in site known current came ≡ Some r → Taken r
  taken_in None came r is heard h = absurd cc
  taken_in (Some x) None r is heard h = absurd cc
  taken_in (Some x) (Some m) r is heard h = by_test x m r (is_first site known x m) (taken_of x m is heard) h

  taken : (r : Replied) → first_reply site e (watch_in site past) ≡ Some r → Taken r
  taken r h =
      taken_in (seen6_in site (e ∷ past)).current (message6_at site e) r refl refl
      (sym (shown_is (seen6_in site (e ∷ past)).current (message6_at site e) refl refl) ∙ h)

  pub takes : (x : Numbered6) (m : Content6) → GoodReply site x m e past → not (known == x.number) ≡ true
      → first_reply site e (watch_in site past) ≡ Some (record { opened = x; message = m })
  takes x m good new =
      shown_is (Some x) (Some m) good.is_open good.came
      ∙ ap (λ (b : Bool). if b then Some (record { opened = x; message = m }) else None)
      (and_from (answers site x.exchange m && serves (asks_at site) m) (not (known == x.number))
      (and_from (answers site x.exchange m) (serves (asks_at site) m) good.good ((messages_serve (asks_at site) m).1 good.serves)) new)

-- ---- the number of the last exchange with a good Reply

pub record Known (site : Site) (answered : ℕ) (past : List Entry) : Type 0 where
  pub within : answered ≤ (seen6_in site past).count
  pub above : (n : ℕ) → answered < n → Always (NoReply site n) past
  pub had : 0 < answered → Always (NoReply site answered) past → ⊥

not_both : (o : Option Replied) (r : Replied) → o ≡ None → o ≡ Some r → ⊥
not_both None r n s = cc
not_both (Some x) r n s = cc

module _ (site : Site) (e : Entry) (past : List Entry) (before : Known site (watch_in site past).answered past) where
  unheard : first_reply site e (watch_in site past) ≡ None → (n : ℕ) → (watch_in site past).answered < n → NoReply site n e past
  unheard is n less opened message good same =
      not_both (first_reply site e (watch_in site past)) (record { opened = opened; message = message }) is
      (takes site e past opened message good
      (unlike (watch_in site past).answered opened.number (subst (λ (k : ℕ). (watch_in site past).answered < k) (sym same) less)))

  none_after : (r : Replied) → GoodReply site r.opened r.message e past → (n : ℕ) → r.opened.number < n → NoReply site n e past
  none_after r good n less opened message other same =
      let one = (number_is site e past r.opened good.is_open).0 in
      let two = (number_is site e past opened other.is_open).0 in
      omega (arith, one, two, same, less)

  known_after : (k : Option Replied) → first_reply site e (watch_in site past) ≡ k
      → Known site (answered_after k (watch_in site past).answered) (e ∷ past)
  known_after None is = record {
    within = let w = before.within in let g = (turn_grown site e past).grown in omega (arith, w, g);
    above = λ n less. (unheard is n less, before.above n less);
    had = λ some none. before.had some none.1;
  }
  known_after (Some r) is =
      let good = (taken site e past r is).good in
      let number = (number_is site e past r.opened good.is_open).0 in
      record {
        within = omega (arith, number);
        above = λ n less. (
          none_after r good n less,
          before.above n (let w = before.within in let g = (turn_grown site e past).grown in omega (arith, w, g, number, less)),
        );
        had = λ some none. none.0 r.opened r.message good refl;
      }

pub numbers : (site : Site) (past : List Entry) → Known site (watch_in site past).answered past
numbers site [] = record { within = itself 0; above = λ n less. tt; had = λ some none. omega (arith, some) }
numbers site (e ∷ past) = known_after site e past (numbers site past) (first_reply site e (watch_in site past)) refl

-- ---- so first Replies are told

module _ (site : Site) (e : Entry) (past : List Entry) (x : Numbered6) (m : Content6) where
  abbrev answered : ℕ
  answered = (watch_in site past).answered

  pub at_most : (seen6_in site (e ∷ past)).current ≡ Some x → answered ≤ x.number
  at_most is =
      let number = (number_is site e past x is).0 in
      let w = (numbers site past).within in
      let g = (turn_grown site e past).grown in
      omega (arith, number, w, g)

  pub is_first_reply : first_reply site e (watch_in site past) ≡ Some (record { opened = x; message = m }) → FirstReply site x m e past
  is_first_reply h =
      let t = taken site e past (record { opened = x; message = m }) h in
      record {
        good = t.good;
        first = (numbers site past).above x.number (above_it answered x.number t.new (at_most t.good.is_open));
      }

  pub was_had : FirstReply site x m e past → answered ≡ x.number → ⊥
  was_had first is =
      (numbers site past).had (subst (λ (n : ℕ). 0 < n) (sym is) (number_is site e past x first.good.is_open).1)
      (subst (λ (n : ℕ). Always (NoReply site n) past) (sym is) first.first)

  pub has_first_reply : FirstReply site x m e past → first_reply site e (watch_in site past) ≡ Some (record { opened = x; message = m })
  has_first_reply first = takes site e past x m first.good (unlike_by answered x.number (was_had first))

pub first_told : FirstRepliesAreTold
first_told site e past x m = (is_first_reply site e past x m, has_first_reply site e past x m)
