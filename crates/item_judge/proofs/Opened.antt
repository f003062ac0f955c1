-- The exchange that the judge keeps is the open one.
use Rattle.std.proofs.Common.{◌≡◌, ℕ, ◌+◌, ◌<◌, ◌≤◌, Bool, true, false, not, ◌&&◌, ◌||◌, List, [], ◌∷◌, ◌++◌, Option, Some, None, IfSome, refl, sym, ap, subst, ◌∙◌, arith}
use Rattle.std.specs.List.{list_all}
use Rattle.std.specs.Prelude.{◌==◌, bytes_eq, if◌then◌else◌, option_to_list}
use Rattle.std.proofs.lemmas.Bool.Decides.{nat_tests}
use Rattle.std.proofs.lemmas.Slice.Eq.{bytes_eq-Decides}
use Rattle.v6_message.specs.Replies.{Content6}
use Rattle.v6_message.specs.Requests.{SaidContent}
use Rattle.v6_frames.specs.Spelled.{Sent6}
use Rattle.v6_client.specs.Answers.{has_bytes, is_duid}
use Rattle.v6_items.specs.Reading.{serves}
use Rattle.evidence_words.specs.Entries.{Entry}
use Rattle.evidence_words.specs.Inputs.{Site}
use Rattle.lease6_evidence.specs.Exchanges6.{Exchange, Numbered6, Seen6, asks, asks_reply, closes6, is_solicit, joined6, messages6_at, opens6, seen6_in, show6, shows6}
use Rattle.lease6_evidence.specs.Replies6.{answers, asks_at, is_from, is_reply, message6_at}
use Rattle.lease6_judge.specs.HeardTerms.{good_in, good_reply, is_new}
use Rattle.lease6_judge.specs.Watching.{Replied, answered_after, first_in, first_reply, is_first, watch_in}
use Rattle.lease6_judge.proofs.Numbering.{numbers, seen_is}
use Rattle.item_judge.specs.Asking as judge
use Rattle.item_judge.specs.Asking.{AskingContent, Heard, Named, nobody, one, unlike, all_next, asked, asking_after, asking_shown, begun, heard_at, heard_by, is_good, is_named, joined, names_too, said_next, sent_next, with_answer, with_server}
use Rattle.item_judge.specs.Telling.{HeardIsTold, IsHeard, IsOpen, OpenIsTold, TellsHeard, TellsOpen, asking_in}

-- ---- servers

all_more : (test : List ℕ → Bool) (xs : List (List ℕ)) (x : List ℕ) → list_all test (xs ++ x ∷ []) ≡ (list_all test xs && test x)
all_more test [] x = last (test x)
  where
    last : (b : Bool) → (b && true) ≡ b
    last true = refl
    last false = refl
all_more test (y ∷ xs) x = ap (λ (b : Bool). test y && b) (all_more test xs x) ∙ assoc (test y) (list_all test xs) (test x)
  where
    assoc : (a b c : Bool) → (a && (b && c)) ≡ ((a && b) && c)
    assoc true b c = refl
    assoc false b c = refl

same_bytes : (a b : List ℕ) → bytes_eq a b ≡ true → a ≡ b
same_bytes a b h = (bytes_eq-Decides a b).0 h

with_itself : (b : Bool) → b ≡ (b && b)
with_itself true = refl
with_itself false = refl

not_both : (a b : Bool) → (a ≡ true → b ≡ true → ⊥) → false ≡ (a && b)
not_both true true h = absurd (h refl refl)
not_both true false h = refl
not_both false b h = refl

named_too : (named : Named) (other server : List ℕ) → is_named (names_too other named) server ≡ (is_named named server && bytes_eq server other)
named_too nobody other server = refl
named_too (one before) other server = by (bytes_eq other before) refl
  where
    apart : bytes_eq other before ≡ false → bytes_eq server before ≡ true → bytes_eq server other ≡ true → ⊥
    apart isnt a b =
        let same : other ≡ before = sym (same_bytes server other b) ∙ same_bytes server before a in
        let yes : bytes_eq other before ≡ true = (bytes_eq-Decides other before).1 same in
        both (bytes_eq other before) yes isnt
      where
        both : (x : Bool) → x ≡ true → x ≡ false → ⊥
        both true y n = cc
        both false y n = cc

    by : (b : Bool) → bytes_eq other before ≡ b
        → is_named (if b then one before else unlike) server ≡ (bytes_eq server before && bytes_eq server other)
    by true h =
        with_itself (bytes_eq server before)
        ∙ ap (λ (x : List ℕ). bytes_eq server before && bytes_eq server x) (sym (same_bytes other before h))
    by false h = not_both (bytes_eq server before) (bytes_eq server other) (apart h)
named_too unlike other server = refl

abbrev Names : Named → List (List ℕ) → Type 0
Names named servers = (server : List ℕ) → is_named named server ≡ list_all (λ named. bytes_eq server named) servers

names_more : (named : Named) (servers : List (List ℕ)) (said : Option (List ℕ)) → Names named servers
    → Names (with_server said named) (servers ++ option_to_list said)
names_more named servers None names server = names server ∙ ap (list_all (λ n. bytes_eq server n)) (sym (no_more servers))
  where
    no_more : (xs : List (List ℕ)) → xs ++ [] ≡ xs
    no_more [] = refl
    no_more (x ∷ xs) = ap (λ rest. x ∷ rest) (no_more xs)
names_more named servers (Some other) names server =
    named_too named other server
    ∙ ap (λ (b : Bool). b && bytes_eq server other) (names server)
    ∙ sym (all_more (λ n. bytes_eq server n) servers other)

names_first : (said : Option (List ℕ)) → Names (with_server said nobody) (option_to_list said)
names_first None server = refl
names_first (Some other) server = with_true (bytes_eq server other)
  where
    with_true : (b : Bool) → b ≡ (b && true)
    with_true true = refl
    with_true false = refl

-- ---- the interface's own messages

new_number : (answered count : ℕ) → answered ≤ count → false ≡ (answered == (count + 1))
new_number answered count le = grind (arith, nat_tests)

module _ (answered : ℕ) where
  record Opens (asking : Option AskingContent) (seen : Seen6) : Type 0 where
    pub within : answered ≤ seen.count
    pub open_one : TellsOpen answered asking seen.current

  begins : (said : SaidContent) (count : ℕ) → answered ≤ count → Opens (Some (begun said)) (opens6 said count)
  begins said count le = record {
    within = omega (arith, le);
    open_one = record { xid = refl; solicits = refl; named = names_first said.server; known = new_number answered count le };
  }

  joins : (said : SaidContent) (asking : AskingContent) (opened : Numbered6) (seen : Seen6) → answered ≤ seen.count → IsOpen answered asking opened
      → Opens (Some (joined said asking)) (joined6 said seen opened)
  joins said asking opened seen le is = record {
    within = le;
    open_one = record {
      xid = is.xid;
      solicits = ap (λ (b : Bool). b || is_solicit said.kind) is.solicits;
      named = names_more asking.named opened.exchange.servers said.server is.named;
      known = is.known;
    };
  }

  either : (b : Bool) (said : SaidContent) (asking : AskingContent) (opened : Numbered6) (seen : Seen6) → answered ≤ seen.count
      → IsOpen answered asking opened
      → Opens (Some (if b then joined said asking else begun said)) (if b then joined6 said seen opened else opens6 said seen.count)
  either true said asking opened seen le is = joins said asking opened seen le is
  either false said asking opened seen le is = begins said seen.count le

  asks_on : (said : SaidContent) (asking : Option AskingContent) (count : ℕ) (current : Option Numbered6) → answered ≤ count
      → TellsOpen answered asking current
      → Opens (Some (asked said asking)) (asks said (record { count = count; current = current }) current)
  asks_on said None count None le is = begins said count le
  asks_on said None count (Some opened) le is = absurd is
  asks_on said (Some asking) count None le is = absurd is
  asks_on said (Some asking) count (Some opened) le is =
      let seen : Seen6 = record { count = count; current = Some opened } in
      let test : (said.xid == asking.xid) ≡ (said.xid == opened.exchange.xid) = ap (λ (x : ℕ). said.xid == x) is.xid in
      subst (λ (b : Bool). Opens (Some (asked said (Some asking))) (if b then joined6 said seen opened else opens6 said count)) test
      (either (said.xid == asking.xid) said asking opened seen le is)

  says : (said : SaidContent) (asking : Option AskingContent) (seen : Seen6) → Opens asking seen → (b : Bool)
      → Opens (if b then Some (asked said asking) else None) (if b then asks said seen seen.current else closes6 seen)
  says said asking seen o true = asks_on said asking seen.count seen.current o.within o.open_one
  says said asking seen o false = record { within = o.within; open_one = tt }

  sends : (message : Option Sent6) (asking : Option AskingContent) (seen : Seen6) → Opens asking seen
      → Opens (sent_next message asking) (shows6 message seen)
  sends None asking seen o = o
  sends (Some sent) asking seen o = says sent.said asking seen o (asks_reply sent.said.kind sent.said.rapid)

  sends_all : (messages : List (Option Sent6)) (asking : Option AskingContent) (seen : Seen6) → Opens asking seen
      → Opens (all_next messages asking) (show6 messages seen)
  sends_all [] asking seen o = o
  sends_all (message ∷ messages) asking seen o =
      sends_all messages (sent_next message asking) (shows6 message seen) (sends message asking seen o)

-- ---- Replies

from_named : (named : Named) (servers : List (List ℕ)) (server : Option (List ℕ)) → Names named servers
    → judge.is_from named server ≡ is_from servers server
from_named named servers None names = refl
from_named named servers (Some server) names = ap (λ (b : Bool). is_duid server && b) (names server)

module _ (site : Site) (answered : ℕ) where
  pub good_is : (asking : AskingContent) (opened : Numbered6) (message : Content6) → IsOpen answered asking opened
      → is_good site asking message ≡ (answers site opened.exchange message && serves (asks_at site) message)
  good_is asking opened message is =
      ap (λ (x : ℕ).
      (is_reply message.kind && (message.xid == x) && has_bytes message.client site.duid && judge.is_from asking.named message.server
      && (message.rapid || not asking.solicits)) && serves (asks_at site) message) is.xid
      ∙ ap (λ (b : Bool).
      (is_reply message.kind && (message.xid == opened.exchange.xid) && has_bytes message.client site.duid && b
      && (message.rapid || not asking.solicits)) && serves (asks_at site) message)
      (from_named asking.named opened.exchange.servers message.server is.named)
      ∙ ap (λ (b : Bool).
      (is_reply message.kind && (message.xid == opened.exchange.xid) && has_bytes message.client site.duid
      && is_from opened.exchange.servers message.server
      && (message.rapid || not b)) && serves (asks_at site) message) is.solicits

  heard_if : (b : Bool) (asking : AskingContent) (opened : Numbered6) (message : Content6) → IsOpen answered asking opened
      → TellsHeard answered (if b then Some (record { message = message; is_new = not asking.answered }) else None)
      (if b then Some (record { opened = opened; message = message }) else None)
  heard_if true asking opened message is = record { message = refl; is_new = ap not is.known }
  heard_if false asking opened message is = tt

  hears : (asking : Option AskingContent) (current : Option Numbered6) (came : Option Content6) → TellsOpen answered asking current
      → TellsHeard answered (heard_by site asking came) (good_in site current came)
  hears None None came is = tt
  hears None (Some opened) came is = absurd is
  hears (Some asking) None came is = absurd is
  hears (Some asking) (Some opened) None is = tt
  hears (Some asking) (Some opened) (Some message) is =
      subst (λ (b : Bool). TellsHeard answered (heard_by site (Some asking) (Some message))
      (if b then Some (record { opened = opened; message = message }) else None)) (good_is asking opened message is)
      (heard_if (is_good site asking message) asking opened message is)

-- ---- what is answered after a turn

same_true : (n : ℕ) → true ≡ (n == n)
same_true n = grind (arith, nat_tests)

module _ (site : Site) (answered : ℕ) where
  -- a first Reply is a good one of an exchange that wasn't answered
  abbrev good : Numbered6 → Content6 → Bool
  good opened message = answers site opened.exchange message && serves (asks_at site) message

  marks : (g : Bool) (asking : AskingContent) (opened : Numbered6) (message : Content6) → IsOpen answered asking opened → (same : Bool)
      → (answered == opened.number) ≡ same
      → TellsOpen (answered_after (if g && not same then Some (record { opened = opened; message = message }) else None) answered)
      (with_answer (if g then Some (record { message = message; is_new = not asking.answered }) else None) (Some asking)) (Some opened)
  marks false asking opened message is same e = is
  marks true asking opened message is true e = record { xid = is.xid; solicits = is.solicits; named = is.named; known = sym e }
  marks true asking opened message is false e = record { xid = is.xid; solicits = is.solicits; named = is.named; known = same_true opened.number }

  marked : (asking : Option AskingContent) (current : Option Numbered6) (came : Option Content6) → TellsOpen answered asking current
      → TellsOpen (answered_after (first_in site answered current came) answered) (with_answer (heard_by site asking came) asking) current
  marked None None came is = tt
  marked None (Some opened) came is = absurd is
  marked (Some asking) None came is = absurd is
  marked (Some asking) (Some opened) None is = is
  marked (Some asking) (Some opened) (Some message) is =
      subst (λ (b : Bool).
      TellsOpen (answered_after (first_in site answered (Some opened) (Some message)) answered)
      (with_answer (if b then Some (record { message = message; is_new = not asking.answered }) else None) (Some asking)) (Some opened))
      (sym (good_is site answered asking opened message is))
      (marks (good opened message) asking opened message is (answered == opened.number) refl)

-- ---- turn by turn

tells : (site : Site) (past : List Entry) → Opens (watch_in site past).answered (asking_in site past) (watch_in site past).seen
tells site [] = record { within = omega arith; open_one = tt }
tells site (e ∷ past) = record {
  within =
      subst (λ (seen : Seen6). (watch_in site (e ∷ past)).answered ≤ seen.count) (sym (seen_is site (e ∷ past))) (numbers site (e ∷ past)).within;
  open_one =
      marked site (watch_in site past).answered (asking_shown site e (asking_in site past))
      (show6 (messages6_at site e) (watch_in site past).seen).current (message6_at site e)
      (sends_all (watch_in site past).answered (messages6_at site e) (asking_in site past) (watch_in site past).seen (tells site past)).open_one;
}

pub open_told : OpenIsTold
open_told site past = (tells site past).open_one

pub heard_told : HeardIsTold
heard_told site e past =
    hears site (watch_in site past).answered (asking_shown site e (asking_in site past))
    (show6 (messages6_at site e) (watch_in site past).seen).current (message6_at site e)
    (sends_all (watch_in site past).answered (messages6_at site e) (asking_in site past) (watch_in site past).seen (tells site past)).open_one
