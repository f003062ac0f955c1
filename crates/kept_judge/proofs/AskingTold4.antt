-- What the judge keeps of an interface that asks for its kept lease of DHCPv4.
use Rattle.std.proofs.Common.{◌≡◌, ℕ, ◌+◌, ◌⊎◌, inl, inr, Bool, true, false, ◌&&◌, ◌||◌, not, List, [], ◌∷◌, Option, Some, None, IfSome, refl, sym, ap, subst, ◌∙◌}
use Rattle.std.proofs.lemmas.Bool.{and_parts, and_from, eqb-true, eq-eqb, or_left, or_right}
use Rattle.std.specs.Prelude.{◌==◌, if◌then◌else◌, is_some}
use Rattle.std.specs.List.{AllByRecursion, list_any}
use Rattle.machine.specs.Since.{Always}
use Rattle.net_types.specs.declared.address.Ip4.{Ip4}
use Rattle.lease_text.specs.declared.lease.Terms4.{Terms4}
use Rattle.v4_message.specs.declared.writing.Kind4.{Kind4}
use Rattle.v4_message.specs.declared.writing.Kind4.TheVariants as kind
use Rattle.v4_message.specs.declared.writing.Said4.{Said4}
use Rattle.v4_frames.specs.declared.sent.Sent4.{Sent4}
use Rattle.v4_client.specs.declared.states.Answer4.{Answer4}
use Rattle.v4_client.specs.declared.states.Answer4.TheVariants as answer
use Rattle.v4_client.specs.Saying.{no_address}
use Rattle.audit_words.specs.EvidenceWords.Entries.{Entry}
use Rattle.audit_words.specs.EvidenceWords.Inputs.{GoesOn, Site, StaysOn, carrier_after, has_carrier, index_at}
use Rattle.lease6_evidence.specs.LeaseEvidence.Exchanges.{Numbered, Seen, exchange_of, messages_at, opens, requests, says, seen_in, show, shows}
use Rattle.lease6_evidence.specs.LeaseEvidence.KeptBasis4.{AsksAgain, AsksAlone, IsAcknowledged, IsUnrefused, Sometime, speaks}
use Rattle.lease6_evidence.specs.LeaseEvidence.LeaseBasis.{GoodAck, GoodNak, GrantsNothing}
use Rattle.lease6_evidence.specs.LeaseEvidence.Replies.{reply_at}
use Rattle.kept_judge.specs.Staying.{stays}
use Rattle.kept_judge.proofs.Left.{does_go, goes}
use Rattle.kept_judge.specs.declared.standing.Asked4.{Asked4}
use Rattle.kept_judge.specs.declared.standing.Asked4.TheVariants.{Nothing, Again, Over}
use Rattle.kept_judge.specs.Asking4.{again_answered, answer_at, answer_in, answered, asks_again, if_stays, is_request, kept4_in, names_address, said_all}

-- ---- REQUESTs for the address

request_is : (sort : Kind4) → is_request sort ≡ true → sort ≡ kind.Request
request_is kind.Discover h = absurd cc
request_is kind.Request h = refl
request_is kind.Decline h = absurd cc
request_is kind.Release h = absurd cc

abbrev address_of : ℕ → Ip4
address_of number = record { number = number }

named_is : (address : Ip4) (asked : Option Ip4) → names_address address asked ≡ true → asked ≡ Some address
named_is address None h = absurd cc
named_is address (Some named) h = ap (λ (n : ℕ). Some (address_of n)) (eqb-true named.number address.number h)

is_named : (address : Ip4) (asked : Option Ip4) → asked ≡ Some address → names_address address asked ≡ true
is_named address asked is = ap (names_address address) is ∙ eq-eqb address.number address.number refl

none_is : (server : Option Ip4) → not (is_some server) ≡ true → server ≡ None
none_is None h = refl
none_is (Some server) h = absurd cc

is_none : (server : Option Ip4) → server ≡ None → not (is_some server) ≡ true
is_none server is = ap (λ (s : Option Ip4). not (is_some s)) is

no_address_is : (ciaddr : Ip4) → (ciaddr.number == no_address.number) ≡ true → ciaddr ≡ no_address
no_address_is ciaddr h = ap address_of (eqb-true ciaddr.number no_address.number h)

-- the exchange of a transaction id is open
pub record OpenIn (xid : ℕ) (seen : Seen) : Type 0 where
  pub one : Numbered
  pub is : seen.current ≡ Some one
  pub same : one.exchange.xid ≡ xid

module _ (address : Ip4) where
  abbrev asks_first : Said4 → Bool
  asks_first said = is_request said.kind && names_address address said.asked

  abbrev asks_third : Said4 → Bool
  asks_third said = asks_first said && not (is_some said.server)

  asks_is : (sent : Sent4) → asks_again address sent.said ≡ true → AsksAgain sent.said.xid address sent
  asks_is sent h =
      let last = and_parts (asks_third sent.said) (sent.said.ciaddr.number == no_address.number) h in
      let third = and_parts (asks_first sent.said) (not (is_some sent.said.server)) last.0 in
      let first = and_parts (is_request sent.said.kind) (names_address address sent.said.asked) third.0 in
      record {
        kind = request_is sent.said.kind first.0;
        same_xid = refl;
        names = named_is address sent.said.asked first.1;
        no_server = none_is sent.said.server third.1;
        none_yet = no_address_is sent.said.ciaddr last.1;
      }

  is_asking : (xid : ℕ) (sent : Sent4) → AsksAgain xid address sent → asks_again address sent.said ≡ true
  is_asking xid sent a =
      and_from (asks_third sent.said) (sent.said.ciaddr.number == no_address.number)
      (and_from (asks_first sent.said) (not (is_some sent.said.server))
      (and_from (is_request sent.said.kind) (names_address address sent.said.asked) (ap is_request a.kind)
      (is_named address sent.said.asked a.names))
      (is_none sent.said.server a.no_server))
      (eq-eqb sent.said.ciaddr.number no_address.number (ap (λ (ip : Ip4). ip.number) a.none_yet))

  abbrev is_known : (xid : ℕ) → Sent4 → Bool
  is_known xid sent = asks_again address sent.said && (sent.said.xid == xid)

  known_is : (xid : ℕ) (sent : Sent4) → is_known xid sent ≡ true → AsksAgain xid address sent
  known_is xid sent h =
      let parts = and_parts (asks_again address sent.said) (sent.said.xid == xid) h in
      subst (λ (x : ℕ). AsksAgain x address sent) (eqb-true sent.said.xid xid parts.1) (asks_is sent parts.0)

  is_known_by : (xid : ℕ) (sent : Sent4) → AsksAgain xid address sent → is_known xid sent ≡ true
  is_known_by xid sent a =
      and_from (asks_again address sent.said) (sent.said.xid == xid) (is_asking xid sent a) (eq-eqb sent.said.xid xid a.same_xid)

  abbrev AllAsk : (xid : ℕ) → List (Option Sent4) → Type 0
  AllAsk xid messages = AllByRecursion (λ message. IfSome message (AsksAgain xid address)) messages

  -- ---- the messages of a turn

  pub over_all : (messages : List (Option Sent4)) → said_all address messages Over ≡ Over
  over_all [] = refl
  over_all (None ∷ messages) = over_all messages
  over_all (Some sent ∷ messages) = over_all messages

  abbrev Goes : (xid : ℕ) (confirmed : Bool) → List (Option Sent4) → Asked4 → Type 0
  Goes xid confirmed messages after = (after ≡ Over) ⊎ ((after ≡ Again xid confirmed) × AllAsk xid messages)

  again_goes : (xid : ℕ) (confirmed : Bool) (messages : List (Option Sent4))
      → Goes xid confirmed messages (said_all address messages (Again xid confirmed))
  again_goes xid confirmed [] = inr (refl, tt)
  again_goes xid confirmed (None ∷ messages) =
      elim (again_goes xid confirmed messages) [ inl over ↦ inl over | inr h ↦ inr (h.0, (tt, h.1)) ]
  again_goes xid confirmed (Some sent ∷ messages) = by (is_known xid sent) refl (again_goes xid confirmed messages)
    where
      by : (b : Bool) → is_known xid sent ≡ b → Goes xid confirmed messages (said_all address messages (Again xid confirmed))
          → Goes xid confirmed (Some sent ∷ messages) (said_all address messages (if b then Again xid confirmed else Over))
      by false k more = inl (over_all messages)
      by true k more = elim more [ inl over ↦ inl over | inr h ↦ inr (h.0, (known_is xid sent k, h.1)) ]

  again_stays : (xid : ℕ) (confirmed : Bool) (messages : List (Option Sent4)) → AllAsk xid messages
      → said_all address messages (Again xid confirmed) ≡ Again xid confirmed
  again_stays xid confirmed [] h = refl
  again_stays xid confirmed (None ∷ messages) h = again_stays xid confirmed messages h.1
  again_stays xid confirmed (Some sent ∷ messages) h =
      ap (λ (b : Bool). said_all address messages (if b then Again xid confirmed else Over)) (is_known_by xid sent h.0)
      ∙ again_stays xid confirmed messages h.1

  data Begins (messages : List (Option Sent4)) (after : Asked4) : Type 0 where
    says_none : after ≡ Nothing → list_any is_some messages ≡ false → Begins messages after
    says_first : (xid : ℕ) → after ≡ Again xid false → AllAsk xid messages → list_any is_some messages ≡ true → Begins messages after
    says_other : after ≡ Over → Begins messages after

  nothing_goes : (messages : List (Option Sent4)) → Begins messages (said_all address messages Nothing)
  nothing_goes [] = says_none refl refl
  nothing_goes (None ∷ messages) = further (nothing_goes messages)
    where
      further : Begins messages (said_all address messages Nothing) → Begins (None ∷ messages) (said_all address messages Nothing)
      further (says_none is none) = says_none is none
      further (says_first xid is all some) = says_first xid is (tt, all) some
      further (says_other is) = says_other is
  nothing_goes (Some sent ∷ messages) = by (asks_again address sent.said) refl
    where
      by : (b : Bool) → asks_again address sent.said ≡ b
          → Begins (Some sent ∷ messages) (said_all address messages (if b then Again sent.said.xid false else Over))
      by false k = says_other (over_all messages)
      by true k = elim (again_goes sent.said.xid false messages) [
        | inl over ↦ says_other over
        | inr h ↦ says_first sent.said.xid h.0 (asks_is sent k, h.1) refl
      ]

  -- where REQUESTs of one exchange are said alone it begins, or nothing was said
  data Starts (xid : ℕ) (after : Asked4) : Type 0 where
    not_yet : after ≡ Nothing → Starts xid after
    now_begun : after ≡ Again xid false → Starts xid after

  starts_so : (xid : ℕ) (messages : List (Option Sent4)) → AllAsk xid messages → Starts xid (said_all address messages Nothing)
  starts_so xid [] all = not_yet refl
  starts_so xid (None ∷ messages) all = starts_so xid messages all.1
  starts_so xid (Some sent ∷ messages) all =
      now_begun (ap (λ (b : Bool). said_all address messages (if b then Again sent.said.xid false else Over)) (is_asking xid sent all.0)
      ∙ ap (λ (x : ℕ). said_all address messages (Again x false)) all.0.same_xid
      ∙ again_stays xid false messages all.1)

  none_ask : (xid : ℕ) (messages : List (Option Sent4)) → list_any is_some messages ≡ false → AllAsk xid messages
  none_ask xid [] h = tt
  none_ask xid (None ∷ messages) h = (tt, none_ask xid messages h)
  none_ask xid (Some sent ∷ messages) h = absurd cc

  -- ---- the exchange that they open

  none_shown : (at : ℕ) (messages : List (Option Sent4)) (seen : Seen) → list_any is_some messages ≡ false → show at messages seen ≡ seen
  none_shown at [] seen h = refl
  none_shown at (None ∷ messages) seen h = none_shown at messages seen h
  none_shown at (Some sent ∷ messages) seen h = absurd cc

  abbrev open_seen : (count : ℕ) → Numbered → Seen
  open_seen count x = record { count = count; current = Some x }

  asked_shown : (at count : ℕ) (x : Numbered) (sent : Sent4) → AsksAgain x.exchange.xid address sent
      → shows at (Some sent) (open_seen count x) ≡ open_seen count x
  asked_shown at count x sent a =
      ap (says at sent.said (open_seen count x)) a.kind
      ∙ ap (λ (b : Bool). if b then open_seen count x else opens at sent.said count) (eq-eqb sent.said.xid x.exchange.xid a.same_xid)

  all_shown : (at count : ℕ) (x : Numbered) (messages : List (Option Sent4)) → AllAsk x.exchange.xid messages
      → show at messages (open_seen count x) ≡ open_seen count x
  all_shown at count x [] h = refl
  all_shown at count x (None ∷ messages) h = all_shown at count x messages h.1
  all_shown at count x (Some sent ∷ messages) h =
      ap (show at messages) (asked_shown at count x sent h.0) ∙ all_shown at count x messages h.1

  seen_is : (seen : Seen) (x : Numbered) → seen.current ≡ Some x → seen ≡ open_seen seen.count x
  seen_is seen x is = ap (λ (current : Option Numbered). seen_with seen.count current) is
    where
      seen_with : ℕ → Option Numbered → Seen
      seen_with count current = record { count = count; current = current }

  stays_open : (at xid : ℕ) (messages : List (Option Sent4)) (seen : Seen) (x : Numbered) → seen.current ≡ Some x → x.exchange.xid ≡ xid
      → AllAsk xid messages → (show at messages seen).current ≡ Some x
  stays_open at xid messages seen x is same all =
      ap (λ (s : Seen). s.current)
      (ap (show at messages) (seen_is seen x is)
      ∙ all_shown at seen.count x messages (subst (λ (id : ℕ). AllAsk id messages) (sym same) all))

  opens_now : (at xid : ℕ) (messages : List (Option Sent4)) (seen : Seen) → seen.current ≡ None → AllAsk xid messages
      → list_any is_some messages ≡ true → OpenIn xid (show at messages seen)
  opens_now at xid [] seen none all some = absurd cc
  opens_now at xid (None ∷ messages) seen none all some = opens_now at xid messages seen none all.1 some
  opens_now at xid (Some sent ∷ messages) seen none all some =
      let opened : shows at (Some sent) seen ≡ opens at sent.said seen.count =
      ap (says at sent.said seen) all.0.kind ∙ ap (requests at sent.said seen) none in
      record {
        one = record { number = seen.count + 1; exchange = exchange_of at sent.said };
        is =
            stays_open at xid messages (shows at (Some sent) seen) (record { number = seen.count + 1; exchange = exchange_of at sent.said })
            (ap (λ (s : Seen). s.current) opened) all.0.same_xid all.1;
        same = all.0.same_xid;
      }

-- ---- what a server says

module _ (site : Site) (e : Entry) (past : List Entry) where
  in_open : (current : Option Numbered) (x : Numbered) → current ≡ Some x → answer_in site e current ≡ reply_at site x.exchange e
  in_open current x is = ap (answer_in site e) is

  ack_is : (x : Numbered) (terms : Terms4) → GoodAck site x terms e past → answer_at site e past ≡ answer.Ack terms
  ack_is x terms g = in_open (seen_in site (e ∷ past)).current x g.is_open ∙ g.grants

  nak_is : (x : Numbered) → GoodNak site x e past → answer_at site e past ≡ answer.Nak
  nak_is x g = in_open (seen_in site (e ∷ past)).current x g.is_open ∙ g.refuses

  pub record Refused : Type 0 where
    pub one : Numbered
    pub nak : GoodNak site one e past

  nak_by : (current : Option Numbered) → (seen_in site (e ∷ past)).current ≡ current → answer_in site e current ≡ answer.Nak → Refused
  nak_by None is h = absurd cc
  nak_by (Some x) is h = record { one = x; nak = record { is_open = is; refuses = h } }

  is_nak : answer_at site e past ≡ answer.Nak → Refused
  is_nak h = nak_by (seen_in site (e ∷ past)).current refl h

abbrev IsntAck : Answer4 → Type 0
IsntAck answer.Nothing = Unit {0}
IsntAck (answer.Offer address server) = Unit {0}
IsntAck (answer.Ack terms) = ⊥
IsntAck answer.Nak = Unit {0}

abbrev IsntNak : Answer4 → Type 0
IsntNak answer.Nothing = Unit {0}
IsntNak (answer.Offer address server) = Unit {0}
IsntNak (answer.Ack terms) = Unit {0}
IsntNak answer.Nak = ⊥

some_one : (a b : Numbered) → Some a ≡ Some b → a ≡ b
some_one a b h = cc

none_one : (current : Option Numbered) (x : Numbered) → current ≡ None → current ≡ Some x → ⊥
none_one None x n s = cc
none_one (Some y) x n s = cc

or_none : (a b : Bool) → a ≡ false → b ≡ false → (a || b) ≡ false
or_none a b k l = ap (λ (x : Bool). x || b) k ∙ l

same_open : (current : Option Numbered) (a b : Numbered) → current ≡ Some a → current ≡ Some b → a ≡ b
same_open current a b k l = some_one a b (sym k ∙ l)

-- ---- what is kept has happened

module _ (site : Site) (address : Ip4) where
  abbrev pub Asks : (xid : ℕ) → List Entry → Type 0
  Asks xid past = Always (AsksAlone site xid address) past

  abbrev pub NoAck : List Entry → Type 0
  NoAck past = (x : Numbered) → Always (GrantsNothing site x) past

  pub record Silent (past : List Entry) : Type 0 where
    pub stays : Always (StaysOn site) past
    pub asks : (xid : ℕ) → Asks xid past
    pub silent : list_any (speaks site) past ≡ false
    pub closed : (seen_in site past).current ≡ None
    pub unheard : NoAck past
    pub unrefused : Always (IsUnrefused site) past

  abbrev pub Acked : Bool → Numbered → List Entry → Type 0
  Acked false x past = NoAck past
  Acked true x past = Sometime (IsAcknowledged site x) past

  pub record Asking (xid : ℕ) (confirmed : Bool) (past : List Entry) : Type 0 where
    pub stays : Always (StaysOn site) past
    pub asks : Asks xid past
    pub asked : list_any (speaks site) past ≡ true
    pub opened : OpenIn xid (seen_in site past)
    pub acked : Acked confirmed opened.one past
    pub unrefused : Always (IsUnrefused site) past

  abbrev pub Stands : Asked4 → List Entry → Type 0
  Stands Nothing past = Silent past
  Stands (Again xid confirmed) past = Asking xid confirmed past
  Stands Over past = Unit {0}

  pub up_is : (past : List Entry) → (kept4_in site address past).up ≡ has_carrier site past
  up_is [] = refl
  up_is (e ∷ past) = ap (carrier_after (index_at site) e.event) (up_is past)

  abbrev stays_at : Entry → List Entry → Bool
  stays_at e past = stays (kept4_in site address past).up (index_at site) e.event

  goes_at : (e : Entry) (past : List Entry) → stays_at e past ≡ true → StaysOn site e past
  goes_at e past h =
      subst (λ (up : Bool). GoesOn up (index_at site) e.event) (up_is past)
      (goes (kept4_in site address past).up (index_at site) e.event h)

  does_at : (e : Entry) (past : List Entry) → StaysOn site e past → stays_at e past ≡ true
  does_at e past h =
      does_go (kept4_in site address past).up (index_at site) e.event
      (subst (λ (up : Bool). GoesOn up (index_at site) e.event) (sym (up_is past)) h)

  module _ (e : Entry) (past : List Entry) where
    abbrev messages : List (Option Sent4)
    messages = messages_at site e

    -- an exchange is open after the turn's own messages, and nothing before was refused
    record Turning (xid : ℕ) (confirmed : Bool) : Type 0 where
      pub stays : Always (StaysOn site) (e ∷ past)
      pub asks : Asks xid (e ∷ past)
      pub asked : list_any (speaks site) (e ∷ past) ≡ true
      pub opened : OpenIn xid (seen_in site (e ∷ past))
      pub acked : Acked confirmed opened.one past
      pub unrefused : Always (IsUnrefused site) past

    no_grant : (said : Answer4) → answer_at site e past ≡ said → IsntAck said → (x : Numbered) → GrantsNothing site x e past
    no_grant said is none x terms g = subst IsntAck (sym is ∙ ack_is site e past x terms g) none

    no_refusal : (said : Answer4) → answer_at site e past ≡ said → IsntNak said → IsUnrefused site e past
    no_refusal said is none x g = absurd (subst IsntNak (sym is ∙ nak_is site e past x g) none)

    acked_more : (said : Answer4) → answer_at site e past ≡ said → IsntAck said → (confirmed : Bool) (x : Numbered) → Acked confirmed x past
        → Acked confirmed x (e ∷ past)
    acked_more said is none false x h = λ y. (no_grant said is none y, h y)
    acked_more said is none true x h = inr (tt, h)

    -- neither an ACK nor a NAK
    unchanged : (said : Answer4) → answer_at site e past ≡ said → IsntAck said → IsntNak said → (xid : ℕ) (confirmed : Bool)
        → Turning xid confirmed → Asking xid confirmed (e ∷ past)
    unchanged said is none good xid confirmed t = record {
      stays = t.stays;
      asks = t.asks;
      asked = t.asked;
      opened = t.opened;
      acked = acked_more said is none confirmed t.opened.one t.acked;
      unrefused = (no_refusal said is good, t.unrefused);
    }

    is_acked : (x : Numbered) (terms : Terms4) → (seen_in site (e ∷ past)).current ≡ Some x → answer_at site e past ≡ answer.Ack terms
        → IsAcknowledged site x e past
    is_acked x terms open_is is = record {
      terms = terms;
      good = record { is_open = open_is; grants = sym (in_open site e past (seen_in site (e ∷ past)).current x open_is) ∙ is };
    }

    after_answer : (said : Answer4) → answer_at site e past ≡ said → (xid : ℕ) (confirmed : Bool) → Turning xid confirmed
        → Stands (again_answered xid confirmed said) (e ∷ past)
    after_answer answer.Nothing is xid confirmed t = unchanged answer.Nothing is tt tt xid confirmed t
    after_answer (answer.Offer from server) is xid confirmed t = unchanged (answer.Offer from server) is tt tt xid confirmed t
    after_answer (answer.Ack terms) is xid confirmed t = record {
      stays = t.stays;
      asks = t.asks;
      asked = t.asked;
      opened = t.opened;
      acked = inl (is_acked t.opened.one terms t.opened.is is);
      unrefused = (no_refusal (answer.Ack terms) is tt, t.unrefused);
    }
    after_answer answer.Nak is xid false t = tt
    after_answer answer.Nak is xid true t = record {
      stays = t.stays;
      asks = t.asks;
      asked = t.asked;
      opened = t.opened;
      acked = inr (tt, t.acked);
      unrefused = (
        λ y g. subst (λ (z : Numbered). Sometime (IsAcknowledged site z) past)
            (same_open (seen_in site (e ∷ past)).current t.opened.one y t.opened.is g.is_open) t.acked,
        t.unrefused,
      );
    }

    is_over : (after : Asked4) (said : Answer4) → after ≡ Over → Stands (answered after said) (e ∷ past)
    is_over after said is = subst (λ (a : Asked4). Stands (answered a said) (e ∷ past)) (sym is) tt

    module _ (on : StaysOn site e past) where
      from_silent : Silent past → (after : Asked4) → Begins address messages after → Stands (answered after (answer_at site e past)) (e ∷ past)
      from_silent was after (says_none is quiet) =
          let unopened : (seen_in site (e ∷ past)).current ≡ None =
          ap (λ (s : Seen). s.current) (none_shown address e.moment messages (seen_in site past) quiet) ∙ was.closed in
          subst (λ (a : Asked4). Stands (answered a (answer_at site e past)) (e ∷ past)) (sym is) (record {
            stays = (on, was.stays);
            asks = λ xid. (none_ask address xid messages quiet, was.asks xid);
            silent = or_none (speaks site e) (list_any (speaks site) past) quiet was.silent;
            closed = unopened;
            unheard = λ x. (λ terms g. none_one (seen_in site (e ∷ past)).current x unopened g.is_open, was.unheard x);
            unrefused = (λ x g. absurd (none_one (seen_in site (e ∷ past)).current x unopened g.is_open), was.unrefused);
          })
      from_silent was after (says_first xid is all some) =
          subst (λ (a : Asked4). Stands (answered a (answer_at site e past)) (e ∷ past)) (sym is)
          (after_answer (answer_at site e past) refl xid false (record {
            stays = (on, was.stays);
            asks = (all, was.asks xid);
            asked = or_left (speaks site e) (list_any (speaks site) past) some;
            opened = opens_now address e.moment xid messages (seen_in site past) was.closed all some;
            acked = was.unheard;
            unrefused = was.unrefused;
          }))
      from_silent was after (says_other is) = is_over after (answer_at site e past) is

      from_asking : (xid : ℕ) (confirmed : Bool) → Asking xid confirmed past → (after : Asked4) → Goes address xid confirmed messages after
          → Stands (answered after (answer_at site e past)) (e ∷ past)
      from_asking xid confirmed was after (inl is) = is_over after (answer_at site e past) is
      from_asking xid confirmed was after (inr h) =
          subst (λ (a : Asked4). Stands (answered a (answer_at site e past)) (e ∷ past)) (sym h.0)
          (after_answer (answer_at site e past) refl xid confirmed (record {
            stays = (on, was.stays);
            asks = (h.1, was.asks);
            asked = or_right (speaks site e) (list_any (speaks site) past) was.asked;
            opened = record {
              one = was.opened.one;
              is = stays_open address e.moment xid messages (seen_in site past) was.opened.one was.opened.is was.opened.same h.1;
              same = was.opened.same;
            };
            acked = was.acked;
            unrefused = was.unrefused;
          }))

      from : (asked : Asked4) → Stands asked past → Stands (answered (said_all address messages asked) (answer_at site e past)) (e ∷ past)
      from Nothing was = from_silent was (said_all address messages Nothing) (nothing_goes address messages)
      from (Again xid confirmed) was =
          from_asking xid confirmed was (said_all address messages (Again xid confirmed)) (again_goes address xid confirmed messages)
      from Over was = is_over (said_all address messages Over) (answer_at site e past) (over_all address messages)

    next : (goes_on : Bool) → stays_at e past ≡ goes_on → (asked : Asked4) → Stands asked past
        → Stands (answered (said_all address messages (if_stays goes_on asked)) (answer_at site e past)) (e ∷ past)
    next false s asked was = is_over (said_all address messages Over) (answer_at site e past) (over_all address messages)
    next true s asked was = from (goes_at e past s) asked was

  pub stands : (past : List Entry) → Stands (kept4_in site address past).asked past
  stands [] = record { stays = tt; asks = λ xid. tt; silent = refl; closed = refl; unheard = λ x. tt; unrefused = tt }
  stands (e ∷ past) = next e past (stays_at e past) refl (kept4_in site address past).asked (stands past)

  -- ---- what has happened is kept

  not_both : (x : Numbered) (past : List Entry) → Sometime (IsAcknowledged site x) past → Always (GrantsNothing site x) past → ⊥
  not_both x [] some none = some
  not_both x (e ∷ past) some none = elim some [
    | inl ack ↦ none.0 ack.terms ack.good
    | inr more ↦ not_both x past more.1 none.1
  ]

  -- the transaction id is this one, where one is kept, and it isn't over
  abbrev pub IsFine : (xid : ℕ) → Asked4 → Type 0
  IsFine xid Nothing = Unit {0}
  IsFine xid (Again known confirmed) = known ≡ xid
  IsFine xid Over = ⊥

  module _ (xid : ℕ) (e : Entry) (past : List Entry) (unrefused : IsUnrefused site e past) where
    fine_answered : (known : ℕ) (confirmed : Bool) (said : Answer4) → answer_at site e past ≡ said → (confirmed ≡ false → NoAck past)
        → known ≡ xid → IsFine xid (again_answered known confirmed said)
    fine_answered known confirmed answer.Nothing is unheard same = same
    fine_answered known confirmed (answer.Offer from server) is unheard same = same
    fine_answered known confirmed (answer.Ack terms) is unheard same = same
    fine_answered known true answer.Nak is unheard same = same
    fine_answered known false answer.Nak is unheard same =
        let refused = is_nak site e past is in
        not_both refused.one past (unrefused refused.one refused.nak) (unheard refl refused.one)

    fine_started : (after : Asked4) → Starts address xid after → NoAck past → IsFine xid (answered after (answer_at site e past))
    fine_started after (not_yet is) unheard = subst (λ (a : Asked4). IsFine xid (answered a (answer_at site e past))) (sym is) tt
    fine_started after (now_begun is) unheard =
        subst (λ (a : Asked4). IsFine xid (answered a (answer_at site e past))) (sym is)
        (fine_answered xid false (answer_at site e past) refl (λ c. unheard) refl)

    fine_from : (asked : Asked4) → Stands asked past → IsFine xid asked → AllAsk address xid (messages_at site e)
        → IsFine xid (answered (said_all address (messages_at site e) asked) (answer_at site e past))
    fine_from Nothing was fine all =
        fine_started (said_all address (messages_at site e) Nothing) (starts_so address xid (messages_at site e) all) was.unheard
    fine_from (Again known confirmed) was fine all =
        subst (λ (a : Asked4). IsFine xid (answered a (answer_at site e past)))
        (sym (again_stays address known confirmed (messages_at site e)
        (subst (λ (id : ℕ). AllAsk address id (messages_at site e)) (sym fine) all)))
        (fine_answered known confirmed (answer_at site e past) refl
        (λ c. subst (λ (b : Bool). Acked b was.opened.one past) c was.acked) fine)
    fine_from Over was fine all = absurd fine

  pub fine : (xid : ℕ) (past : List Entry) → Always (StaysOn site) past → Asks xid past → Always (IsUnrefused site) past
      → IsFine xid (kept4_in site address past).asked
  fine xid [] on asks unrefused = tt
  fine xid (e ∷ past) on asks unrefused =
      subst (λ (b : Bool).
      IsFine xid (answered (said_all address (messages_at site e) (if_stays b (kept4_in site address past).asked)) (answer_at site e past)))
      (sym (does_at e past on.0))
      (fine_from xid e past unrefused.0 (kept4_in site address past).asked (stands past) (fine xid past on.1 asks.1 unrefused.1) asks.0)
