-- A turn of those lives is fair: one without input, and one with a message of the server.
use Rattle.std.proofs.Common.{◌≡◌, ℕ, ◌+◌, ◌<◌, ◌≤◌, ◌&&◌, ◌||◌, ◌==◌, not, Bool, true, false, List, [], ◌∷◌, Option, Some, IfSome, nat_le, refl, sym, ap, subst, ◌∙◌}
use Rattle.std.specs.List.{list_any}
use Rattle.v4_frames.specs.declared.sent.Sent4.{Sent4}
use Rattle.lease_text.specs.declared.lease.Terms4.{Terms4}
use Rattle.v4_client.specs.declared.states.Answer4.{Answer4}
use Rattle.v4_client.specs.declared.states.Answer4.TheVariants as answer
use Rattle.v4_client.specs.Moments.{expiry}
use Rattle.world.specs.declared.wakes.Event.TheVariants.{Frame, Quiet}
use Rattle.evidence_words.specs.Entries.{Entry, Offer, offers_on}
use Rattle.evidence_words.specs.Inputs.{tells_contest}
use Rattle.lease_evidence.specs.Exchanges.{Numbered, Seen, messages_at, seen_in, show}
use Rattle.lease_evidence.specs.Replies.{reply_at}
use Rattle.lease_progress.specs.FairTurns.{Fair}
use Rattle.lease_progress.specs.LeaseStays.{IsBefore, Renewable, asked_at, needed_by}
use Rattle.lease_progress.specs.Serving.{Answered, Serves, asks, grants, is_answered, is_discover, is_request, offers, seeks}
use Rattle.lease_keeping.specs.KeptLives.{own_macs, reply_frame}
use Rattle.lease_keeping.proofs.Chains.{IsNext, each_ack, no_nak}
use Rattle.lease_keeping.proofs.ServerFrames.{no_packet, site}

-- ---- turns on a fair network

module _ (answered : Answered) where
  abbrev pub FairAt : Entry → List Entry → Type 0
  FairAt e past = Fair site answered 1000 e past

  abbrev pub RenewableAt : Entry → List Entry → Type 0
  RenewableAt e past = Renewable site answered 1000 e past

  abbrev pub ServedAt : Entry → List Entry → Type 0
  ServedAt e past = Serves site answered 1000 (e ∷ past)

  no_answer : (reply : Answer4) → answer.Nothing ≡ reply → (reply ≡ answer.Nothing → ⊥) → ⊥
  no_answer reply is unlike = unlike (sym is)

  -- one without input
  abbrev pub silent_entry : (at : ℕ) → List Offer → Entry
  silent_entry at said = record { moment = at; event = Quiet; bytes = []; offers = said }

  pub quiet_fair : (at : ℕ) (said : List Offer) (past : List Entry) → list_any (λ o. not o.taken) (offers_on 1 said) ≡ false
      → ServedAt (silent_entry at said) past → FairAt (silent_entry at said) past
  quiet_fair at said past taken served = record {
    stays = tt;
    taken = taken;
    unrefused = λ x nak. absurd (no_answer answer.Nak nak.refuses (λ bad. cc));
    alone = λ x terms some. refl;
    lasts = λ x terms good. absurd (no_answer (answer.Ack terms) good.grants (λ bad. cc));
    served = served;
  }

  pub quiet_renewable : (at : ℕ) (said : List Offer) (past : List Entry) → RenewableAt (silent_entry at said) past
  quiet_renewable at said past = record {
    undisturbed = refl;
    probed = λ x terms good. absurd (no_answer (answer.Ack terms) good.grants (λ bad. cc));
    renewed = λ x terms good. absurd (no_answer (answer.Ack terms) good.grants (λ bad. cc));
  }

  -- one with a message of the server
  abbrev pub frame_entry : (at xid number : ℕ) → List Offer → Entry
  frame_entry at xid number said = record { moment = at; event = Frame 1 316; bytes = reply_frame xid number; offers = said }

  module _ (at xid number : ℕ) (said : List Offer) (past : List Entry) (x : Numbered)
      (open_so : (seen_in site (frame_entry at xid number said ∷ past)).current ≡ Some x) where
    abbrev e : Entry
    e = frame_entry at xid number said

    pub frame_fair : list_any (λ o. not o.taken) (offers_on 1 said) ≡ false → (reply : Answer4) → reply_at site x.exchange e ≡ reply → (reply ≡ answer.Nak → ⊥)
        → ((terms : Terms4) → reply ≡ answer.Ack terms → IfSome (expiry terms) (λ end. at + 0 < end)) → ServedAt e past → FairAt e past
    frame_fair taken reply is unlike lasts served = record {
      stays = tt;
      taken = taken;
      unrefused = λ y nak. absurd (no_nak site e past x open_so reply is unlike y nak);
      alone = λ y terms some. ap (tells_contest own_macs terms.net.ip) (no_packet xid number);
      lasts = each_ack site e past x open_so (λ terms. IfSome (expiry terms) (λ end. at + 0 < end)) reply is lasts;
      served = served;
    }

    pub frame_renewable : (reply : Answer4) → reply_at site x.exchange e ≡ reply
        → ((terms : Terms4) → reply ≡ answer.Ack terms → IfSome (asked_at answered terms) (λ due. at + 0 ≤ due))
        → ((terms : Terms4) → reply ≡ answer.Ack terms → IsBefore 1000 (asked_at answered terms) (needed_by answered terms)) → RenewableAt e past
    frame_renewable reply is probed renewed = record {
      undisturbed = refl;
      probed = each_ack site e past x open_so (λ terms. IfSome (asked_at answered terms) (λ due. at + 0 ≤ due)) reply is probed;
      renewed = each_ack site e past x open_so (λ terms. IsBefore 1000 (asked_at answered terms) (needed_by answered terms)) reply is renewed;
    }

  -- ---- what a turn asks the next one answers

  or_none : (b : Bool) → (b || false) ≡ true → b ≡ true
  or_none true h = refl
  or_none false h = absurd cc

  and_first : (a b : Bool) → a ≡ false → (a && b) ≡ true → ⊥
  and_first true b e h = cc
  and_first false b e h = cc

  and_third : (a b c : Bool) → c ≡ false → (a && b && c) ≡ true → ⊥
  and_third a b true e h = cc
  and_third true true false e h = cc
  and_third true false false e h = cc
  and_third false b false e h = cc

  and_start : (a b c : Bool) → a ≡ false → (a && b && c) ≡ true → ⊥
  and_start true b c e h = cc
  and_start false b c e h = cc

  abbrev Among : (Option Sent4 → Bool) → List (Option Sent4) → Type 0
  Among test ms = list_any test ms ≡ true

  pub silent_next : (f g : Entry) (earlier : List Entry) → messages_at site g ≡ [] → IsNext site answered 1000 f g earlier
  silent_next f g earlier none = record {
    offered = λ xid said. absurd (nothing (subst (Among (seeks xid)) none said));
    granted = λ opened is said. absurd (nothing (subst (Among (asks answered opened.exchange.xid)) none said));
  }
    where
      nothing : false ≡ true → ⊥
      nothing h = cc

  module _ (f g : Entry) (earlier : List Entry) (sent : Sent4) (says_so : messages_at site g ≡ Some sent ∷ []) where
    sought : (xid : ℕ) → list_any (seeks xid) (messages_at site g) ≡ true → (is_discover sent.said.kind && (sent.said.xid == xid)) ≡ true
    sought xid said = or_none (is_discover sent.said.kind && (sent.said.xid == xid)) (subst (Among (seeks xid)) says_so said)

    asked : (xid : ℕ) → list_any (asks answered xid) (messages_at site g) ≡ true
        → (is_request sent.said.kind && (sent.said.xid == xid) && is_answered answered sent) ≡ true
    asked xid said = or_none (asks answered xid (Some sent)) (subst (Among (asks answered xid)) says_so said)

    -- a REQUEST
    pub request_next : is_discover sent.said.kind ≡ false → (x : Numbered) → (seen_in site (g ∷ earlier)).current ≡ Some x
        → (nat_le f.moment (g.moment + 1000) && grants site x.exchange f) ≡ true → IsNext site answered 1000 f g earlier
    request_next other x open_so h = record {
      offered = λ xid said. absurd (and_first (is_discover sent.said.kind) (sent.said.xid == xid) other (sought xid said));
      granted = λ opened is said.
          subst (λ (y : Numbered). (nat_le f.moment (g.moment + 1000) && grants site y.exchange f) ≡ true) (one_of x opened (sym open_so ∙ is)) h;
    }
      where
        one_of : (a b : Numbered) → Some a ≡ Some b → a ≡ b
        one_of a b e = cc

    -- one that isn't answered
    pub vain_next : is_discover sent.said.kind ≡ false → is_answered answered sent ≡ false → IsNext site answered 1000 f g earlier
    vain_next other vain = record {
      offered = λ xid said. absurd (and_first (is_discover sent.said.kind) (sent.said.xid == xid) other (sought xid said));
      granted = λ opened is said.
          absurd (and_third (is_request sent.said.kind) (sent.said.xid == opened.exchange.xid) (is_answered answered sent) vain
          (asked opened.exchange.xid said));
    }

    -- a DISCOVER
    pub discover_next : is_request sent.said.kind ≡ false
        → ((xid : ℕ) → (is_discover sent.said.kind && (sent.said.xid == xid)) ≡ true → (nat_le f.moment (g.moment + 1000) && offers site xid f) ≡ true)
        → IsNext site answered 1000 f g earlier
    discover_next other h = record {
      offered = λ xid said. h xid (sought xid said);
      granted = λ opened is said.
          absurd (and_start (is_request sent.said.kind) (sent.said.xid == opened.exchange.xid) (is_answered answered sent) other
          (asked opened.exchange.xid said));
    }

-- ---- what is seen

pub seen_by : (e : Entry) (past : List Entry) (ms : List (Option Sent4)) (s : Seen) → messages_at site e ≡ ms → seen_in site past ≡ s
    → seen_in site (e ∷ past) ≡ show e.moment ms s
seen_by e past ms s is before = ap (λ all. show e.moment all (seen_in site past)) is ∙ ap (show e.moment ms) before
