-- An observer of what is shown: which exchange was granted last, and whether that grant still stands.
use Rattle.std.proofs.Common.{◌≡◌, ℕ, ◌+◌, ◌<◌, ◌≤◌, ◌⊎◌, inl, inr, Bool, true, false, not, ◌||◌, List, [], ◌∷◌, Option, Some, None, IfSome, refl, ap, nat_eq, arith}
use Rattle.std.proofs.lemmas.Bool.{eqb-true}
use Rattle.std.specs.List.{list_any}
use Rattle.std.specs.Prelude.{◌==◌}
use Rattle.net_types.proofs.CaseLaws.{split}
use Rattle.lease_text.specs.declared.lease.Terms4.{Terms4}
use Rattle.world.specs.declared.wakes.Event.{Event}
use Rattle.world.specs.declared.wakes.Event.TheVariants.{Carrier, Release, Stop}
use Rattle.v4_message.specs.declared.writing.Kind4.{Kind4}
use Rattle.v4_message.specs.declared.writing.Kind4.TheVariants as kind
use Rattle.v4_message.specs.declared.writing.Said4.{Said4}
use Rattle.v4_frames.specs.declared.sent.Sent4.{Sent4}
use Rattle.v4_client.specs.declared.states.Answer4.{Answer4}
use Rattle.v4_client.specs.declared.states.Answer4.TheVariants as answer
use Rattle.v4_client.specs.declared.states.Exchange4.{Exchange4}
use Rattle.evidence_words.specs.Entries.{Entry}
use Rattle.evidence_words.specs.Inputs.{Site, index_at, has_carrier}
use Rattle.lease_evidence.specs.Exchanges.{Numbered, Seen, exchange_of, opens, requests, says, shows, show, messages_at, seen_in}
use Rattle.lease_evidence.specs.LeaseBasis.{tells_end}
use Rattle.lease_evidence.specs.Replies.{reply_at}

-- ---- what it keeps

-- the exchange that was granted last, and the terms of its first ACK
pub record Grant : Type 0 where
  pub opened : Numbered
  pub terms : Terms4

-- the number of the last exchange with an acceptable ACK, and its grant while that stands
pub record Kept : Type 0 where
  pub answered : ℕ
  pub grant : Option Grant

abbrev pub kept : ℕ → Option Grant → Kept
kept answered grant = record { answered = answered; grant = grant }

abbrev pub stays_on : (up : Bool) → ℕ → Event → Bool
stays_on up index (Carrier other now) = not (index == other) || not up || now
stays_on up index (Release other) = not (index == other)
stays_on up index Stop = false
stays_on up index _ = true

abbrev pub unless_ended : (ended : Bool) → Option Grant → Option Grant
unless_ended true grant = None
unless_ended false grant = grant

abbrev pub if_calm : (stays ended : Bool) → Option Grant → Option Grant
if_calm true ended grant = unless_ended ended grant
if_calm false ended grant = None

abbrev pub answered_in : Numbered → (before : Bool) → Answer4 → Kept → Kept
answered_in opened true reply k = k
answered_in opened false (answer.Ack terms) k = kept opened.number (Some (record { opened = opened; terms = terms }))
answered_in opened false answer.Nak k = kept k.answered None
answered_in opened false answer.Nothing k = k
answered_in opened false (answer.Offer address server) k = k

-- the reply to the open exchange
abbrev pub hears : (Exchange4 → Answer4) → Option Numbered → Kept → Kept
hears reply None k = k
hears reply (Some opened) k = answered_in opened (nat_eq k.answered opened.number) (reply opened.exchange) k

abbrev pub ended_at : Site → Entry → Bool
ended_at site e = list_any tells_end (messages_at site e)

abbrev pub stays_at : Site → Entry → List Entry → Bool
stays_at site e past = stays_on (has_carrier site past) (index_at site) e.event

abbrev pub kept_in : Site → List Entry → Kept
kept_in site [] = kept 0 None
kept_in site (e ∷ past) =
    hears (λ exchange. reply_at site exchange e) (seen_in site (e ∷ past)).current
    (kept (kept_in site past).answered (if_calm (stays_at site e past) (ended_at site e) (kept_in site past).grant))

-- ---- exchanges as they are opened

same_number : (a b : ℕ) → (a == b) ≡ true → a ≡ b
same_number a b h = eqb-true a b h

-- an exchange is open, and its number is that of the exchanges opened so far
abbrev pub Latest : ℕ → Option Numbered → Type 0
Latest count current = IfSome current (λ x. x.number ≡ count)

-- the open exchange was open before, or it is opened now
abbrev pub OpenedSince : Seen → Option Numbered → Type 0
OpenedSince before current = (x : Numbered) → current ≡ Some x → (before.current ≡ Some x) ⊎ (before.count < x.number)

pub record Opens (before after : Seen) : Type 0 where
  pub grows : before.count ≤ after.count
  pub latest : Latest before.count before.current → Latest after.count after.current
  pub since : OpenedSince before after.current

itself : (n : ℕ) → n ≤ n
itself n = omega arith

unchanged : (seen : Seen) → Opens seen seen
unchanged seen = record { grows = itself seen.count; latest = λ h. h; since = λ x is. inl is }

closed : (seen : Seen) → Opens seen (record { count = seen.count; current = None })
closed seen = record { grows = itself seen.count; latest = λ h. tt; since = λ x is. absurd cc }

new_number : (x : Numbered) (count : ℕ) (exchange : Exchange4) → Some (record { number = count + 1; exchange = exchange }) ≡ Some x → count < x.number
new_number x count exchange is = let n : count + 1 ≡ x.number = ap (number_in count) is in omega arith
  where
    number_in : ℕ → Option Numbered → ℕ
    number_in d None = d
    number_in d (Some x) = x.number

opened_now : (at : ℕ) (said : Said4) (seen : Seen) → Opens seen (opens at said seen.count)
opened_now at said seen = record {
  grows = omega arith;
  latest = λ h. refl;
  since = λ x is. inr (new_number x seen.count (exchange_of at said) is);
}

requested : (at : ℕ) (said : Said4) (seen : Seen) (current : Option Numbered) → Opens seen (requests at said seen current)
requested at said seen None = opened_now at said seen
requested at said seen (Some x) =
    split (said.xid == x.exchange.xid) (λ e. rw e (unchanged seen)) (λ e. rw e (opened_now at said seen))

said_opens : (at : ℕ) (said : Said4) (seen : Seen) (sort : Kind4) → Opens seen (says at said seen sort)
said_opens at said seen kind.Request = requested at said seen seen.current
said_opens at said seen kind.Discover = closed seen
said_opens at said seen kind.Decline = closed seen
said_opens at said seen kind.Release = closed seen

pub shown_opens : (at : ℕ) (message : Option Sent4) (seen : Seen) → Opens seen (shows at message seen)
shown_opens at None seen = unchanged seen
shown_opens at (Some sent) seen = said_opens at sent.said seen sent.said.kind

both_open : (a b c : Seen) → Opens a b → Opens b c → Opens a c
both_open a b c one two = record {
  grows = omega (arith, one.grows, two.grows);
  latest = λ h. two.latest (one.latest h);
  since = λ x is. elim (two.since x is) [ inl was ↦ one.since x was | inr new ↦ inr (omega (arith, one.grows, new)) ];
}

pub shown_all : (at : ℕ) (messages : List (Option Sent4)) (seen : Seen) → Opens seen (show at messages seen)
shown_all at [] seen = unchanged seen
shown_all at (message ∷ messages) seen =
    both_open seen (shows at message seen) (show at messages (shows at message seen)) (shown_opens at message seen)
    (shown_all at messages (shows at message seen))
