-- What a client carries of the observer, state by state.
use Rattle.std.proofs.Common.{◌≡◌, ℕ, ◌+◌, ◌<◌, ◌≤◌, ◌^◌, ◌%◌, true, false, Option, Some, None, refl, sym, ap, subst, ◌∙◌, nat_eq, arith, if◌then◌else◌, IfSome}
use Rattle.std.proofs.lemmas.Bool.Decides.{nat_tests}
use Rattle.std.specs.Prelude.{◌==◌, option_map}
use Rattle.machine.specs.Draw.{xid_of, draw_xid_of}
use Rattle.machine.specs.Moment.{is_due}
use Rattle.net_types.proofs.CaseLaws.{split}
use Rattle.net_types.specs.declared.interface.IfIndex.{IfIndex}
use Rattle.lease_text.specs.declared.lease.Terms4.{Terms4}
use Rattle.v4_message.specs.declared.writing.Said4.{Said4}
use Rattle.v4_frames.specs.declared.sent.Sent4.{Sent4}
use Rattle.v4_client.specs.declared.states.Exchange4.{Exchange4}
use Rattle.v4_client.specs.declared.states.State4.{State4}
use Rattle.v4_client.specs.declared.states.State4.TheVariants.{Off, Init, Selecting, Requesting, Rebooting, Checking, Waiting, Bound, Renewing, Rebinding}
use Rattle.v4_client.specs.declared.states.Step4.{Step4}
use Rattle.v4_client.specs.declared.states.Turn4.{Turn4}
use Rattle.v4_client.specs.Moments.{expiry}
use Rattle.v4_client.specs.Saying.{sent_of}
use Rattle.v4_client.specs.Steps.{new_xid, rests}
use Rattle.lease_evidence.specs.Exchanges.{Numbered, Seen, exchange_of, opens, requests, shows}
use Rattle.lease_evidence.specs.LeaseBasis.{tells_end}
use Rattle.lease_evidence.proofs.Observer.{Grant, Kept, kept, unless_ended}

abbrev pub seen : ℕ → Option Numbered → Seen
seen count current = record { count = count; current = current }

-- ---- what each state carries

-- the open exchange has the transaction id that was drawn last
abbrev pub LastXid : Option ℕ → Option Numbered → Type 0
LastXid last None = Unit {0}
LastXid last (Some x) = last ≡ Some x.exchange.xid

-- it is this one, and had no acceptable ACK yet
abbrev pub Asks : Exchange4 → ℕ → Option Numbered → Type 0
Asks exchange answered None = ⊥
Asks exchange answered (Some x) = (x.exchange ≡ exchange) × (nat_eq answered x.number ≡ false)

-- it had one
abbrev pub IsAnswered : ℕ → Option Numbered → Type 0
IsAnswered answered None = ⊥
IsAnswered answered (Some x) = nat_eq answered x.number ≡ true

-- the grant that stands is on these terms, which are as K says
abbrev pub Holds : (Terms4 → Type 0) → Terms4 → Option Grant → Type 0
Holds K terms None = ⊥
Holds K terms (Some grant) = (grant.terms ≡ terms) × K terms

-- of any terms
abbrev pub AnyTerms : Terms4 → Type 0
AnyTerms terms = Unit {0}

-- the kept lease on which a client stands is as K says
abbrev pub On : (Terms4 → Type 0) → State4 → Option Numbered → ℕ → Option Grant → Type 0
On K Off current answered grant = Unit {0}
On K (Init due) current answered grant = Unit {0}
On K (Selecting xid began secs backoff due) current answered grant = current ≡ None
On K (Requesting exchange secs backoff due) current answered grant = Asks exchange answered current
On K (Rebooting exchange backoff end due stands) current answered grant = Asks exchange answered current × IfSome stands K
On K (Checking xid terms origin acd stands) current answered grant = IsAnswered answered current × Holds AnyTerms terms grant × IfSome stands K
On K (Waiting due) current answered grant = Unit {0}
On K (Bound xid terms acd) current answered grant = IsAnswered answered current × Holds K terms grant
On K (Renewing exchange terms acd due) current answered grant = Asks exchange answered current × Holds K terms grant
On K (Rebinding exchange terms acd due) current answered grant = Asks exchange answered current × Holds K terms grant

pub record Watched (K : Terms4 → Type 0) (last : Option ℕ) (state : State4) (s : Seen) (k : Kept) : Type 0 where
  pub xid : LastXid last s.current
  pub on : On K state s.current k.answered k.grant

-- a lease that isn't over at this moment
abbrev pub Lasts : ℕ → Terms4 → Type 0
Lasts at terms = is_due (expiry terms) at ≡ false

-- the message that a step says
abbrev pub message_in : Step4 → Option Sent4
message_in step = option_map sent_of step.say

abbrev pub ended_by : Step4 → Kept → Kept
ended_by step k = kept k.answered (unless_ended (tells_end (message_in step)) k.grant)

-- after a step
abbrev pub WatchedAfter : (Terms4 → Type 0) → (at : ℕ) → Seen → Kept → Step4 → Type 0
WatchedAfter K at s k step = Watched K step.last step.state (shows at (message_in step) s) (ended_by step k)

pub rested : (K : Terms4 → Type 0) (turn : Turn4) (state : State4) (s : Seen) (k : Kept) → Watched K turn.last state s k
    → WatchedAfter K turn.at s k (rests turn state)
rested K turn state s k w = w

-- ---- with a lease that lasts

pub with_terms : (K L : Terms4 → Type 0) (terms : Terms4) (grant : Option Grant) → L terms → Holds K terms grant → Holds L terms grant
with_terms K L terms None l h = absurd h
with_terms K L terms (Some grant) l h = (h.0, l)

-- ---- what a REQUEST opens

pub other_number : (answered count : ℕ) → answered ≤ count → nat_eq answered (count + 1) ≡ false
other_number answered count le = grind (arith, nat_tests)

pub equal_number : (n : ℕ) → nat_eq n n ≡ true
equal_number n = grind (arith, nat_tests)

-- a transaction id unlike that of the open exchange
abbrev pub IsFresh : ℕ → Option Numbered → Type 0
IsFresh xid None = Unit {0}
IsFresh xid (Some x) = (xid == x.exchange.xid) ≡ false

opens_anew : (at : ℕ) (said : Said4) (count : ℕ) (current : Option Numbered) → IsFresh said.xid current
    → requests at said (seen count current) current ≡ opens at said count
opens_anew at said count None fresh = refl
opens_anew at said count (Some x) fresh = rw fresh refl

goes_on : (at : ℕ) (said : Said4) (count : ℕ) (current : Option Numbered) (exchange : Exchange4) (answered : ℕ) → said.xid ≡ exchange.xid
    → Asks exchange answered current → requests at said (seen count current) current ≡ seen count current
goes_on at said count None exchange answered same asks = absurd asks
goes_on at said count (Some x) exchange answered same asks =
    rw (here said.xid x.exchange.xid (same ∙ ap (λ (e : Exchange4). e.xid) (sym asks.0))) refl
  where
    here : (a b : ℕ) → a ≡ b → (a == b) ≡ true
    here a b e = grind (arith, nat_tests)

module _ (K : Terms4 → Type 0) (at : ℕ) (said : Said4) (exchange : Exchange4) (state : State4) (count : ℕ) (current : Option Numbered) (k : Kept) where
  abbrev Asking : Seen → Type 0
  Asking s = Watched K (Some exchange.xid) state s k

  pub asks_anew : k.answered ≤ count → IsFresh said.xid current → exchange_of at said ≡ exchange
      → ((x : Numbered) → Asks exchange k.answered (Some x) → On K state (Some x) k.answered k.grant)
      → Asking (requests at said (seen count current) current)
  asks_anew within fresh is then_on =
      subst Asking (sym (opens_anew at said count current fresh)) (record {
        xid = ap (λ (e : Exchange4). Some e.xid) (sym is);
        on = then_on _ (is, other_number k.answered count within);
      })

  pub asks_again : said.xid ≡ exchange.xid → LastXid (Some exchange.xid) current → Asks exchange k.answered current → On K state current k.answered k.grant
      → Asking (requests at said (seen count current) current)
  asks_again same xid asks on =
      subst Asking (sym (goes_on at said count current exchange k.answered same asks)) (record { xid = xid; on = on })

pub asked_xid : (exchange : Exchange4) (answered : ℕ) (current : Option Numbered) → Asks exchange answered current → LastXid (Some exchange.xid) current
asked_xid exchange answered None asks = absurd asks
asked_xid exchange answered (Some x) asks = ap (λ (e : Exchange4). Some e.xid) (sym asks.0)

-- ---- a new transaction id

other_xid : (xid last : ℕ) → xid < 2 ^ 32 → ((if nat_eq xid last then (xid + 1) % 2 ^ 32 else xid) == last) ≡ false
other_xid xid last small =
    split (nat_eq xid last)
    (λ e. rw e (unlike xid last small e)) (λ e. rw e e)
  where
    unlike : (xid last : ℕ) → xid < 2 ^ 32 → nat_eq xid last ≡ true → ((xid + 1) % 2 ^ 32 == last) ≡ false
    unlike xid last small e = grind (arith, nat_tests)

drawn : (salt : ℕ) (iface : IfIndex) (last : ℕ) → (draw_xid_of salt iface (Some last) == last) ≡ false
drawn salt iface last = other_xid (xid_of salt iface) last (omega arith)

pub fresh : (turn : Turn4) (current : Option Numbered) → LastXid turn.last current → IsFresh (new_xid turn) current
fresh turn None l = tt
fresh turn (Some x) l =
    subst (λ (last : Option ℕ). (draw_xid_of turn.salt turn.site.iface.index last == x.exchange.xid) ≡ false) (sym l)
    (drawn turn.salt turn.site.iface.index x.exchange.xid)
