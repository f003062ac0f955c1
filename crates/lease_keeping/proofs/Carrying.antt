-- What a client carries of the turns shown while it acquires a lease and keeps it, state by state.
use Rattle.std.proofs.Common.{◌≡◌, ℕ, ◌+◌, ◌*◌, ◌<◌, ◌≤◌, ◌⊎◌, true, List, Option, Some, None, IfSome, refl}
use Rattle.net_types.specs.declared.address.Ip4.{Ip4}
use Rattle.arp_acd.specs.declared.detection.Acd.{Acd}
use Rattle.arp_acd.specs.declared.detection.Phase.{Phase}
use Rattle.arp_acd.specs.declared.detection.Phase.TheVariants.{Probing, Announcing, Held, Over}
use Rattle.lease_text.specs.declared.lease.Terms4.{Terms4}
use Rattle.v4_frames.specs.declared.sent.Sent4.{Sent4}
use Rattle.v4_client.specs.declared.states.Exchange4.{Exchange4}
use Rattle.v4_client.specs.declared.states.State4.{State4}
use Rattle.v4_client.specs.declared.states.State4.TheVariants.{Off, Init, Selecting, Requesting, Rebooting, Checking, Waiting, Bound, Renewing, Rebinding}
use Rattle.v4_client.specs.Clients.{is_bound}
use Rattle.evidence_words.specs.Entries.{Entry}
use Rattle.evidence_words.specs.Inputs.{Site}
use Rattle.lease_progress.specs.LeaseStays.{IsBefore, asked_at, needed_by}
use Rattle.lease_progress.specs.Serving.{Answered, EachRequest, BroadcastAlone, asks}
use Rattle.lease_keeping.proofs.Asking.{AskedIn}

-- ---- probing

-- The next due moment stays so far before the end as the probes that are left may take.
abbrev pub Probed : (end now n due : ℕ) → Type 0
Probed end now n due = (n ≤ 3) × (now ≤ due) × (due + 6000 ≤ end + 2000 * n)

abbrev pub EndsBy : (end now : ℕ) → Phase → Type 0
EndsBy end now (Probing n due) = Probed end now n due
EndsBy end now (Announcing due last) = ⊥
EndsBy end now (Held last) = ⊥
EndsBy end now Over = ⊥

-- it ends by a moment, where there is one
abbrev pub Pends : Option ℕ → (now : ℕ) → Phase → Type 0
Pends None now phase = Unit {0}
Pends (Some end) now phase = EndsBy end now phase

-- ---- a lease

-- its address is the one that is detected
abbrev pub DetectsIp : Ip4 → Option Acd → Type 0
DetectsIp ip acd = IfSome acd (λ a. a.addr ≡ ip)

module _ (site : Site) (answered : Answered) (wait : ℕ) where
  -- the REQUEST that servers answer is to be said yet, and in time
  pub record Ahead (now : ℕ) (terms : Terms4) : Type 0 where
    pub ahead : IfSome (asked_at answered terms) (λ due. now ≤ due)
    pub enough : IsBefore wait (asked_at answered terms) (needed_by answered terms)

  -- it was said, in time
  pub record Awaits (Asks : Type 0) (exchange : Exchange4) (terms : Terms4) : Type 0 where
    pub asked : Asks
    pub enough : IfSome (needed_by answered terms) (λ end. exchange.first + wait < end)

  -- what is so while a lease is renewed, and while it is rebound
  abbrev pub WhileRenewing : Answered → (now : ℕ) → (Asks : Type 0) → Exchange4 → Terms4 → Type 0
  WhileRenewing EachRequest now Asks exchange terms = Awaits Asks exchange terms
  WhileRenewing BroadcastAlone now Asks exchange terms = Ahead now terms

  abbrev pub WhileRebinding : Answered → (Asks : Type 0) → Exchange4 → Terms4 → Type 0
  WhileRebinding EachRequest Asks exchange terms = ⊥
  WhileRebinding BroadcastAlone Asks exchange terms = Awaits Asks exchange terms

  -- In each state where no lease is bound it is as `free` says. `Asks` says of an exchange that its REQUEST was said.
  abbrev pub Carried : (free : Type 0) → (Asks : Exchange4 → Type 0) → (now : ℕ) → State4 → Type 0
  Carried free Asks now Off = free
  Carried free Asks now (Init due) = free
  Carried free Asks now (Selecting xid began secs backoff due) = free
  Carried free Asks now (Requesting exchange secs backoff due) = free
  Carried free Asks now (Rebooting exchange backoff end due stands) = free
  Carried free Asks now (Checking xid terms origin acd stands) =
      free × (acd.addr ≡ terms.net.ip) × IsBefore wait (asked_at answered terms) (needed_by answered terms) × Pends (asked_at answered terms) now acd.phase
  Carried free Asks now (Waiting due) = free
  Carried free Asks now (Bound xid terms acd) = DetectsIp terms.net.ip acd × Ahead now terms
  Carried free Asks now (Renewing exchange terms acd due) =
      DetectsIp terms.net.ip acd × (exchange.address ≡ terms.net.ip) × WhileRenewing answered now (Asks exchange) exchange terms
  Carried free Asks now (Rebinding exchange terms acd due) =
      DetectsIp terms.net.ip acd × (exchange.address ≡ terms.net.ip) × WhileRebinding answered (Asks exchange) exchange terms

  -- after some turns
  abbrev pub Keeps : (free : Type 0) → (past : List Entry) → (now : ℕ) → State4 → Type 0
  Keeps free past now state = Carried free (λ exchange. AskedIn site answered exchange past) now state

  -- after the tick of a turn: its REQUEST was said before, or just now
  abbrev pub AskedSoFar : (past : List Entry) → (at : ℕ) → (first : Option Sent4) → Exchange4 → Type 0
  AskedSoFar past at first exchange = AskedIn site answered exchange past ⊎ ((asks answered exchange.xid first ≡ true) × (at ≡ exchange.first))

  abbrev pub Amid : (free : Type 0) → (past : List Entry) → (at : ℕ) → (first : Option Sent4) → State4 → Type 0
  Amid free past at first state = Carried free (AskedSoFar past at first) at state

  -- ---- bound states alone

  pub none_free : (past : List Entry) (now : ℕ) (state : State4) → is_bound state ≡ true → Keeps (Unit {0}) past now state → Keeps ⊥ past now state
  none_free past now Off bound h = absurd cc
  none_free past now (Init due) bound h = absurd cc
  none_free past now (Selecting xid began secs backoff due) bound h = absurd cc
  none_free past now (Requesting exchange secs backoff due) bound h = absurd cc
  none_free past now (Rebooting exchange backoff end due stands) bound h = absurd cc
  none_free past now (Checking xid terms origin acd stands) bound h = absurd cc
  none_free past now (Waiting due) bound h = absurd cc
  none_free past now (Bound xid terms acd) bound h = h
  none_free past now (Renewing exchange terms acd due) bound h = h
  none_free past now (Rebinding exchange terms acd due) bound h = h

  pub is_bound_so : (past : List Entry) (now : ℕ) (state : State4) → Keeps ⊥ past now state → is_bound state ≡ true
  is_bound_so past now Off h = absurd h
  is_bound_so past now (Init due) h = absurd h
  is_bound_so past now (Selecting xid began secs backoff due) h = absurd h
  is_bound_so past now (Requesting exchange secs backoff due) h = absurd h
  is_bound_so past now (Rebooting exchange backoff end due stands) h = absurd h
  is_bound_so past now (Checking xid terms origin acd stands) h = absurd h.0
  is_bound_so past now (Waiting due) h = absurd h
  is_bound_so past now (Bound xid terms acd) h = refl
  is_bound_so past now (Renewing exchange terms acd due) h = refl
  is_bound_so past now (Rebinding exchange terms acd due) h = refl
