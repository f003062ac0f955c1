-- A client is woken in time (RFC 2131, sections 3.1, 4.1, 4.4.1, 4.4.2 and 4.4.5; RFC 5227): at the first moment from
-- which on a timed row of the table fits, and not before.
use Rattle.std.specs.Prelude.{◌≡◌, ℕ, Bool, true, false, ◌||◌, Option, Some, None}
use Rattle.machine.specs.Moment.{is_due, moment_of}
use Rattle.arp_acd.specs.Table as detection
use Rattle.v4_client.specs.declared.states.State4.{State4}
use Rattle.v4_client.specs.declared.states.State4.TheVariants.{Init, Selecting, Requesting, Rebooting, Checking, Waiting, Bound, Renewing, Rebinding}
use Rattle.v4_client.specs.Clients.{ClientContent}
use Rattle.v4_client.specs.Due.{due_of}
use Rattle.v4_client.specs.History.{Tick}
use Rattle.v4_client.specs.Laws.{ChangesNothing}
use Rattle.v4_client.specs.Moments.{expiry, renewal_at, rebinding_at, standing_until}
use Rattle.v4_client.specs.Sound.{IsSound}

-- ---- the timed rows: from which moment on each of them fits, where the state has one

-- a message: the first DISCOVER, after its delay or the wait after a refusal, and each one that is said again
abbrev pub says_from : State4 → Option ℕ
says_from (Init due) = Some due
says_from (Waiting due) = Some due
says_from (Selecting xid began secs backoff due) = Some due
says_from (Requesting exchange secs backoff due) = Some due
says_from (Rebooting exchange backoff end due stands) = Some due
says_from (Renewing exchange terms acd due) = Some due
says_from (Rebinding exchange terms acd due) = Some due
says_from _ = None

-- the kept lease isn't asked for any more
abbrev pub gives_up_from : State4 → Option ℕ
gives_up_from (Rebooting exchange backoff end due stands) = Some end
gives_up_from _ = None

-- T1: a lease is renewed
abbrev pub renews_from : State4 → Option ℕ
renews_from (Bound xid terms acd) = renewal_at terms
renews_from _ = None

-- T2: a lease is rebound
abbrev pub rebinds_from : State4 → Option ℕ
rebinds_from (Bound xid terms acd) = rebinding_at terms
rebinds_from (Renewing exchange terms acd due) = rebinding_at terms
rebinds_from _ = None

-- the end of a lease that is checked or held
abbrev pub ends_from : State4 → Option ℕ
ends_from (Checking xid terms origin acd stands) = expiry terms
ends_from (Bound xid terms acd) = expiry terms
ends_from (Renewing exchange terms acd due) = expiry terms
ends_from (Rebinding exchange terms acd due) = expiry terms
ends_from _ = None

-- the end of the kept lease on which a client stands
abbrev pub stands_until : State4 → Option ℕ
stands_until (Rebooting exchange backoff end due stands) = standing_until stands
stands_until (Checking xid terms origin acd stands) = standing_until stands
stands_until _ = None

-- a probe of a checked address, its passing, and an announcement of a held one
abbrev pub detects_from : State4 → Option ℕ
detects_from (Checking xid terms origin acd stands) = detection.due_of acd.phase
detects_from (Bound xid terms (Some acd)) = detection.due_of acd.phase
detects_from (Renewing exchange terms (Some acd) due) = detection.due_of acd.phase
detects_from (Rebinding exchange terms (Some acd) due) = detection.due_of acd.phase
detects_from _ = None

-- the moment of some timed row has come
abbrev pub has_row : State4 → (at : ℕ) → Bool
has_row state at =
    is_due (says_from state) at
    || (is_due (gives_up_from state) at
    || (is_due (renews_from state) at
    || (is_due (rebinds_from state) at
    || (is_due (ends_from state) at || (is_due (stands_until state) at || is_due (detects_from state) at)))))

-- ---- the law

pub record IsWoken (c : ClientContent) : Type 0 where
  -- it asks to be woken at the first moment at which a row fits
  pub first : (at : ℕ) → is_due (due_of c.state) at ≡ has_row c.state at
  -- from then on a tick changes the client or says something
  pub acts : (at salt : ℕ) → has_row c.state (moment_of at) ≡ true → ChangesNothing (Tick at salt) c → ⊥
  -- before then it does neither
  pub rests : (at salt : ℕ) → has_row c.state (moment_of at) ≡ false → ChangesNothing (Tick at salt) c

abbrev pub WakesInTime : Type 0
WakesInTime = (c : ClientContent) → IsSound c → IsWoken c
