-- The rows of ticks (RFC 2131, section 4.4): what a client does when its moment has come.
use Rattle.std.specs.Prelude.{ℕ, Bool, true, false, Option, Some, None, nat_le, if◌then◌else◌}
use Rattle.machine.specs.Moment.{is_due}
use Rattle.arp_acd.specs.declared.detection.Acd.{Acd}
use Rattle.arp_acd.specs.Table as detection
use Rattle.lease_text.specs.declared.lease.Terms4.{Terms4}
use Rattle.v4_client.specs.declared.moments.Backoff.{Backoff}
use Rattle.v4_client.specs.declared.moments.Backoff.TheVariants.{Four, Eight, Sixteen, ThirtyTwo, SixtyFour}
use Rattle.v4_client.specs.declared.states.Exchange4.{Exchange4}
use Rattle.v4_client.specs.declared.states.Keep4.TheVariants.{Clears}
use Rattle.v4_client.specs.declared.states.News4.TheVariants as news
use Rattle.v4_client.specs.declared.states.Origin4.{Origin4}
use Rattle.v4_client.specs.declared.states.State4.{State4}
use Rattle.v4_client.specs.declared.states.State4.TheVariants.{Off, Init, Selecting, Requesting, Rebooting, Checking, Waiting, Bound, Renewing, Rebinding}
use Rattle.v4_client.specs.declared.states.Step4.{Step4}
use Rattle.v4_client.specs.declared.states.Turn4.{Turn4}
use Rattle.v4_client.specs.Detection.{checked, defended, with_acd}
use Rattle.v4_client.specs.Moments.{doubled, expiry, renewal_at, rebinding_at, standing_until}
use Rattle.v4_client.specs.Steps.{rests, to_init, selecting, discovers, requesting, rebooting, new_exchange, renewing, rebinding, expires, standing_news}

-- the longest wait for an answer
abbrev pub is_longest : Backoff → Bool
is_longest Four = false
is_longest Eight = false
is_longest Sixteen = false
is_longest ThirtyTwo = false
is_longest SixtyFour = true

-- what conflict detection of a held address says
abbrev pub detects : Turn4 → (xid : ℕ) → Terms4 → State4 → Option Acd → Step4
detects turn xid terms state None = rests turn state
detects turn xid terms state (Some acd) =
    defended turn xid terms (with_acd state (detection.acd_tick acd turn.at turn.salt).acd)
    (detection.acd_tick acd turn.at turn.salt).says

abbrev pub requesting_tick : Turn4 → Exchange4 → (secs : ℕ) → Backoff → Step4
requesting_tick turn exchange secs backoff =
    if is_longest backoff then to_init turn else requesting turn exchange secs (doubled backoff)

abbrev pub rebooting_tick : Turn4 → Exchange4 → Backoff → (end : ℕ) → (stands : Option Terms4) → Step4
rebooting_tick turn exchange backoff end stands =
    if is_due (standing_until stands) turn.at then expires turn
    else if nat_le end turn.at then record (discovers turn) { news = standing_news stands }
    else rebooting turn exchange (doubled backoff) end stands

-- the kept lease is over on which the client stands, and the check goes on
abbrev pub falls : Turn4 → State4 → Step4
falls turn state = record (rests turn state) { keep = Clears; news = news.Expire }

abbrev pub checking_tick : Turn4 → (xid : ℕ) → Terms4 → Origin4 → Acd → (stands : Option Terms4) → Step4
checking_tick turn xid terms origin acd stands =
    if is_due (standing_until stands) turn.at
    then falls turn (Checking xid terms origin acd None)
    else if is_due (expiry terms) turn.at then record (to_init turn) { news = standing_news stands }
    else checked turn xid terms origin (detection.acd_tick acd turn.at turn.salt).acd stands
    (detection.acd_tick acd turn.at turn.salt).says

abbrev pub bound_tick : Turn4 → (xid : ℕ) → Terms4 → Option Acd → Step4
bound_tick turn xid terms acd =
    if is_due (expiry terms) turn.at then expires turn
    else if is_due (rebinding_at terms) turn.at then rebinding turn (new_exchange turn terms.net.ip) terms acd
    else if is_due (renewal_at terms) turn.at then renewing turn (new_exchange turn terms.net.ip) terms acd
    else detects turn xid terms (Bound xid terms acd) acd

abbrev pub renewing_tick : Turn4 → Exchange4 → Terms4 → Option Acd → (due : ℕ) → Step4
renewing_tick turn exchange terms acd due =
    if is_due (expiry terms) turn.at then expires turn
    else if is_due (rebinding_at terms) turn.at then rebinding turn (new_exchange turn terms.net.ip) terms acd
    else if nat_le due turn.at then renewing turn exchange terms acd
    else detects turn exchange.xid terms (Renewing exchange terms acd due) acd

abbrev pub rebinding_tick : Turn4 → Exchange4 → Terms4 → Option Acd → (due : ℕ) → Step4
rebinding_tick turn exchange terms acd due =
    if is_due (expiry terms) turn.at then expires turn
    else if nat_le due turn.at then rebinding turn exchange terms acd
    else detects turn exchange.xid terms (Rebinding exchange terms acd due) acd

abbrev pub tick_row : Turn4 → State4 → Step4
tick_row turn Off = rests turn Off
-- Init and Waiting: a new xid; DISCOVER.
tick_row turn (Init due) = discovers turn
tick_row turn (Waiting due) = discovers turn
-- Selecting: DISCOVER again.
tick_row turn (Selecting xid began secs backoff due) = selecting turn xid began (doubled backoff)
-- Requesting: REQUEST again; after the longest wait Init.
tick_row turn (Requesting exchange secs backoff due) = requesting_tick turn exchange secs backoff
-- Rebooting: the kept lease ends on which the client stands; else REQUEST again; at its end a new xid and DISCOVER.
tick_row turn (Rebooting exchange backoff end due stands) = rebooting_tick turn exchange backoff end stands
-- Checking: the kept lease ends on which the client stands, and the check goes on; the lease ends before it is held;
-- else what conflict detection says.
tick_row turn (Checking xid terms origin acd stands) = checking_tick turn xid terms origin acd stands
-- A held lease: its expiry, then T2, then T1, then the REQUEST again; else what conflict detection says.
tick_row turn (Bound xid terms acd) = bound_tick turn xid terms acd
tick_row turn (Renewing exchange terms acd due) = renewing_tick turn exchange terms acd due
tick_row turn (Rebinding exchange terms acd due) = rebinding_tick turn exchange terms acd due
