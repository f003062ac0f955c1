-- The steps that the rows of the table are made of: where a client goes, and what it says on the way.
use Rattle.std.specs.Prelude.{ℕ, ◌+◌, true, false, min, Option, Some, None}
use Rattle.machine.specs.Draw.{draw_xid_of}
use Rattle.net_types.specs.declared.address.Ip4.{Ip4}
use Rattle.arp_acd.specs.declared.detection.Acd.{Acd}
use Rattle.lease_text.specs.declared.lease.Terms4.{Terms4}
use Rattle.v4_client.specs.declared.moments.Backoff.{Backoff}
use Rattle.v4_client.specs.declared.moments.Backoff.TheVariants.{Four}
use Rattle.v4_client.specs.declared.moments.TheConstants.{REFUSED_WAIT}
use Rattle.v4_client.specs.declared.states.Exchange4.{Exchange4}
use Rattle.v4_client.specs.declared.states.Keep4.TheVariants.{Stays, Clears, Takes}
use Rattle.v4_client.specs.declared.states.News4.{News4}
use Rattle.v4_client.specs.declared.states.News4.TheVariants as news
use Rattle.v4_client.specs.declared.states.Origin4.{Origin4}
use Rattle.v4_client.specs.declared.states.Origin4.TheVariants.{Offered, Rebooted}
use Rattle.v4_client.specs.declared.states.State4.{State4}
use Rattle.v4_client.specs.declared.states.State4.TheVariants.{Off, Init, Selecting, Requesting, Rebooting, Waiting, Bound, Renewing, Rebinding}
use Rattle.v4_client.specs.declared.states.Step4.{Step4}
use Rattle.v4_client.specs.declared.states.Turn4.{Turn4}
use Rattle.v4_client.specs.Moments.{wait, first_delay, secs_since, expiry, rebinding_at, again_at}
use Rattle.v4_client.specs.Saying.{discover, request, renewing_request, rebinding_request, decline}

-- the client stands so, and nothing is said
abbrev pub goes_to : State4 → (last : Option ℕ) → Step4
goes_to state last =
    record { state = state; last = last; keep = Stays; say = None; arp = None; news = news.Nothing; spends = false }

abbrev pub rests : Turn4 → State4 → Step4
rests turn state = goes_to state turn.last

-- the client is off, and stands on no lease any more
abbrev pub stops : Turn4 → Step4
stops turn = record (rests turn Off) { spends = true }

-- Init, due after the first delay
abbrev pub to_init : Turn4 → Step4
to_init turn = rests turn (Init (turn.at + first_delay turn.site turn.salt))

-- DISCOVER, said in the exchange that began at this moment; Selecting, due after the wait
abbrev pub selecting : Turn4 → (xid began : ℕ) → Backoff → Step4
selecting turn xid began backoff =
    let secs : ℕ = secs_since began turn.at in
    record (goes_to (Selecting xid began secs backoff (turn.at + wait turn.site turn.salt backoff)) (Some xid)) {
      say = Some (discover turn.site xid secs);
    }

abbrev pub new_xid : Turn4 → ℕ
new_xid turn = draw_xid_of turn.salt turn.site.iface.index turn.last

-- a new xid; DISCOVER
abbrev pub discovers : Turn4 → Step4
discovers turn = selecting turn (new_xid turn) turn.at Four

-- REQUEST for the offered address; Requesting, due after the wait
abbrev pub requesting : Turn4 → Exchange4 → (secs : ℕ) → Backoff → Step4
requesting turn exchange secs backoff =
    record
    (goes_to (Requesting exchange secs backoff (turn.at + wait turn.site turn.salt backoff)) (Some exchange.xid)) {
      say = Some (request turn.site exchange secs);
    }

-- REQUEST for the address of the kept lease, on which the client stands or not; Rebooting, due after the wait, and not
-- after its end
abbrev pub rebooting : Turn4 → Exchange4 → Backoff → (end : ℕ) → (stands : Option Terms4) → Step4
rebooting turn exchange backoff end stands =
    record
    (goes_to (Rebooting exchange backoff end (min end (turn.at + wait turn.site turn.salt backoff)) stands)
    (Some exchange.xid)) {
      say = Some (request turn.site exchange 0);
    }

-- an exchange with a new xid, which asks for an address from now on
abbrev pub new_exchange : Turn4 → Ip4 → Exchange4
new_exchange turn address = record { xid = new_xid turn; address = address; server = None; first = turn.at }

-- REQUEST to the server; Renewing, due after half of the time until T2
abbrev pub renewing : Turn4 → Exchange4 → Terms4 → Option Acd → Step4
renewing turn exchange terms acd =
    record (goes_to (Renewing exchange terms acd (again_at (rebinding_at terms) turn.at)) (Some exchange.xid)) {
      say = Some (renewing_request turn.site terms exchange.xid);
    }

-- REQUEST to everyone; Rebinding, due after half of the time until the expiry
abbrev pub rebinding : Turn4 → Exchange4 → Terms4 → Option Acd → Step4
rebinding turn exchange terms acd =
    record (goes_to (Rebinding exchange terms acd (again_at (expiry terms) turn.at)) (Some exchange.xid)) {
      say = Some (rebinding_request turn.site terms exchange.xid);
    }

abbrev pub bound_news : Origin4 → News4
bound_news Offered = news.Bound
bound_news Rebooted = news.Reboot

-- the lease is held and kept
abbrev pub binds : Turn4 → (xid : ℕ) → Terms4 → News4 → Option Acd → Step4
binds turn xid terms news acd = record (rests turn (Bound xid terms acd)) { keep = Takes terms; news = news }

-- the lease ends: none is kept, and Init follows
abbrev pub expires : Turn4 → Step4
expires turn = record (to_init turn) { keep = Clears; news = news.Expire }

-- the news where a client doesn't stand on its kept lease any more
abbrev pub standing_news : (stands : Option Terms4) → News4
standing_news None = news.Nothing
standing_news (Some terms) = news.Expire

-- none is kept, and Waiting follows
abbrev pub to_waiting : Turn4 → Step4
to_waiting turn = record (rests turn (Waiting (turn.at + REFUSED_WAIT))) { keep = Clears }

-- a server refuses the address
abbrev pub refused : Turn4 → Step4
refused turn = record (to_waiting turn) { news = news.Nak }

-- another host has the granted address: DECLINE
abbrev pub declines : Turn4 → (xid : ℕ) → Terms4 → News4 → Step4
declines turn xid terms news = record (to_waiting turn) { say = Some (decline turn.site terms xid); news = news }

-- another host contests the held address, which is given up: DECLINE
abbrev pub gives_up : Turn4 → (xid : ℕ) → Terms4 → Step4
gives_up turn xid terms = declines turn xid terms news.Expire
