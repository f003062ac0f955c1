-- The rows of the other inputs: the carrier, a send that failed, and the host's own wishes.
use Rattle.std.specs.Prelude.{◌+◌, ◌*◌, Bool, true, false, ◌&&◌, ◌||◌, ◌==◌, Option, Some, None, if◌then◌else◌}
use Rattle.std.specs.Option.{is_some}
use Rattle.machine.specs.Moment.{is_due}
use Rattle.arp_acd.specs.Table as detection
use Rattle.lease_text.specs.declared.lease.Terms4.{Terms4}
use Rattle.v4_client.specs.declared.moments.Backoff.TheVariants.{Four}
use Rattle.v4_client.specs.declared.moments.TheConstants.{SECOND}
use Rattle.v4_client.specs.declared.states.Keep4.TheVariants.{Clears}
use Rattle.v4_client.specs.declared.states.News4.TheVariants as news
use Rattle.v4_client.specs.declared.states.State4.{State4}
use Rattle.v4_client.specs.declared.states.State4.TheVariants.{Off, Init, Selecting, Requesting, Rebooting, Checking, Waiting, Bound, Renewing, Rebinding}
use Rattle.v4_client.specs.declared.states.Step4.{Step4}
use Rattle.v4_client.specs.declared.states.Tell.{Tell}
use Rattle.v4_client.specs.declared.states.Tell.TheVariants.{Server, Nobody}
use Rattle.v4_client.specs.declared.states.Turn4.{Turn4}
use Rattle.v4_client.specs.Moments.{expiry}
use Rattle.v4_client.specs.Saying.{release}
use Rattle.v4_client.specs.Steps.{rests, goes_to, stops, to_init, rebooting, new_exchange, new_xid, rebinding}

-- A client stands on its kept lease where it is to and still may, and an ACK of this interface is known to have
-- confirmed it.
abbrev pub stood : Turn4 → (may_stand : Bool) → Terms4 → Option Terms4
stood turn may_stand terms =
    if turn.site.flags.persistent && may_stand && is_some terms.origin then Some terms else None

-- The begin, with the terms of the kept lease: where there is one that isn't expired, and time to ask for it, REQUEST
-- for its address (RFC 2131, section 4.4.2). Else Init.
abbrev pub entered : Turn4 → (may_stand : Bool) → Option Terms4 → Step4
entered turn may_stand None = to_init turn
entered turn may_stand (Some terms) =
    if is_due (expiry terms) turn.at || (turn.site.times.reboot == 0)
    then to_init turn
    else rebooting turn (new_exchange turn terms.net.ip) Four (turn.at + SECOND * turn.site.times.reboot)
    (stood turn may_stand terms)

-- At the first one alone the client may stand on its kept lease.
abbrev pub begins : Turn4 → (may_stand : Bool) → Option Terms4 → Step4
begins turn may_stand kept = record (entered turn may_stand kept) { spends = true }

-- The carrier comes: a client that is off begins.
abbrev pub begin_row : Turn4 → (may_stand : Bool) → Option Terms4 → State4 → Step4
begin_row turn may_stand kept Off = begins turn may_stand kept
begin_row turn may_stand kept (Init due) = rests turn (Init due)
begin_row turn may_stand kept (Selecting xid began secs backoff due) = rests turn (Selecting xid began secs backoff due)
begin_row turn may_stand kept (Requesting exchange secs backoff due) = rests turn (Requesting exchange secs backoff due)
begin_row turn may_stand kept (Rebooting exchange backoff end due stands) =
    rests turn (Rebooting exchange backoff end due stands)
begin_row turn may_stand kept (Checking xid terms origin acd stands) = rests turn (Checking xid terms origin acd stands)
begin_row turn may_stand kept (Waiting due) = rests turn (Waiting due)
begin_row turn may_stand kept (Bound xid terms acd) = rests turn (Bound xid terms acd)
begin_row turn may_stand kept (Renewing exchange terms acd due) = rests turn (Renewing exchange terms acd due)
begin_row turn may_stand kept (Rebinding exchange terms acd due) = rests turn (Rebinding exchange terms acd due)

-- The carrier goes: the client is off, and the kept lease stays kept.
abbrev pub off_row : Turn4 → Step4
off_row turn = stops turn

-- The lease that is held isn't held any more. The server is told by a RELEASE with a new xid, and then none is kept.
abbrev pub released : Turn4 → Tell → Terms4 → Step4
released turn Server terms =
    record (goes_to Off (Some (new_xid turn))) {
      keep = Clears;
      say = Some (release turn.site terms (new_xid turn));
      news = news.Stop;
      spends = true;
    }
released turn Nobody terms = record (stops turn) { news = news.Stop }

-- The kept lease on which the client stands isn't held any more; where it stands on none nothing is said.
abbrev pub released_standing : Turn4 → Tell → (stands : Option Terms4) → Step4
released_standing turn tell None = stops turn
released_standing turn tell (Some terms) = released turn tell terms

-- The client stops. Where no lease is held nothing is said, and the kept lease stays kept.
abbrev pub release_row : Turn4 → Tell → State4 → Step4
release_row turn tell Off = stops turn
release_row turn tell (Init due) = stops turn
release_row turn tell (Selecting xid began secs backoff due) = stops turn
release_row turn tell (Requesting exchange secs backoff due) = stops turn
release_row turn tell (Rebooting exchange backoff end due stands) = released_standing turn tell stands
release_row turn tell (Checking xid terms origin acd stands) = released_standing turn tell stands
release_row turn tell (Waiting due) = stops turn
release_row turn tell (Bound xid terms acd) = released turn tell terms
release_row turn tell (Renewing exchange terms acd due) = released turn tell terms
release_row turn tell (Rebinding exchange terms acd due) = released turn tell terms

-- A lease in Bound or Renewing is rebound at once, and a client that is off begins; it was released before, so that it
-- stands on no lease.
abbrev pub rebind_row : Turn4 → Option Terms4 → State4 → Step4
rebind_row turn kept Off = begins turn false kept
rebind_row turn kept (Init due) = rests turn (Init due)
rebind_row turn kept (Selecting xid began secs backoff due) = rests turn (Selecting xid began secs backoff due)
rebind_row turn kept (Requesting exchange secs backoff due) = rests turn (Requesting exchange secs backoff due)
rebind_row turn kept (Rebooting exchange backoff end due stands) =
    rests turn (Rebooting exchange backoff end due stands)
rebind_row turn kept (Checking xid terms origin acd stands) = rests turn (Checking xid terms origin acd stands)
rebind_row turn kept (Waiting due) = rests turn (Waiting due)
rebind_row turn kept (Bound xid terms acd) = rebinding turn (new_exchange turn terms.net.ip) terms acd
rebind_row turn kept (Renewing exchange terms acd due) = rebinding turn (new_exchange turn terms.net.ip) terms acd
rebind_row turn kept (Rebinding exchange terms acd due) = rests turn (Rebinding exchange terms acd due)

-- A frame of the interface couldn't be sent: the probing of a checked address begins anew.
abbrev pub unsent_row : Turn4 → State4 → State4
unsent_row turn Off = Off
unsent_row turn (Init due) = Init due
unsent_row turn (Selecting xid began secs backoff due) = Selecting xid began secs backoff due
unsent_row turn (Requesting exchange secs backoff due) = Requesting exchange secs backoff due
unsent_row turn (Rebooting exchange backoff end due stands) = Rebooting exchange backoff end due stands
unsent_row turn (Checking xid terms origin acd stands) =
    Checking xid terms origin (detection.acd_restarts acd turn.at turn.salt) stands
unsent_row turn (Waiting due) = Waiting due
unsent_row turn (Bound xid terms acd) = Bound xid terms acd
unsent_row turn (Renewing exchange terms acd due) = Renewing exchange terms acd due
unsent_row turn (Rebinding exchange terms acd due) = Rebinding exchange terms acd due
