-- The rows of messages and of ARP packets (RFC 2131, section 4.4; RFC 5227).
use Rattle.std.specs.Prelude.{ℕ, List, Option, Some, None, if◌then◌else◌}
use Rattle.net_types.specs.declared.address.Mac.{Mac}
use Rattle.frame_link.specs.declared.arp.ArpView.{ArpView}
use Rattle.arp_acd.specs.declared.detection.Acd.{Acd}
use Rattle.arp_acd.specs.Table as detection
use Rattle.lease_text.specs.declared.lease.Terms4.{Terms4}
use Rattle.v4_client.specs.declared.moments.Backoff.TheVariants.{Four}
use Rattle.v4_client.specs.declared.states.Answer4.{Answer4}
use Rattle.v4_client.specs.declared.states.Answer4.TheVariants as answer
use Rattle.v4_client.specs.declared.states.News4.{News4}
use Rattle.v4_client.specs.declared.states.News4.TheVariants as news
use Rattle.v4_client.specs.declared.states.Origin4.{Origin4}
use Rattle.v4_client.specs.declared.states.Origin4.TheVariants.{Offered, Rebooted}
use Rattle.v4_client.specs.declared.states.State4.{State4}
use Rattle.v4_client.specs.declared.states.State4.TheVariants.{Off, Init, Selecting, Requesting, Rebooting, Checking, Waiting, Bound, Renewing, Rebinding}
use Rattle.v4_client.specs.declared.states.Step4.{Step4}
use Rattle.v4_client.specs.declared.states.Turn4.{Turn4}
use Rattle.v4_client.specs.Detection.{checked, defended, with_acd}
use Rattle.v4_client.specs.Steps.{rests, requesting, bound_news, binds, refused}

-- Selecting, an acceptable OFFER: REQUEST with the secs of the last DISCOVER.
abbrev pub offered : Turn4 → (xid secs : ℕ) → State4 → Answer4 → Step4
offered turn xid secs state (answer.Offer address server) =
    requesting turn (record { xid = xid; address = address; server = Some server; first = turn.at }) secs Four
offered turn xid secs state answer.Nothing = rests turn state
offered turn xid secs state (answer.Ack terms) = rests turn state
offered turn xid secs state answer.Nak = rests turn state

-- The address is bound at once, or checked first, while the client stands on its kept lease or not.
abbrev pub granted : Turn4 → (xid : ℕ) → Terms4 → Origin4 → (stands : Option Terms4) → Step4
granted turn xid terms origin stands =
    if turn.site.flags.noarp
    then binds turn xid terms (bound_news origin) None
    else rests turn
    (Checking xid terms origin (detection.acd_begun turn.site.iface.index terms.net.ip turn.at turn.salt) stands)

-- Requesting and Rebooting: an acceptable ACK, or NAK.
abbrev pub answered : Turn4 → (xid : ℕ) → Origin4 → (stands : Option Terms4) → State4 → Answer4 → Step4
answered turn xid origin stands state (answer.Ack terms) = granted turn xid terms origin stands
answered turn xid origin stands state answer.Nak = refused turn
answered turn xid origin stands state answer.Nothing = rests turn state
answered turn xid origin stands state (answer.Offer address server) = rests turn state

-- Renewing and Rebinding: an acceptable ACK replaces the lease; an acceptable NAK ends it.
abbrev pub renewed : Turn4 → (xid : ℕ) → News4 → Option Acd → State4 → Answer4 → Step4
renewed turn xid news acd state (answer.Ack terms) = binds turn xid terms news acd
renewed turn xid news acd state answer.Nak = refused turn
renewed turn xid news acd state answer.Nothing = rests turn state
renewed turn xid news acd state (answer.Offer address server) = rests turn state

-- What a message says is judged before: an answer other than `Nothing` is acceptable in the state. Any other message
-- changes nothing.
abbrev pub heard_row : Turn4 → Answer4 → State4 → Step4
heard_row turn answer Off = rests turn Off
heard_row turn answer (Init due) = rests turn (Init due)
heard_row turn answer (Selecting xid began secs backoff due) =
    offered turn xid secs (Selecting xid began secs backoff due) answer
heard_row turn answer (Requesting exchange secs backoff due) =
    answered turn exchange.xid Offered None (Requesting exchange secs backoff due) answer
heard_row turn answer (Rebooting exchange backoff end due stands) =
    answered turn exchange.xid Rebooted stands (Rebooting exchange backoff end due stands) answer
heard_row turn answer (Checking xid terms origin acd stands) = rests turn (Checking xid terms origin acd stands)
heard_row turn answer (Waiting due) = rests turn (Waiting due)
heard_row turn answer (Bound xid terms acd) = rests turn (Bound xid terms acd)
heard_row turn answer (Renewing exchange terms acd due) =
    renewed turn exchange.xid news.Renew acd (Renewing exchange terms acd due) answer
heard_row turn answer (Rebinding exchange terms acd due) =
    renewed turn exchange.xid news.Rebind acd (Rebinding exchange terms acd due) answer

-- ---- ARP packets

abbrev pub contested : List Mac → Turn4 → ArpView → (xid : ℕ) → Terms4 → State4 → Option Acd → Step4
contested own turn arp xid terms state None = rests turn state
contested own turn arp xid terms state (Some acd) =
    defended turn xid terms (with_acd state (detection.acd_hears own acd arp turn.at).acd)
    (detection.acd_hears own acd arp turn.at).says

-- The conflict detection of an address that is checked or held hears each packet.
abbrev pub arp_row : List Mac → Turn4 → ArpView → State4 → Step4
arp_row own turn arp Off = rests turn Off
arp_row own turn arp (Init due) = rests turn (Init due)
arp_row own turn arp (Selecting xid began secs backoff due) = rests turn (Selecting xid began secs backoff due)
arp_row own turn arp (Requesting exchange secs backoff due) = rests turn (Requesting exchange secs backoff due)
arp_row own turn arp (Rebooting exchange backoff end due stands) =
    rests turn (Rebooting exchange backoff end due stands)
arp_row own turn arp (Checking xid terms origin acd stands) =
    checked turn xid terms origin (detection.acd_hears own acd arp turn.at).acd stands
    (detection.acd_hears own acd arp turn.at).says
arp_row own turn arp (Waiting due) = rests turn (Waiting due)
arp_row own turn arp (Bound xid terms acd) = contested own turn arp xid terms (Bound xid terms acd) acd
arp_row own turn arp (Renewing exchange terms acd due) =
    contested own turn arp exchange.xid terms (Renewing exchange terms acd due) acd
arp_row own turn arp (Rebinding exchange terms acd due) =
    contested own turn arp exchange.xid terms (Rebinding exchange terms acd due) acd
