-- What a server's message says to a client (RFC 8415, sections 16.3, 16.10 and 18.2.9 to 18.2.10).
use Rattle.std.specs.Prelude.{ℕ, ◌*◌, Bool, true, false, ◌&&◌, List, length, bytes_eq, Option, Some, None, option_map, nat_le, ◌==◌, if◌then◌else◌}
use Rattle.std.specs.Option.{option_and_then}
use Rattle.v6_options.specs.Duids.{duid_in}
use Rattle.v6_options.specs.Ias.{ias_in}
use Rattle.v6_message.specs.Replies.{Content6}
use Rattle.lease6_text.specs.Leases.{Lease6Content}
use Rattle.v6_client.specs.declared.answers.TheConstants.{LEAST_SOL_MAX, MOST_SOL_MAX}
use Rattle.v6_items.specs.declared.asks.IaAsk.{IaAsk}
use Rattle.v6_client.specs.declared.states.Answer6.{Answer6}
use Rattle.v6_client.specs.declared.states.Answer6.TheVariants as answer
use Rattle.v6_client.specs.declared.states.State6.{State6}
use Rattle.v6_client.specs.declared.states.State6.TheVariants.{Off, Waiting, Soliciting, Requesting, Bound, Renewing, Rebinding, Restarting, Declining}
use Rattle.v6_items.specs.declared.times.TheConstants.{SECOND}
use Rattle.v6_items.specs.Asking.{ias_offered}
use Rattle.v6_client.specs.Clients.{ClientContent, PleaContent, met_scope}
use Rattle.v6_client.specs.Hearing.{is_kept_offer}
use Rattle.v6_items.specs.Reading.{serves}
use Rattle.v6_client.specs.Saying.{lease_server, plea_server}
use Rattle.v6_items.specs.Taking.{Meeting, lease_granted}

-- ---- which messages count

-- the transaction id of the exchange whose answer counts; in Bound that of the last one
abbrev pub awaited : (last : Option ℕ) → State6 → Option ℕ
awaited last Off = None
awaited last (Waiting due) = None
awaited last (Soliciting exchange offer) = Some exchange.xid
awaited last (Requesting exchange) = Some exchange.xid
awaited last Bound = last
awaited last (Renewing exchange) = Some exchange.xid
awaited last (Rebinding exchange) = Some exchange.xid
awaited last (Restarting exchange end since stands) = Some exchange.xid
awaited last (Declining exchange) = Some exchange.xid

abbrev pub is_awaited : (awaited : Option ℕ) → (xid : ℕ) → Bool
is_awaited None xid = false
is_awaited (Some awaited) xid = awaited == xid

abbrev pub has_bytes : (told : Option (List ℕ)) → (bytes : List ℕ) → Bool
has_bytes None bytes = false
has_bytes (Some told) bytes = bytes_eq told bytes

-- the server that alone may answer
abbrev pub chosen : State6 → (leased pleaded : Option (List ℕ)) → Option (List ℕ)
chosen Off leased pleaded = None
chosen (Waiting due) leased pleaded = None
chosen (Soliciting exchange offer) leased pleaded = None
chosen (Requesting exchange) leased pleaded = pleaded
chosen Bound leased pleaded = None
chosen (Renewing exchange) leased pleaded = leased
chosen (Rebinding exchange) leased pleaded = None
chosen (Restarting exchange end since stands) leased pleaded = None
chosen (Declining exchange) leased pleaded = pleaded

-- two bytes and at most 128 more (RFC 8415, section 11.1)
abbrev pub is_duid : List ℕ → Bool
is_duid bytes = nat_le 2 (length bytes) && nat_le (length bytes) 130

-- the server is told by a DUID, and is the chosen one where one is
abbrev pub may_answer : (chosen : Option (List ℕ)) → (server : List ℕ) → Bool
may_answer None server = is_duid server
may_answer (Some chosen) server = is_duid server && bytes_eq server chosen

abbrev pub is_from : (chosen server : Option (List ℕ)) → Bool
is_from chosen None = false
is_from chosen (Some server) = may_answer chosen server

-- A message counts where it is of the exchange, names the client's DUID, and is of a server that may answer.
abbrev pub counts : ClientContent → Content6 → Bool
counts c message =
    is_awaited (awaited c.last c.state) message.xid && has_bytes message.client c.settings.duid
    && is_from (chosen c.state (lease_server c.kept) (plea_server c.plea)) message.server

-- ---- the longest time between two SOLICITs

-- a server tells it in seconds (RFC 8415, section 21.24)
abbrev pub sol_max_with : Option ℕ → (before : ℕ) → ℕ
sol_max_with None before = before
sol_max_with (Some seconds) before =
    if nat_le LEAST_SOL_MAX seconds && nat_le seconds MOST_SOL_MAX then SECOND * seconds else before

abbrev pub learnt : (told : Option ℕ) → ClientContent → ClientContent
learnt told c = record c { sol_max = sol_max_with told c.sol_max }

-- ---- Advertise

abbrev pub takes_offers : State6 → Bool
takes_offers Off = false
takes_offers (Waiting due) = false
takes_offers (Soliciting exchange offer) = true
takes_offers (Requesting exchange) = false
takes_offers Bound = false
takes_offers (Renewing exchange) = false
takes_offers (Rebinding exchange) = false
takes_offers (Restarting exchange end since stands) = false
takes_offers (Declining exchange) = false

abbrev pub advertise_answer : ClientContent → Content6 → Answer6
advertise_answer c message =
    if takes_offers c.state && serves c.settings.asks message then answer.Offer message.preference else answer.Nothing

-- the server, where it is told by a DUID
abbrev pub server_of : Content6 → Option (List ℕ)
server_of message = option_and_then duid_in message.server

abbrev pub plea_offered : List IaAsk → Content6 → (server : List ℕ) → PleaContent
plea_offered asks message server = record { server = server; ias = ias_offered (ias_in message.options) asks }

-- the offer that the client keeps is what it asks for
abbrev pub advertised : Answer6 → Content6 → ClientContent → ClientContent
advertised answer message c =
    if is_kept_offer answer c.state
    then record c { plea = option_map (plea_offered c.settings.asks message) (server_of message) }
    else c

-- ---- Reply

-- a Reply answers a SOLICIT where both want it (RFC 8415, section 18.2.1)
abbrev pub takes_replies : (rapid : Bool) → State6 → Bool
takes_replies rapid Off = false
takes_replies rapid (Waiting due) = false
takes_replies rapid (Soliciting exchange offer) = rapid
takes_replies rapid (Requesting exchange) = true
takes_replies rapid Bound = false
takes_replies rapid (Renewing exchange) = true
takes_replies rapid (Rebinding exchange) = true
takes_replies rapid (Restarting exchange end since stands) = true
takes_replies rapid (Declining exchange) = false

abbrev pub is_taken : ClientContent → Content6 → Bool
is_taken c message =
    takes_replies (message.rapid && c.settings.site.rapid) c.state && serves c.settings.asks message

-- the Reply meets the client's own items
abbrev pub meeting_of : (at : ℕ) → ClientContent → Content6 → Meeting
meeting_of at c message = record { at = at; scope = met_scope c.state; kept = c.kept; ias = ias_in message.options }

abbrev pub granted : (at : ℕ) → ClientContent → Content6 → (server : List ℕ) → Option Lease6Content
granted at c message server =
    lease_granted c.settings.site.iface server message (meeting_of at c message) c.settings.asks

-- the lease that the Reply grants, where it is taken
abbrev pub fresh_of : (at : ℕ) → (taken : Bool) → ClientContent → Content6 → Option Lease6Content
fresh_of at taken c message = if taken then option_and_then (granted at c message) (server_of message) else None

abbrev pub grants_or_empties : Option Lease6Content → Answer6
grants_or_empties None = answer.Empties
grants_or_empties (Some lease) = answer.Grants

-- a Reply to a DECLINE leaves what is held
abbrev pub keeps_or_empties : Option Lease6Content → Answer6
keeps_or_empties None = answer.Empties
keeps_or_empties (Some lease) = answer.Keeps

abbrev pub reply_answer : (declining taken : Bool) → (kept fresh : Option Lease6Content) → Answer6
reply_answer declining taken kept fresh =
    if declining then keeps_or_empties kept
    else if taken then grants_or_empties fresh
    else answer.Nothing
