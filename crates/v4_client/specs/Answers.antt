-- Which messages are acceptable in which state (RFC 2131, sections 4.3 and 4.4).
use Rattle.std.specs.Prelude.{ℕ, ◌+◌, ◌*◌, Bool, true, not, ◌&&◌, ◌||◌, Option, Some, None, ◌==◌, nat_lt, bytes_eq, if◌then◌else◌}
use Rattle.std.specs.Option.{is_some}
use Rattle.std.specs.List.{list_any}
use Rattle.net_types.specs.declared.address.Ip4.{Ip4}
use Rattle.net_types.specs.Networks.{is_within}
use Rattle.v4_options.specs.declared.code.TheConstants.{LEASE_TIME, SERVER_IDENTIFIER}
use Rattle.v4_message.specs.declared.kind.MessageKind.{MessageKind}
use Rattle.v4_message.specs.declared.kind.MessageKind.TheVariants as kind
use Rattle.lease_text.specs.declared.lease.TheConstants.{INFINITE_LEASE}
use Rattle.lease_text.specs.Leases.{is_host_address}
use Rattle.v4_client.specs.declared.moments.TheConstants.{SECOND}
use Rattle.v4_client.specs.declared.states.Answer4.{Answer4}
use Rattle.v4_client.specs.declared.states.Answer4.TheVariants.{Nothing, Offer, Ack, Nak}
use Rattle.v4_client.specs.declared.states.Exchange4.{Exchange4}
use Rattle.v4_client.specs.declared.states.State4.{State4}
use Rattle.v4_client.specs.declared.states.State4.TheVariants.{Off, Init, Selecting, Requesting, Rebooting, Checking, Waiting, Bound, Renewing, Rebinding}
use Rattle.v4_client.specs.Granting.{terms_granted}
use Rattle.v4_message.specs.Messages.{address_at}
use Rattle.v4_client.specs.Messages.{Arrival, number_at, are_there}
use Rattle.v4_client.specs.Settings.{SettingsContent}

-- ---- OFFER, ACK and NAK alike

-- an answer in an exchange of this client: it has the xid and the hardware address
abbrev pub is_answer : SettingsContent → (xid : ℕ) → Arrival → Bool
is_answer settings xid arrival =
    (arrival.message.xid == xid) && bytes_eq arrival.message.chaddr.bytes settings.site.iface.mac.bytes

abbrev pub is_blacklisted : SettingsContent → Ip4 → Bool
is_blacklisted settings server = list_any (is_within server) settings.blacklist

abbrev pub unless_blacklisted : SettingsContent → Option Ip4 → Option Ip4
unless_blacklisted settings None = None
unless_blacklisted settings (Some server) = if is_blacklisted settings server then None else Some server

-- the server that answers: none where the message isn't an answer, or names no server, or one that isn't listened to
abbrev pub answering : SettingsContent → (xid : ℕ) → Arrival → Option Ip4
answering settings xid arrival =
    if is_answer settings xid arrival
    then unless_blacklisted settings (address_at SERVER_IDENTIFIER arrival.message.instances)
    else None

-- ---- OFFER

-- it has a lease time, an address for a host, and all that must be there
abbrev pub is_good_offer : SettingsContent → Arrival → Bool
is_good_offer settings arrival =
    is_some (number_at LEASE_TIME arrival.message.instances) && is_host_address arrival.message.yiaddr
    && are_there arrival.message.instances settings.required

abbrev pub offer_of : SettingsContent → Arrival → (server : Ip4) → MessageKind → Answer4
offer_of settings arrival server kind.Offer =
    if is_good_offer settings arrival then Offer arrival.message.yiaddr server else Nothing
offer_of settings arrival server kind.Discover = Nothing
offer_of settings arrival server kind.Request = Nothing
offer_of settings arrival server kind.Decline = Nothing
offer_of settings arrival server kind.Ack = Nothing
offer_of settings arrival server kind.Nak = Nothing
offer_of settings arrival server kind.Release = Nothing
offer_of settings arrival server kind.Inform = Nothing

abbrev pub offer_by : SettingsContent → Arrival → (server : Option Ip4) → Answer4
offer_by settings arrival None = Nothing
offer_by settings arrival (Some server) = offer_of settings arrival server arrival.message.kind

-- ---- ACK and NAK

-- where a server was chosen, it is that one
abbrev pub is_chosen : (chosen : Option Ip4) → (server : Ip4) → Bool
is_chosen None server = true
is_chosen (Some chosen) server = server.number == chosen.number

-- a lease of so many seconds, counted from the first REQUEST, isn't over
abbrev pub is_unexpired : (first lease at : ℕ) → Bool
is_unexpired first lease at = (lease == INFINITE_LEASE) || nat_lt at (first + SECOND * lease)

-- the address asked for, by the chosen server, for a time that isn't over and isn't 0, and with all that must be there
abbrev pub is_good_ack : SettingsContent → Exchange4 → Arrival → (lease : ℕ) → Bool
is_good_ack settings exchange arrival lease =
    (arrival.message.yiaddr.number == exchange.address.number) && not (lease == 0)
    && is_unexpired exchange.first lease arrival.at
    && are_there arrival.message.instances settings.required

abbrev pub ack_by : SettingsContent → Exchange4 → Arrival → (server : Ip4) → (lease : Option ℕ) → Answer4
ack_by settings exchange arrival server None = Nothing
ack_by settings exchange arrival server (Some lease) =
    if is_good_ack settings exchange arrival lease
    then Ack (terms_granted settings arrival exchange server lease)
    else Nothing

abbrev pub reply_of : SettingsContent → Exchange4 → Arrival → (server : Ip4) → MessageKind → Answer4
reply_of settings exchange arrival server kind.Ack =
    ack_by settings exchange arrival server (number_at LEASE_TIME arrival.message.instances)
reply_of settings exchange arrival server kind.Nak = Nak
reply_of settings exchange arrival server kind.Discover = Nothing
reply_of settings exchange arrival server kind.Offer = Nothing
reply_of settings exchange arrival server kind.Request = Nothing
reply_of settings exchange arrival server kind.Decline = Nothing
reply_of settings exchange arrival server kind.Release = Nothing
reply_of settings exchange arrival server kind.Inform = Nothing

abbrev pub reply_by : SettingsContent → Exchange4 → Arrival → (server : Option Ip4) → Answer4
reply_by settings exchange arrival None = Nothing
reply_by settings exchange arrival (Some server) =
    if is_chosen exchange.server server then reply_of settings exchange arrival server arrival.message.kind else Nothing

-- ---- by the state

abbrev pub reply_in : SettingsContent → Arrival → Exchange4 → Answer4
reply_in settings arrival exchange =
    reply_by settings exchange arrival (answering settings exchange.xid arrival)

-- What a message says to a client that stands so.
abbrev pub answer_of : SettingsContent → Arrival → State4 → Answer4
answer_of settings arrival Off = Nothing
answer_of settings arrival (Init due) = Nothing
answer_of settings arrival (Selecting xid began secs backoff due) =
    offer_by settings arrival (answering settings xid arrival)
answer_of settings arrival (Requesting exchange secs backoff due) = reply_in settings arrival exchange
answer_of settings arrival (Rebooting exchange backoff end due stands) = reply_in settings arrival exchange
answer_of settings arrival (Checking xid terms origin acd stands) = Nothing
answer_of settings arrival (Waiting due) = Nothing
answer_of settings arrival (Bound xid terms acd) = Nothing
answer_of settings arrival (Renewing exchange terms acd due) = reply_in settings arrival exchange
answer_of settings arrival (Rebinding exchange terms acd due) = reply_in settings arrival exchange
