-- The types of messages, by their numbers (RFC 2132, section 9.6).
use Rattle.std.specs.Prelude.{ℕ, Option, Some, None, ◌==◌, if◌then◌else◌}
use Rattle.v4_message.specs.declared.kind.MessageKind.{MessageKind}
use Rattle.v4_message.specs.declared.kind.MessageKind.TheVariants.{Discover, Offer, Request, Decline, Ack, Nak, Release, Inform}
use Rattle.v4_message.specs.declared.kind.TheConstants.{DISCOVER, OFFER, REQUEST, DECLINE, ACK, NAK, RELEASE, INFORM}

abbrev pub kind_with : ℕ → Option MessageKind
kind_with number =
    if number == DISCOVER then Some Discover
    else if number == OFFER then Some Offer
    else if number == REQUEST then Some Request
    else if number == DECLINE then Some Decline
    else if number == ACK then Some Ack
    else if number == NAK then Some Nak
    else if number == RELEASE then Some Release
    else if number == INFORM then Some Inform
    else None
