-- Whether a message is one that this client may say (RFC 2131, sections 4.3.2, 4.3.6 and 4.4.1, table 5).
use Rattle.std.specs.Prelude.{Bool, false, not, Option, Some, None, is_none, is_some, ◌==◌, ◌&&◌, if◌then◌else◌}
use Rattle.net_types.specs.declared.address.Ip4.{Ip4}
use Rattle.frame_link.specs.Frames.{broadcast}
use Rattle.v4_message.specs.declared.writing.Kind4.{Kind4}
use Rattle.v4_message.specs.declared.writing.Kind4.TheVariants.{Discover, Request, Decline, Release}
use Rattle.v4_message.specs.declared.writing.Said4.{Said4}
use Rattle.v4_frames.specs.declared.sent.Sent4.{Sent4}
use Rattle.v4_frames.specs.declared.speaker.Speaker.{Speaker}
use Rattle.v4_frames.specs.declared.speaker.TheConstants.{BROADCAST_FLAG}
use Rattle.v4_frames.specs.Heard.{same_mac}

-- from no address to everyone, before an address is held
abbrev pub has_no_address : Sent4 → Bool
has_no_address sent =
    (sent.said.ciaddr.number == 0) && (sent.ends.from.number == 0) && (sent.ends.to.number == 0xffffffff)
    && same_mac sent.ends.to_mac broadcast

-- from the address that is held
abbrev pub has_address : Sent4 → Bool
has_address sent = not (sent.said.ciaddr.number == 0) && (sent.ends.from.number == sent.said.ciaddr.number)

-- servers are asked to answer by broadcast where that is set
abbrev pub asks_for_answers : Speaker → Said4 → Bool
asks_for_answers speaker said = said.flags == (if speaker.broadcast then BROADCAST_FLAG else 0)

abbrev pub is_plain : Said4 → Bool
is_plain said = (said.flags == 0) && (said.secs == 0)

abbrev pub goes_to : Option Ip4 → Sent4 → Bool
goes_to None sent = false
goes_to (Some server) sent = sent.ends.to.number == server.number

-- a REQUEST by the address that is asked for and the server (section 4.3.2)
abbrev pub is_our_request : Speaker → Sent4 → (asked server : Option Ip4) → Bool
-- selecting: an offer is taken
is_our_request speaker sent (Some asked) (Some server) = has_no_address sent && asks_for_answers speaker sent.said
-- init-reboot: an earlier address is asked for again
is_our_request speaker sent (Some asked) None =
    has_no_address sent && asks_for_answers speaker sent.said && (sent.said.secs == 0)
-- renewing, to the server, or rebinding, to everyone
is_our_request speaker sent None None = has_address sent && is_plain sent.said
is_our_request speaker sent None (Some server) = false

abbrev pub is_our_kind : Speaker → Sent4 → Kind4 → Bool
is_our_kind speaker sent Discover =
    has_no_address sent && asks_for_answers speaker sent.said && is_none sent.said.asked && is_none sent.said.server
is_our_kind speaker sent Request = is_our_request speaker sent sent.said.asked sent.said.server
is_our_kind speaker sent Decline =
    has_no_address sent && is_plain sent.said && is_some sent.said.asked && is_some sent.said.server
is_our_kind speaker sent Release =
    has_address sent && is_plain sent.said && is_none sent.said.asked && goes_to sent.said.server sent

abbrev pub is_ours : Speaker → Sent4 → Bool
is_ours speaker sent =
    same_mac sent.said.mac speaker.mac && same_mac sent.ends.from_mac speaker.mac
    && is_our_kind speaker sent sent.said.kind
