-- What the views of a client's frame show.
use Rattle.std.specs.Prelude.{ℕ, Bool, ◌&&◌, ◌==◌, List, length, map, bytes_eq, nat_le}
use Rattle.std.specs.Option.{option_map}
use Rattle.net_types.specs.Fields.{u16_field}
use Rattle.udp_frame.specs.declared.dhcp6.TheConstants.{CLIENT_PORT, SERVER_PORT}
use Rattle.udp_frame.specs.declared.udp6.TheConstants.{KIND_IPV6}
use Rattle.udp_frame.specs.Udp6Frames.{udp6_frame_text}
use Rattle.v6_options.specs.Ias.{ias_in}
use Rattle.v6_message.specs.ReadBack.{asked_in}
use Rattle.v6_message.specs.Requests.{SaidContent, message6_text}
use Rattle.v6_frames.specs.Spelled.{Sent6, client_ends}
use Rattle.own_frames6.specs.declared.reading.SaidView.{SaidView}
use Rattle.own_frames6.specs.declared.sent.SentView.{SentView}

abbrev pub said_shown : SaidView → SaidContent
said_shown said = record {
  kind = said.kind;
  xid = said.xid;
  client = said.client.now;
  server = option_map (λ v. v.now) said.server;
  elapsed = said.elapsed;
  rapid = said.rapid;
  ias = map asked_in (ias_in said.options.now);
}

abbrev pub sent_shown : SentView → Sent6
sent_shown sent = record { mac = sent.mac; said = said_shown sent.said }

-- it has room for headers of 62 bytes and the four bytes of a message without options, and is of IPv6
abbrev pub has_room : (frame : List ℕ) → Bool
has_room frame = nat_le 66 (length frame) && (u16_field 12 frame == KIND_IPV6)

-- whether a message, and the frame round it, are those of what is said
abbrev pub is_sent : (frame message : List ℕ) → Sent6 → Bool
is_sent frame message sent =
    bytes_eq message (message6_text sent.said)
    && bytes_eq frame (udp6_frame_text (client_ends sent.mac) CLIENT_PORT SERVER_PORT message)
