-- The frame of a server's message (RFC 2131, section 4.1).
use Rattle.std.specs.Prelude.{ℕ, List}
use Rattle.net_types.specs.declared.address.Ip4.{Ip4}
use Rattle.udp_frame.specs.declared.udp4.Ends4.{Ends4}
use Rattle.udp_frame.specs.Udp4Frames.{udp4_frame_text}
use Rattle.v4_frames.specs.declared.sent.TheConstants.{CLIENT_PORT, SERVER_PORT}
use Rattle.server_data.specs.declared.framing.TheConstants.{SERVER_MAC}
use Rattle.server_data.specs.declared.reply.Reply.{Reply}
use Rattle.server_data.specs.Replies.{reply_text}

abbrev pub everyone : Ip4
everyone = record { number = 0xffffffff }

-- from the server to the client's hardware address
abbrev pub ends_of : Reply → Ends4
ends_of reply = record { from_mac = SERVER_MAC; to_mac = reply.chaddr; from = reply.server; to = everyone }

-- from the server's port to the client's
unfoldable pub server_frame : Reply → List ℕ
server_frame reply = udp4_frame_text (ends_of reply) SERVER_PORT CLIENT_PORT (reply_text reply)
