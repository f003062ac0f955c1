-- What a server's message says (RFC 2131, section 2), apart from its bytes.
use Rattle.std.specs.Prelude.{ℕ, List, Option, Some, None}
use Rattle.std.specs.Option.{option_map}
use Rattle.net_types.specs.declared.address.Ip4.{Ip4}
use Rattle.net_types.specs.declared.address.Mac.{Mac}
use Rattle.v4_options.specs.OptionArea.{Instance}
pub use Rattle.v4_options.specs.Numbers.{address_at}
use Rattle.v4_options.specs.OptionViews.{view_instances}
use Rattle.net_types.specs.Fields.{u32_field, ip4_field, mac_field}
use Rattle.v4_message.specs.declared.kind.MessageKind.{MessageKind}
use Rattle.v4_message.specs.declared.reading.Bad4.{Bad4}
use Rattle.v4_message.specs.declared.reading.Msg4.{Msg4}
use Rattle.v4_message.specs.Message.{message_instances, kind_among}
use Rattle.v4_message.specs.Replies.{refusal_of}

pub record Message4 : Type 0 where
  pub kind : MessageKind
  pub xid : ℕ
  pub yiaddr : Ip4
  pub chaddr : Mac
  pub instances : List Instance

-- what a view shows
abbrev pub message_of : Msg4 → Message4
message_of message = record {
  kind = message.kind;
  xid = message.xid;
  yiaddr = message.yiaddr;
  chaddr = message.chaddr;
  instances = view_instances message.options;
}

abbrev pub message_with : List ℕ → MessageKind → Message4
message_with bytes kind = record {
  kind = kind;
  xid = u32_field 4 bytes;
  yiaddr = ip4_field 16 bytes;
  chaddr = mac_field 28 bytes;
  instances = message_instances bytes;
}

abbrev pub message_unless : List ℕ → Option Bad4 → Option Message4
message_unless bytes (Some bad) = None
message_unless bytes None = option_map (message_with bytes) (kind_among (message_instances bytes))

-- the message that bytes are: none where they have a fault
unfoldable pub message_in : List ℕ → Option Message4
message_in bytes = message_unless bytes (refusal_of bytes)
