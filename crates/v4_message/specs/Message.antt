-- The fields of a message (RFC 2131, section 2), and the options in it.
use Rattle.std.specs.Prelude.{ℕ, Bool, List, drop, slice_index, Option, ◌==◌, ◌&&◌}
use Rattle.std.specs.Option.{option_and_then}
use Rattle.net_types.specs.Fields.{field}
use Rattle.v4_options.specs.OptionArea.{Instance}
use Rattle.v4_options.specs.OptionValue.{byte_of}
use Rattle.v4_message.specs.declared.kind.MessageKind.{MessageKind}
use Rattle.v4_message.specs.Kinds.{kind_with}
use Rattle.v4_options.specs.Overload.{Begins, overload_in, instances_over, malformed_over}

-- a reply (2) to a client with an Ethernet address (1) of 6 bytes
abbrev pub is_reply : List ℕ → Bool
is_reply message = (slice_index message 0 == 2) && (slice_index message 1 == 1) && (slice_index message 2 == 6)

-- the bytes 63 82 53 63 before the options
abbrev pub has_cookie : List ℕ → Bool
has_cookie message =
    (slice_index message 236 == 0x63) && (slice_index message 237 == 0x82)
    && (slice_index message 238 == 0x53) && (slice_index message 239 == 0x63)

abbrev pub options_area : List ℕ → List ℕ
options_area message = drop 240 message

abbrev pub file_area : List ℕ → List ℕ
file_area message = field 108 128 message

abbrev pub sname_area : List ℕ → List ℕ
sname_area message = field 44 64 message

abbrev pub areas_begin : Begins
areas_begin = record { options = 240; file = 108; sname = 44 }

-- the instances of a message's options
unfoldable pub message_instances : List ℕ → List Instance
message_instances message =
    instances_over (overload_in (options_area message)) (options_area message) (file_area message) (sname_area message)

-- the place in a message of its first malformed option
unfoldable pub malformed_place : List ℕ → Option ℕ
malformed_place message =
    malformed_over areas_begin (overload_in (options_area message)) (options_area message) (file_area message)
    (sname_area message)

-- the type of a message: the value of option 53, where that is one byte, the number of a type
abbrev pub kind_among : List Instance → Option MessageKind
kind_among instances = option_and_then kind_with (byte_of 53 instances)
