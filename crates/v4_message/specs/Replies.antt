-- What reading a message gives.
use Rattle.std.specs.Prelude.{ℕ, ◌≡◌, ◌+◌, ◌-◌, List, length, Option, Some, None, nat_lt, not, if◌then◌else◌}
use Rattle.v4_options.specs.OptionViews.{area_bytes, view_instances}
use Rattle.v4_options.specs.Overload.{overload_in}
use Rattle.net_types.specs.Fields.{u32_field, ip4_field, mac_field}
use Rattle.v4_message.specs.declared.kind.MessageKind.{MessageKind}
use Rattle.v4_message.specs.declared.reading.Bad4.{Bad4}
use Rattle.v4_message.specs.declared.reading.Bad4.TheVariants.{Short, NotReply, NoCookie, Malformed, NoType}
use Rattle.v4_message.specs.declared.reading.Msg4.{Msg4}
use Rattle.v4_message.specs.Message.{is_reply, has_cookie, options_area, file_area, sname_area, message_instances, malformed_place, kind_among}

-- the fault of the options: the first malformed one, or no type among them
abbrev pub option_fault : Option ℕ → Option MessageKind → Option Bad4
option_fault (Some place) kind = Some (Malformed place)
option_fault None None = Some NoType
option_fault None (Some kind) = None

-- the first fault of a message, in this order
abbrev pub refusal_of : List ℕ → Option Bad4
refusal_of message =
    if nat_lt (length message) 240 then Some Short
    else if not (is_reply message) then Some NotReply
    else if not (has_cookie message) then Some NoCookie
    else option_fault (malformed_place message) (kind_among (message_instances message))

-- the place in a message of a place in its areas laid end to end, of which the first has so many bytes
abbrev pub place_in_message : ℕ → ℕ → ℕ
place_in_message options place =
    if nat_lt place options then 240 + place
    else if nat_lt (place - options) 128 then 108 + (place - options)
    else 44 + (place - options - 128)

-- the fields of a message that was read
pub record IsReadAs (message : List ℕ) (read : Msg4) : Type 0 where
  pub kind : kind_among (message_instances message) ≡ Some read.kind
  pub xid : read.xid ≡ u32_field 4 message
  pub yiaddr : read.yiaddr ≡ ip4_field 16 message
  pub chaddr : read.chaddr ≡ mac_field 28 message
  pub areas : area_bytes read.options.areas ≡ (options_area message, file_area message, sname_area message)
  pub overload : read.options.overload ≡ overload_in (options_area message)
  pub instances : view_instances read.options ≡ message_instances message
