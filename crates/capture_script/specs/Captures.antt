-- What a capture of packets says (draft-ietf-opsawg-pcap, sections 4 and 5): a header of 24 bytes, and records. The
-- first four bytes tell the order of each number's bytes, and what fractions of a second count.
use Rattle.std.specs.Prelude.{ℕ, zero, suc, ◌+◌, ◌*◌, ◌/◌, ◌%◌, Bool, ◌==◌, nat_le, nat_lt, if◌then◌else◌, List, [], ◌∷◌, length, take, drop, Option, Some, None, Result, Ok, Err, option_map}
use Rattle.byteorder.specs.Endian.{big_number, little_number}
use Rattle.capture_script.specs.declared.forms.TheConstants.{ETHERNET, HEADER_LEN, LINK_TYPE_AT, MICROSECONDS, NANOSECONDS}
use Rattle.capture_script.specs.declared.forms.CaptureCause.{CaptureCause}
use Rattle.capture_script.specs.declared.forms.CaptureCause.TheVariants as causes
use Rattle.capture_script.specs.declared.forms.Form.{Form}
use Rattle.capture_script.specs.declared.forms.Fraction.{Fraction}
use Rattle.capture_script.specs.declared.forms.Fraction.TheVariants as fractions
use Rattle.capture_script.specs.declared.forms.Order.{Order}
use Rattle.capture_script.specs.declared.forms.Order.TheVariants as orders
use Rattle.capture_script.specs.declared.packets.TheConstants.{RECORD_LEN}

-- ---- the header

-- the number in the four bytes at a place
abbrev pub number_at : Order → ℕ → List ℕ → ℕ
number_at orders.Big at bytes = big_number 4 (drop at bytes)
number_at orders.Little at bytes = little_number 4 (drop at bytes)

abbrev pub fraction_of : ℕ → Option Fraction
fraction_of magic =
    if magic == MICROSECONDS then Some fractions.Microseconds
    else if magic == NANOSECONDS then Some fractions.Nanoseconds
    else None

-- the magic number stands in this order
abbrev pub form_by : Order → List ℕ → Option Form
form_by order bytes =
    option_map (λ fraction. record { order = order; fraction = fraction }) (fraction_of (number_at order 0 bytes))

abbrev pub first_form : Option Form → Option Form → Option Form
first_form (Some form) other = Some form
first_form None other = other

unfoldable pub form_at : List ℕ → Option Form
form_at bytes = first_form (form_by orders.Big bytes) (form_by orders.Little bytes)

-- the link type is in the low 16 bits of its number
abbrev pub is_ethernet : Form → List ℕ → Bool
is_ethernet form bytes = number_at form.order LINK_TYPE_AT bytes % 65536 == ETHERNET

abbrev pub form_checked : List ℕ → Option Form → Result Form CaptureCause
form_checked bytes None = Err causes.Magic
form_checked bytes (Some form) = if is_ethernet form bytes then Ok form else Err causes.LinkType

-- the form of a capture, or the first cause by which the bytes are none
unfoldable pub capture_form : List ℕ → Result Form CaptureCause
capture_form bytes = if nat_lt (length bytes) HEADER_LEN then Err causes.Short else form_checked bytes (form_at bytes)

-- ---- the records

-- a packet: its moment, in milliseconds since 1970, and the bytes that were captured
pub record Packet : Type 0 where
  pub at : ℕ
  pub bytes : List ℕ

-- how many fractions a millisecond has
abbrev pub fractions_of_one : Fraction → ℕ
fractions_of_one fractions.Microseconds = 1000
fractions_of_one fractions.Nanoseconds = 1000000

-- how many bytes were captured
abbrev pub size_at : Form → List ℕ → ℕ
size_at form bytes = number_at form.order 8 bytes

-- a whole record stands in front: seconds, fraction, the captured and the original length, and the captured bytes
abbrev pub has_packet : Form → List ℕ → Bool
has_packet form bytes = nat_le (RECORD_LEN + size_at form bytes) (length bytes)

abbrev pub moment_at : Form → List ℕ → ℕ
moment_at form bytes =
    number_at form.order 0 bytes * 1000 + number_at form.order 4 bytes / fractions_of_one form.fraction

abbrev pub packet_at : Form → List ℕ → Packet
packet_at form bytes = record { at = moment_at form bytes; bytes = take (size_at form bytes) (drop RECORD_LEN bytes) }

-- what stands after the record
abbrev pub after_packet : Form → List ℕ → List ℕ
after_packet form bytes = drop (size_at form bytes) (drop RECORD_LEN bytes)

-- the packets of records, where there are no more than this
abbrev pub packets_within : ℕ → Form → List ℕ → List Packet
packets_within zero form bytes = []
packets_within (suc more) form bytes =
    if has_packet form bytes then packet_at form bytes ∷ packets_within more form (after_packet form bytes)
    else []

-- The packets of records, up to one that runs past the end. There are fewer than bytes.
unfoldable pub packets_in : Form → List ℕ → List Packet
packets_in form bytes = packets_within (length bytes) form bytes

-- the packets of a capture
abbrev pub captured_in : Form → List ℕ → List Packet
captured_in form bytes = packets_in form (drop HEADER_LEN bytes)
