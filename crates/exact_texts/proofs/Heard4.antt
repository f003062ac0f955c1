-- What a DHCPv4 message brings that comes in a frame of bytes: values that are bytes, from a hardware address.
use Rattle.std.proofs.Common.{◌≡◌, ℕ, ◌^◌, ◌<◌, ◌≤◌, false, List, length, take, drop, Option, Some, None, IfSome, arith, nat_lt}
use Rattle.std.proofs.lemmas.Bool.Decides.{nat_tests}
use Rattle.std.proofs.lemmas.List.{length-take-le, length-drop}
use Rattle.std.specs.Option.{option_map, option_and_then}
use Rattle.std.specs.Prelude.{◌==◌}
use Rattle.net_types.proofs.CaseLaws.{gated, split}
use Rattle.net_types.proofs.Checksum.{drop_bytes, take_bytes}
use Rattle.net_types.proofs.WireNumbers.{four_bytes_fit}
use Rattle.net_types.specs.AddressText.{FitsIp4, FitsMac}
use Rattle.net_types.specs.Marks.{AreBytes}
use Rattle.net_types.specs.declared.address.Ip4.{Ip4}
use Rattle.net_types.specs.declared.address.Mac.{Mac}
use Rattle.frame_link.specs.Frames.{Frame, frame_in}
use Rattle.udp_frame.specs.Udp4Frames.{Udp4, udp4_in}
use Rattle.v4_options.specs.Numbers.{address, address_at, addr_in, number_at, u32_in}
use Rattle.v4_options.specs.OptionArea.{Instance}
use Rattle.v4_options.specs.OptionValue.{value_of}
use Rattle.v4_message.specs.Messages.{Message4, message_in}
use Rattle.v4_frames.specs.Heard.{HeardMessage, heard4_in, is_for, message_for, message_to, with_source}
use Rattle.safe_texts.proofs.FrameOctets as octets
use Rattle.safe_texts.proofs.FrameOctets.{Values, value_bytes, heard4_good}

-- ---- addresses and numbers among options

address_fits : (value : Option (List ℕ)) → IfSome value AreBytes → IfSome (option_and_then addr_in value) FitsIp4
address_fits None h = tt
address_fits (Some value) h =
    gated (λ (o : Option Ip4). IfSome o FitsIp4) (length value == 4) (Some (address value)) None (four_bytes_fit value h) tt

pub option_fits : (code : ℕ) (instances : List Instance) → Values instances → IfSome (address_at code instances) FitsIp4
option_fits code instances h = address_fits (value_of code instances) (value_bytes code instances h)

abbrev pub IsShort : ℕ → Type 0
IsShort number = number < 2 ^ 32

number_fits : (value : Option (List ℕ)) → IfSome value AreBytes → IfSome (option_and_then u32_in value) IsShort
number_fits None h = tt
number_fits (Some value) h = gated (λ (o : Option ℕ). IfSome o IsShort) (length value == 4) (Some _) None (four_bytes_fit value h) tt

pub number_short : (code : ℕ) (instances : List Instance) → Values instances → IfSome (number_at code instances) IsShort
number_short code instances h = number_fits (value_of code instances) (value_bytes code instances h)

-- ---- the hardware address that it came from

abbrev HasSource : HeardMessage → Type 0
HasSource heard = FitsMac heard.source

by_message : (source : Mac) (message : Option Message4) → FitsMac source → IfSome (option_map (with_source source) message) HasSource
by_message source None fits = tt
by_message source (Some message) fits = fits

by_datagram : (source : Mac) (datagram : Option Udp4) → FitsMac source → IfSome (option_and_then (message_to source) datagram) HasSource
by_datagram source None fits = tt
by_datagram source (Some datagram) fits =
    gated (λ (o : Option HeardMessage). IfSome o HasSource) _ (option_map (with_source source) (message_in datagram.payload)) None
    (by_message source (message_in datagram.payload) fits) tt

by_frame : (mac : Mac) (frame : Option Frame) → IfSome frame (λ (f : Frame). FitsMac f.from) → IfSome (option_and_then (message_for mac) frame) HasSource
by_frame mac None fits = tt
by_frame mac (Some frame) fits =
    gated (λ (o : Option HeardMessage). IfSome o HasSource) (is_for mac frame) (option_and_then (message_to frame.from) (udp4_in frame.body)) None
    (by_datagram frame.from (udp4_in frame.body) fits) tt

long_enough : (bytes : List ℕ) → nat_lt (length bytes) 14 ≡ false → length (take 6 (drop 6 bytes)) ≡ 6
long_enough bytes e =
    let long : 14 ≤ length bytes = grind (arith, nat_tests) in
    length-take-le 6 (drop 6 bytes) (omega (arith, long, length-drop 6 bytes))

-- a frame has room for the address
frame_source : (bytes : List ℕ) → AreBytes bytes → IfSome (frame_in bytes) (λ (f : Frame). FitsMac f.from)
unfolding frame_in
frame_source bytes h =
    split (nat_lt (length bytes) 14) (λ short. rw short tt)
    (λ long. rw long (record { six = long_enough bytes long; range = take_bytes 6 (drop 6 bytes) (drop_bytes 6 bytes h) }))

heard_source : (mac : Mac) (bytes : List ℕ) → AreBytes bytes → IfSome (heard4_in mac bytes) HasSource
unfolding heard4_in
heard_source mac bytes h = by_frame mac (frame_in bytes) (frame_source bytes h)

-- ---- both

pub record Good4 (heard : HeardMessage) : Type 0 where
  pub values : octets.Good4 heard
  pub source : FitsMac heard.source

both_good : (found : Option HeardMessage) → IfSome found octets.Good4 → IfSome found HasSource → IfSome found Good4
both_good None values source = tt
both_good (Some heard) values source = record { values = values; source = source }

pub heard_good : (mac : Mac) (bytes : List ℕ) → AreBytes bytes → IfSome (heard4_in mac bytes) Good4
heard_good mac bytes h = both_good (heard4_in mac bytes) (heard4_good mac bytes h) (heard_source mac bytes h)
