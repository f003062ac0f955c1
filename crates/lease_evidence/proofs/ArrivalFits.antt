-- What is heard in a frame of bytes: the hardware address and the server's address fit their fields.
use Rattle.std.proofs.Common.{◌≡◌, ℕ, zero, suc, ◌<◌, ◌≤◌, false, List, [], ◌∷◌, length, take, drop, Option, Some, None, IfSome, arith, nat_lt, nat_le, if◌then◌else◌}
use Rattle.std.proofs.lemmas.Bool.Decides.{nat_tests}
use Rattle.std.proofs.lemmas.List.{length-take-le, length-drop}
use Rattle.std.specs.List.{AllByRecursion, flat_map}
use Rattle.std.specs.Option.{option_map, option_and_then}
use Rattle.std.specs.Prelude.{◌==◌, ◌&&◌}
use Rattle.net_types.proofs.AllLaws.{all_join}
use Rattle.net_types.proofs.CaseLaws.{split, gated}
use Rattle.net_types.proofs.Checksum.{rest_bytes}
use Rattle.net_types.proofs.WireNumbers.{four_bytes_fit}
use Rattle.net_types.specs.Marks.{AreBytes}
use Rattle.net_types.specs.declared.address.Ip4.{Ip4}
use Rattle.net_types.specs.declared.address.Mac.{Mac}
use Rattle.frame_link.specs.Frames.{Frame, frame_in, said}
use Rattle.frame_link.specs.Fields.{word_in, mac_in}
use Rattle.udp_frame.specs.Datagrams.{datagram_in, is_checked4}
use Rattle.udp_frame.specs.Packets.{Packet, packet_in, is_packet, head_len}
use Rattle.udp_frame.specs.Udp4Frames.{Udp4, checked4_in, udp4_in}
use Rattle.v4_options.specs.Numbers.{addr_in}
use Rattle.v4_options.specs.declared.area.Front.{Front}
use Rattle.v4_options.specs.declared.area.Front.TheVariants.{Pad, End, Cut, Whole}
use Rattle.v4_options.specs.OptionArea.{Instance, front_of, more_bytes, instance_of, instances_after, instances_in}
use Rattle.v4_options.specs.OptionValue.{pieces, joined, value_of}
use Rattle.v4_options.specs.declared.overload.Overload.{Overload}
use Rattle.v4_options.specs.Overload.{instances_over, overload_in, reads_file, reads_sname}
use Rattle.v4_message.specs.Message.{message_instances, kind_among, options_area, file_area, sname_area}
use Rattle.v4_message.specs.Messages.{Message4, message_with, message_unless, message_in, address_at}
use Rattle.v4_message.specs.Replies.{refusal_of}
use Rattle.v4_message.specs.declared.kind.MessageKind.{MessageKind}
use Rattle.v4_message.specs.declared.reading.Bad4.{Bad4}
use Rattle.v4_frames.specs.Heard.{HeardMessage, is_for, with_source, message_to, message_for, heard4_in}
use Rattle.v4_frames.specs.InRange.{FitsIp4, FitsMac}

-- ---- bytes

abbrev Small : List ℕ → Type 0
Small bytes = AllByRecursion (λ b. b < 256) bytes

small : (bytes : List ℕ) → AreBytes bytes → Small bytes
small [] h = tt
small (b ∷ bytes) h = (h 0, small bytes (rest_bytes b bytes h))

small_drop : (n : ℕ) (bytes : List ℕ) → Small bytes → Small (drop n bytes)
small_drop zero bytes h = h
small_drop (suc n) [] h = tt
small_drop (suc n) (b ∷ bytes) h = small_drop n bytes h.1

small_take : (n : ℕ) (bytes : List ℕ) → Small bytes → Small (take n bytes)
small_take zero bytes h = tt
small_take (suc n) [] h = tt
small_take (suc n) (b ∷ bytes) h = (h.0, small_take n bytes h.1)

are_bytes : (bytes : List ℕ) → Small bytes → AreBytes bytes
are_bytes [] h i = omega arith
are_bytes (b ∷ bytes) h zero = h.0
are_bytes (b ∷ bytes) h (suc i) = are_bytes bytes h.1 i

-- ---- options

-- the values of options are bytes
abbrev Values : List Instance → Type 0
Values instances = AllByRecursion (λ i. Small i.1) instances

one_value : (code : ℕ) (front : Front) (rest : List ℕ) → Small rest → Values (instance_of code front rest)
one_value code (Whole n) rest h = (small_take n (drop 1 rest) (small_drop 1 rest h), tt)
one_value code Pad rest h = tt
one_value code End rest h = tt
one_value code Cut rest h = tt

values_after : (skip : ℕ) (area : List ℕ) → Small area → Values (instances_after skip area)
values_after zero [] h = tt
values_after (suc k) [] h = tt
values_after (suc k) (b ∷ rest) h = values_after k rest h.1
values_after zero (code ∷ rest) h =
    all_join _ (instance_of code (front_of (code ∷ rest)) rest) (instances_after (more_bytes (front_of (code ∷ rest)) rest) rest)
    (one_value code (front_of (code ∷ rest)) rest h.1) (values_after (more_bytes (front_of (code ∷ rest)) rest) rest h.1)

values_in : (area : List ℕ) → Small area → Values (instances_in area)
unfolding instances_in
values_in area h = values_after 0 area h

values_over : (overload : Overload) (options file sname : List ℕ) → Small options → Small file → Small sname
    → Values (instances_over overload options file sname)
values_over overload options file sname o f s =
    all_join _ _ _ (all_join _ (instances_in options) (if reads_file overload then instances_in file else []) (values_in options o)
    (gated Values (reads_file overload) (instances_in file) [] (values_in file f) tt))
    (gated Values (reads_sname overload) (instances_in sname) [] (values_in sname s) tt)

message_values : (message : List ℕ) → Small message → Values (message_instances message)
unfolding message_instances
message_values message h =
    values_over (overload_in (options_area message)) (options_area message) (file_area message) (sname_area message) (small_drop 240 message h)
    (small_take 128 (drop 108 message) (small_drop 108 message h)) (small_take 64 (drop 44 message) (small_drop 44 message h))

abbrev Pieces : List (List ℕ) → Type 0
Pieces pieces = AllByRecursion Small pieces

pieces_small : (code : ℕ) (instances : List Instance) → Values instances → Pieces (pieces code instances)
pieces_small code [] h = tt
pieces_small code (i ∷ instances) h =
    split (i.0 == code) (λ e. rw e (h.0, pieces_small code instances h.1)) (λ e. rw e (pieces_small code instances h.1))

end_to_end : (pieces : List (List ℕ)) → Pieces pieces → Small (flat_map (λ piece. piece) pieces)
end_to_end [] h = tt
end_to_end (p ∷ pieces) h = all_join _ p (flat_map (λ piece. piece) pieces) h.0 (end_to_end pieces h.1)

joined_small : (pieces : List (List ℕ)) → Pieces pieces → IfSome (joined pieces) Small
joined_small [] h = tt
joined_small (p ∷ pieces) h = all_join _ p (flat_map (λ piece. piece) pieces) h.0 (end_to_end pieces h.1)

address_fits : (value : Option (List ℕ)) → IfSome value Small → IfSome (option_and_then addr_in value) FitsIp4
address_fits None h = tt
address_fits (Some value) h = split (length value == 4) (λ e. rw e (four_bytes_fit value (are_bytes value h))) (λ e. rw e tt)

-- the address that an option gives
option_fits : (code : ℕ) (instances : List Instance) → Values instances → IfSome (address_at code instances) FitsIp4
option_fits code instances h = address_fits (value_of code instances) (joined_small (pieces code instances) (pieces_small code instances h))

-- ---- messages

-- each address that an option of the message gives fits
abbrev pub FitsMessage : Message4 → Type 0
FitsMessage message = (code : ℕ) → IfSome (address_at code message.instances) FitsIp4

by_kind : (bytes : List ℕ) (kind : Option MessageKind) → Small bytes → IfSome (option_map (message_with bytes) kind) FitsMessage
by_kind bytes None h = tt
by_kind bytes (Some kind) h = λ code. option_fits code (message_instances bytes) (message_values bytes h)

by_refusal : (bytes : List ℕ) (bad : Option Bad4) → Small bytes → IfSome (message_unless bytes bad) FitsMessage
by_refusal bytes (Some bad) h = tt
by_refusal bytes None h = by_kind bytes (kind_among (message_instances bytes)) h

message_fits : (bytes : List ℕ) → Small bytes → IfSome (message_in bytes) FitsMessage
unfolding message_in
message_fits bytes h = by_refusal bytes (refusal_of bytes) h

-- ---- frames

pub record FitsHeard (heard : HeardMessage) : Type 0 where
  pub source : FitsMac heard.source
  pub message : FitsMessage heard.message

by_message : (source : Mac) (message : Option Message4) → FitsMac source → IfSome message FitsMessage
    → IfSome (option_map (with_source source) message) FitsHeard
by_message source None s h = tt
by_message source (Some message) s h = record { source = s; message = h }

by_port : (source : Mac) (datagram : Udp4) → FitsMac source → Small datagram.payload → IfSome (message_to source datagram) FitsHeard
by_port source datagram s h =
    gated (λ (o : Option HeardMessage). IfSome o FitsHeard) (datagram.to_port == 68) (option_map (with_source source) (message_in datagram.payload)) None
    (by_message source (message_in datagram.payload) s (message_fits datagram.payload h)) tt

by_datagram : (source : Mac) (datagram : Option Udp4) → FitsMac source → IfSome datagram (λ d. Small d.payload)
    → IfSome (option_and_then (message_to source) datagram) FitsHeard
by_datagram source None s h = tt
by_datagram source (Some datagram) s h = by_port source datagram s h

checked_small : (from to : Ip4) (datagram : List ℕ) → Small datagram → IfSome (checked4_in from to datagram) (λ d. Small d.payload)
checked_small from to datagram h =
    gated (λ (o : Option Udp4). IfSome o (λ d. Small d.payload)) (is_checked4 from to datagram) _ None (small_drop 8 datagram h) tt

whole_small : (body : List ℕ) → Small body → IfSome (datagram_in body) Small
unfolding datagram_in
whole_small body h =
    gated (λ (o : Option (List ℕ)). IfSome o Small) (nat_le 8 (length body) && nat_le 8 (word_in body 4) && nat_le (word_in body 4) (length body)) _ None
    (small_take (word_in body 4) body h) tt

by_whole : (from to : Ip4) (datagram : Option (List ℕ)) → IfSome datagram Small
    → IfSome (option_and_then (λ d. checked4_in from to d) datagram) (λ d. Small d.payload)
by_whole from to None h = tt
by_whole from to (Some datagram) h = checked_small from to datagram h

packet_small : (body : List ℕ) → Small body → IfSome (packet_in body) (λ p. Small p.body)
unfolding packet_in
packet_small body h =
    gated (λ (o : Option Packet). IfSome o (λ p. Small p.body)) (is_packet body) _ None
    (small_drop (head_len body) (take (word_in body 2) body) (small_take (word_in body 2) body h)) tt

by_packet : (packet : Option Packet) → IfSome packet (λ p. Small p.body)
    → IfSome (option_and_then (λ p. option_and_then (λ d. checked4_in p.from p.to d) (datagram_in p.body)) packet) (λ d. Small d.payload)
by_packet None h = tt
by_packet (Some packet) h = by_whole packet.from packet.to (datagram_in packet.body) (whole_small packet.body h)

udp_small : (body : List ℕ) → Small body → IfSome (udp4_in body) (λ d. Small d.payload)
unfolding udp4_in
udp_small body h = by_packet (packet_in body) (packet_small body h)

by_frame : (mac : Mac) (frame : Frame) → FitsMac frame.from → Small frame.body → IfSome (message_for mac frame) FitsHeard
by_frame mac frame s h =
    gated (λ (o : Option HeardMessage). IfSome o FitsHeard) (is_for mac frame) (option_and_then (message_to frame.from) (udp4_in frame.body)) None
    (by_datagram frame.from (udp4_in frame.body) s (udp_small frame.body h)) tt

long_enough : (bytes : List ℕ) → nat_lt (length bytes) 14 ≡ false → length (take 6 (drop 6 bytes)) ≡ 6
long_enough bytes e =
    let long : 14 ≤ length bytes = grind (arith, nat_tests) in
    length-take-le 6 (drop 6 bytes) (omega (arith, long, length-drop 6 bytes))

by_header : (mac : Mac) (bytes : List ℕ) → Small bytes → IfSome (option_and_then (message_for mac) (frame_in bytes)) FitsHeard
unfolding frame_in
by_header mac bytes h =
    split (nat_lt (length bytes) 14) (λ e. rw e tt)
    (λ e. rw e (by_frame mac (said (mac_in bytes 0) (mac_in bytes 6) (word_in bytes 12) (drop 14 bytes)) (long_enough bytes e) (small_drop 14 bytes h)))

pub heard_fits : (mac : Mac) (bytes : List ℕ) → AreBytes bytes → IfSome (heard4_in mac bytes) FitsHeard
unfolding heard4_in
heard_fits mac bytes h = by_header mac bytes (small bytes h)
