-- The values that a message brings are bytes, where the frame that it came in is.
use Rattle.std.proofs.Common.{ℕ, zero, suc, List, [], ◌∷◌, filter, flat_map, length, map, take, drop, Option, Some, None, IfSome, nat_le, nat_lt, if◌then◌else◌}
use Rattle.std.specs.List.{AllByRecursion}
use Rattle.std.specs.Option.{option_and_then, option_map}
use Rattle.std.specs.Prelude.{◌==◌, ◌&&◌, unwrap_or}
use Rattle.net_types.proofs.AllLaws.{all_join}
use Rattle.net_types.proofs.CaseLaws.{gated}
use Rattle.net_types.proofs.Checksum.{append_bytes, drop_bytes, rest_bytes, take_bytes}
use Rattle.net_types.proofs.HexLaws.{no_bytes}
use Rattle.net_types.specs.Marks.{AreBytes}
use Rattle.net_types.specs.declared.address.Ip4.{Ip4}
use Rattle.net_types.specs.declared.address.Ip6.{Ip6}
use Rattle.net_types.specs.declared.address.Mac.{Mac}
use Rattle.frame_link.specs.Fields.{word_in}
use Rattle.frame_link.specs.Frames.{Frame, frame_in}
use Rattle.udp_frame.specs.Datagrams.{datagram_in, is_checked4}
use Rattle.udp_frame.specs.Packets.{Packet, head_len, is_packet, packet_in}
use Rattle.udp_frame.specs.Packets6.{Packet6, is_packet6, packet6_in}
use Rattle.udp_frame.specs.Udp4Frames.{Udp4, checked4_in, udp4_in}
use Rattle.udp_frame.specs.Udp6Frames.{Udp6, checked6_in, is_checked6, udp6_in}
use Rattle.v4_options.specs.declared.area.Front.{Front}
use Rattle.v4_options.specs.declared.area.Front.TheVariants.{Pad, End, Cut, Whole}
use Rattle.v4_options.specs.OptionArea.{Instance, front_of, instance_of, instances_after, instances_in, more_bytes}
use Rattle.v4_options.specs.OptionValue.{joined, pieces, value_of}
use Rattle.v4_options.specs.declared.overload.Overload.{Overload}
use Rattle.v4_options.specs.Overload.{instances_over, overload_in, reads_file, reads_sname}
use Rattle.v4_message.specs.Message.{file_area, kind_among, message_instances, options_area, sname_area}
use Rattle.v4_message.specs.Messages.{Message4, message_in, message_unless, message_with}
use Rattle.v4_message.specs.Replies.{refusal_of}
use Rattle.v4_message.specs.declared.kind.MessageKind.{MessageKind}
use Rattle.v4_message.specs.declared.reading.Bad4.{Bad4}
use Rattle.v4_frames.specs.Heard.{HeardMessage, heard4_in, is_for, message_for, message_to, with_source}
use Rattle.v6_options.specs.declared.area.Front.{Front as Front6}
use Rattle.v6_options.specs.declared.area.Front.TheVariants as sixth
use Rattle.v6_options.specs.Codes.{dns_servers, domain_list}
use Rattle.v6_options.specs.OptionArea as area6
use Rattle.v6_options.specs.OptionWalk.{first_of}
use Rattle.v6_message.specs.declared.kind.ServerKind6.{ServerKind6}
use Rattle.v6_message.specs.declared.reading.Bad6.{Bad6}
use Rattle.v6_message.specs.Replies as replies6
use Rattle.v6_message.specs.Replies.{Content6, content_of, if_accepted, message6_in}
use Rattle.v6_frames.specs.Heard as heard6
use Rattle.v6_frames.specs.Heard.{HeardMessage6, heard6_in}

-- ---- frames, packets and datagrams

frame_bytes : (bytes : List ℕ) → AreBytes bytes → IfSome (frame_in bytes) (λ (f : Frame). AreBytes f.body)
unfolding frame_in
frame_bytes bytes h = gated (λ (o : Option Frame). IfSome o (λ (f : Frame). AreBytes f.body)) (nat_lt (length bytes) 14) None _ tt (drop_bytes 14 bytes h)

whole_bytes : (body : List ℕ) → AreBytes body → IfSome (datagram_in body) AreBytes
unfolding datagram_in
whole_bytes body h =
    gated (λ (o : Option (List ℕ)). IfSome o AreBytes) (nat_le 8 (length body) && nat_le 8 (word_in body 4) && nat_le (word_in body 4) (length body))
    (Some (take (word_in body 4) body)) None (take_bytes (word_in body 4) body h) tt

checked4_bytes : (from to : Ip4) (datagram : List ℕ) → AreBytes datagram → IfSome (checked4_in from to datagram) (λ (d : Udp4). AreBytes d.payload)
checked4_bytes from to datagram h =
    gated (λ (o : Option Udp4). IfSome o (λ (d : Udp4). AreBytes d.payload)) (is_checked4 from to datagram) _ None (drop_bytes 8 datagram h) tt

by_whole4 : (from to : Ip4) (datagram : Option (List ℕ)) → IfSome datagram AreBytes
    → IfSome (option_and_then (λ d. checked4_in from to d) datagram) (λ (d : Udp4). AreBytes d.payload)
by_whole4 from to None h = tt
by_whole4 from to (Some datagram) h = checked4_bytes from to datagram h

by_packet4 : (packet : Option Packet) → IfSome packet (λ (p : Packet). AreBytes p.body)
    → IfSome (option_and_then (λ p. option_and_then (λ d. checked4_in p.from p.to d) (datagram_in p.body)) packet) (λ (d : Udp4). AreBytes d.payload)
by_packet4 None h = tt
by_packet4 (Some packet) h = by_whole4 packet.from packet.to (datagram_in packet.body) (whole_bytes packet.body h)

packet4_bytes : (body : List ℕ) → AreBytes body → IfSome (packet_in body) (λ (p : Packet). AreBytes p.body)
unfolding packet_in
packet4_bytes body h =
    gated (λ (o : Option Packet). IfSome o (λ (p : Packet). AreBytes p.body)) (is_packet body) _ None
    (drop_bytes (head_len body) (take (word_in body 2) body) (take_bytes (word_in body 2) body h)) tt

udp4_bytes : (body : List ℕ) → AreBytes body → IfSome (udp4_in body) (λ (d : Udp4). AreBytes d.payload)
unfolding udp4_in
udp4_bytes body h = by_packet4 (packet_in body) (packet4_bytes body h)

checked6_bytes : (from to : Ip6) (datagram : List ℕ) → AreBytes datagram → IfSome (checked6_in from to datagram) (λ (d : Udp6). AreBytes d.payload)
checked6_bytes from to datagram h =
    gated (λ (o : Option Udp6). IfSome o (λ (d : Udp6). AreBytes d.payload)) (is_checked6 from to datagram) _ None (drop_bytes 8 datagram h) tt

by_whole6 : (from to : Ip6) (datagram : Option (List ℕ)) → IfSome datagram AreBytes
    → IfSome (option_and_then (λ d. checked6_in from to d) datagram) (λ (d : Udp6). AreBytes d.payload)
by_whole6 from to None h = tt
by_whole6 from to (Some datagram) h = checked6_bytes from to datagram h

by_packet6 : (packet : Option Packet6) → IfSome packet (λ (p : Packet6). AreBytes p.body)
    → IfSome (option_and_then (λ p. option_and_then (λ d. checked6_in p.from p.to d) (datagram_in p.body)) packet) (λ (d : Udp6). AreBytes d.payload)
by_packet6 None h = tt
by_packet6 (Some packet) h = by_whole6 packet.from packet.to (datagram_in packet.body) (whole_bytes packet.body h)

packet6_bytes : (body : List ℕ) → AreBytes body → IfSome (packet6_in body) (λ (p : Packet6). AreBytes p.body)
unfolding packet6_in
packet6_bytes body h =
    gated (λ (o : Option Packet6). IfSome o (λ (p : Packet6). AreBytes p.body)) (is_packet6 body) _ None (take_bytes _ (drop 40 body) (drop_bytes 40 body h)) tt

udp6_bytes : (body : List ℕ) → AreBytes body → IfSome (udp6_in body) (λ (d : Udp6). AreBytes d.payload)
unfolding udp6_in
udp6_bytes body h = by_packet6 (packet6_in body) (packet6_bytes body h)

-- ---- the options of a message of DHCPv4

abbrev pub Values : List Instance → Type 0
Values instances = AllByRecursion (λ (i : Instance). AreBytes i.1) instances

one_value : (code : ℕ) (front : Front) (rest : List ℕ) → AreBytes rest → Values (instance_of code front rest)
one_value code (Whole n) rest h = (take_bytes n (drop 1 rest) (drop_bytes 1 rest h), tt)
one_value code Pad rest h = tt
one_value code End rest h = tt
one_value code Cut rest h = tt

values_after : (skip : ℕ) (area : List ℕ) → AreBytes area → Values (instances_after skip area)
values_after zero [] h = tt
values_after (suc k) [] h = tt
values_after (suc k) (b ∷ rest) h = values_after k rest (rest_bytes b rest h)
values_after zero (code ∷ rest) h =
    all_join (λ (i : Instance). AreBytes i.1) (instance_of code (front_of (code ∷ rest)) rest) (instances_after (more_bytes (front_of (code ∷ rest)) rest) rest)
    (one_value code (front_of (code ∷ rest)) rest (rest_bytes code rest h))
    (values_after (more_bytes (front_of (code ∷ rest)) rest) rest (rest_bytes code rest h))

values_in : (area : List ℕ) → AreBytes area → Values (instances_in area)
unfolding instances_in
values_in area h = values_after 0 area h

values_over : (overload : Overload) (options file sname : List ℕ) → AreBytes options → AreBytes file → AreBytes sname
    → Values (instances_over overload options file sname)
values_over overload options file sname o f s =
    all_join (λ (i : Instance). AreBytes i.1) _ _
    (all_join (λ (i : Instance). AreBytes i.1) (instances_in options) (if reads_file overload then instances_in file else []) (values_in options o)
    (gated Values (reads_file overload) (instances_in file) [] (values_in file f) tt))
    (gated Values (reads_sname overload) (instances_in sname) [] (values_in sname s) tt)

message_values : (message : List ℕ) → AreBytes message → Values (message_instances message)
unfolding message_instances
message_values message h =
    values_over (overload_in (options_area message)) (options_area message) (file_area message) (sname_area message) (drop_bytes 240 message h)
    (take_bytes 128 (drop 108 message) (drop_bytes 108 message h)) (take_bytes 64 (drop 44 message) (drop_bytes 44 message h))

pieces_bytes : (code : ℕ) (instances : List Instance) → Values instances → AllByRecursion AreBytes (pieces code instances)
pieces_bytes code [] h = tt
pieces_bytes code (i ∷ instances) h =
    gated (λ (is : List Instance). AllByRecursion AreBytes (map (λ (one : Instance). one.1) is)) (i.0 == code) (i ∷ filter (λ one. one.0 == code) instances)
    (filter (λ one. one.0 == code) instances) (h.0, pieces_bytes code instances h.1) (pieces_bytes code instances h.1)

end_to_end : (pieces : List (List ℕ)) → AllByRecursion AreBytes pieces → AreBytes (flat_map (λ piece. piece) pieces)
end_to_end [] h = no_bytes
end_to_end (p ∷ pieces) h = append_bytes p (flat_map (λ piece. piece) pieces) h.0 (end_to_end pieces h.1)

joined_bytes : (pieces : List (List ℕ)) → AllByRecursion AreBytes pieces → IfSome (joined pieces) AreBytes
joined_bytes [] h = tt
joined_bytes (p ∷ pieces) h = append_bytes p (flat_map (λ piece. piece) pieces) h.0 (end_to_end pieces h.1)

-- the value of a code
pub value_bytes : (code : ℕ) (instances : List Instance) → Values instances → IfSome (value_of code instances) AreBytes
value_bytes code instances h = joined_bytes (pieces code instances) (pieces_bytes code instances h)

-- ---- messages of DHCPv4

abbrev pub Good4 : HeardMessage → Type 0
Good4 heard = Values heard.message.instances

abbrev HasValues : Message4 → Type 0
HasValues message = Values message.instances

by_kind : (bytes : List ℕ) (kind : Option MessageKind) → AreBytes bytes → IfSome (option_map (message_with bytes) kind) HasValues
by_kind bytes None h = tt
by_kind bytes (Some kind) h = message_values bytes h

by_refusal : (bytes : List ℕ) (bad : Option Bad4) → AreBytes bytes → IfSome (message_unless bytes bad) HasValues
by_refusal bytes (Some bad) h = tt
by_refusal bytes None h = by_kind bytes (kind_among (message_instances bytes)) h

message_good : (bytes : List ℕ) → AreBytes bytes → IfSome (message_in bytes) HasValues
unfolding message_in
message_good bytes h = by_refusal bytes (refusal_of bytes) h

by_message : (source : Mac) (message : Option Message4) → IfSome message HasValues → IfSome (option_map (with_source source) message) Good4
by_message source None h = tt
by_message source (Some message) h = h

by_port : (source : Mac) (datagram : Udp4) → AreBytes datagram.payload → IfSome (message_to source datagram) Good4
by_port source datagram h =
    gated (λ (o : Option HeardMessage). IfSome o Good4) _ (option_map (with_source source) (message_in datagram.payload)) None
    (by_message source (message_in datagram.payload) (message_good datagram.payload h)) tt

by_datagram : (source : Mac) (datagram : Option Udp4) → IfSome datagram (λ (d : Udp4). AreBytes d.payload)
    → IfSome (option_and_then (message_to source) datagram) Good4
by_datagram source None h = tt
by_datagram source (Some datagram) h = by_port source datagram h

by_frame : (mac : Mac) (frame : Option Frame) → IfSome frame (λ (f : Frame). AreBytes f.body) → IfSome (option_and_then (message_for mac) frame) Good4
by_frame mac None h = tt
by_frame mac (Some frame) h =
    gated (λ (o : Option HeardMessage). IfSome o Good4) (is_for mac frame) (option_and_then (message_to frame.from) (udp4_in frame.body)) None
    (by_datagram frame.from (udp4_in frame.body) (udp4_bytes frame.body h)) tt

pub heard4_good : (mac : Mac) (bytes : List ℕ) → AreBytes bytes → IfSome (heard4_in mac bytes) Good4
unfolding heard4_in
heard4_good mac bytes h = by_frame mac (frame_in bytes) (frame_bytes bytes h)

-- ---- messages of DHCPv6: the values that a lease keeps

abbrev Values6 : List area6.Instance → Type 0
Values6 instances = AllByRecursion (λ (i : area6.Instance). AreBytes i.1) instances

by_front6 : (front : Front6) (area : List ℕ) (later : List ℕ → List area6.Instance) → AreBytes area → ((rest : List ℕ) → AreBytes rest → Values6 (later rest))
    → Values6 (area6.instances_by front area later)
by_front6 sixth.End area later h more = tt
by_front6 sixth.Bad area later h more = tt
by_front6 (sixth.Whole code len) area later h more =
    (take_bytes len (drop 4 area) (drop_bytes 4 area h), more (drop len (drop 4 area)) (drop_bytes len (drop 4 area) (drop_bytes 4 area h)))

values6_within : (n : ℕ) (area : List ℕ) → AreBytes area → Values6 (area6.instances_within n area)
values6_within zero area h = tt
values6_within (suc n) area h = by_front6 (area6.front_of area) area (area6.instances_within n) h (values6_within n)

values6_in : (area : List ℕ) → AreBytes area → Values6 (area6.instances_in area)
unfolding area6.instances_in
values6_in area h = values6_within (length area) area h

first_bytes : (code : ℕ) (instances : List area6.Instance) → Values6 instances → IfSome (first_of code instances) AreBytes
first_bytes code [] h = tt
first_bytes code (i ∷ instances) h =
    gated (λ (o : Option (List ℕ)). IfSome o AreBytes) (i.0 == code) (Some i.1) (first_of code instances) h.0 (first_bytes code instances h.1)

or_none : (found : Option (List ℕ)) → IfSome found AreBytes → AreBytes (unwrap_or found [])
or_none None h = no_bytes
or_none (Some value) h = h

pub record HasValues6 (message : Content6) : Type 0 where
  pub dns : AreBytes message.dns
  pub search : AreBytes message.search

abbrev pub Good6 : HeardMessage6 → Type 0
Good6 heard = HasValues6 heard.message

by_kind6 : (bytes : List ℕ) (instances : List area6.Instance) (kind : Option ServerKind6) → Values6 instances
    → IfSome (option_map (content_of bytes instances) kind) HasValues6
by_kind6 bytes instances None h = tt
by_kind6 bytes instances (Some kind) h = record {
  dns = or_none (first_of dns_servers instances) (first_bytes dns_servers instances h);
  search = or_none (first_of domain_list instances) (first_bytes domain_list instances h);
}

by_refusal6 : (bad : Option Bad6) (content : Option Content6) → IfSome content HasValues6 → IfSome (if_accepted bad content) HasValues6
by_refusal6 (Some bad) content h = tt
by_refusal6 None content h = h

message6_good : (bytes : List ℕ) → AreBytes bytes → IfSome (message6_in bytes) HasValues6
unfolding message6_in
message6_good bytes h =
    by_refusal6 (replies6.refusal_of bytes) _
    (by_kind6 bytes (area6.instances_in (replies6.options_area bytes)) _ (values6_in (replies6.options_area bytes) (drop_bytes 4 bytes h)))

by_message6 : (source : Mac) (message : Option Content6) → IfSome message HasValues6 → IfSome (option_map (heard6.with_source source) message) Good6
by_message6 source None h = tt
by_message6 source (Some message) h = h

by_port6 : (mac source : Mac) (datagram : Udp6) → AreBytes datagram.payload → IfSome (heard6.message_to mac source datagram) Good6
by_port6 mac source datagram h =
    gated (λ (o : Option HeardMessage6). IfSome o Good6) (heard6.is_to mac datagram) _ _
    (by_message6 source (message6_in datagram.payload) (message6_good datagram.payload h)) tt

by_datagram6 : (mac source : Mac) (datagram : Option Udp6) → IfSome datagram (λ (d : Udp6). AreBytes d.payload)
    → IfSome (option_and_then (heard6.message_to mac source) datagram) Good6
by_datagram6 mac source None h = tt
by_datagram6 mac source (Some datagram) h = by_port6 mac source datagram h

by_frame6 : (mac : Mac) (frame : Option Frame) → IfSome frame (λ (f : Frame). AreBytes f.body) → IfSome (option_and_then (heard6.message_for mac) frame) Good6
by_frame6 mac None h = tt
by_frame6 mac (Some frame) h =
    gated (λ (o : Option HeardMessage6). IfSome o Good6) (heard6.is_for mac frame) _ _
    (by_datagram6 mac frame.from (udp6_in frame.body) (udp6_bytes frame.body h)) tt

pub heard6_good : (mac : Mac) (bytes : List ℕ) → AreBytes bytes → IfSome (heard6_in mac bytes) Good6
unfolding heard6_in
heard6_good mac bytes h = by_frame6 mac (frame_in bytes) (frame_bytes bytes h)
