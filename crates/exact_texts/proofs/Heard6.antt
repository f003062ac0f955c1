-- What a DHCPv6 message brings that comes in a frame of bytes: its options and its server are bytes, and the addresses and prefixes of its
-- IAs are within their type.
use Rattle.std.proofs.Common.{ℕ, zero, suc, ◌-◌, ◌<◌, ◌^◌, Bool, ◌&&◌, List, [], ◌∷◌, find, length, take, drop, Option, Some, None, IfSome, nat_le, nat_lt, arith}
use Rattle.std.specs.List.{AllByRecursion, filter_map}
use Rattle.std.specs.Option.{option_and_then, option_map}
use Rattle.std.specs.Prelude.{◌==◌}
use Rattle.net_types.proofs.CaseLaws.{gated}
use Rattle.net_types.proofs.Checksum.{drop_bytes, take_bytes}
use Rattle.net_types.proofs.WireNumbers.{sixteen_bytes_fit}
use Rattle.net_types.specs.AddressText.{FitsIp6}
use Rattle.net_types.specs.Marks.{AreBytes}
use Rattle.net_types.specs.declared.address.Ip6.{Ip6}
use Rattle.net_types.specs.declared.address.Mac.{Mac}
use Rattle.frame_link.specs.Fields.{word_in}
use Rattle.frame_link.specs.Frames.{Frame, frame_in}
use Rattle.udp_frame.specs.Datagrams.{datagram_in}
use Rattle.udp_frame.specs.Packets6.{Packet6, is_packet6, packet6_in}
use Rattle.udp_frame.specs.Udp6Frames.{Udp6, checked6_in, is_checked6, udp6_in}
use Rattle.v6_options.specs.Codes.{ia_na, ia_pd, server_identifier}
use Rattle.v6_options.specs.Ias.{IaContent, ia_by, ias_in, ip6_in, item_by}
use Rattle.v6_options.specs.Layout.{ia_fields_len}
use Rattle.v6_options.specs.OptionArea.{Instance, field, front_of, instances_by, instances_in, instances_within}
use Rattle.v6_options.specs.OptionWalk.{first_of}
use Rattle.v6_options.specs.declared.area.Front.{Front}
use Rattle.v6_options.specs.declared.area.Front.TheVariants.{Whole, End, Bad}
use Rattle.v6_options.specs.declared.ia.IaKind.{IaKind}
use Rattle.v6_options.specs.declared.ia.IaKind.TheVariants.{Na, Pd}
use Rattle.v6_options.specs.declared.ia.ItemSaid.{ItemSaid}
use Rattle.v6_message.specs.Replies.{Content6, content_of, if_accepted, message6_in, options_area, refusal_of}
use Rattle.v6_message.specs.declared.kind.ServerKind6.{ServerKind6}
use Rattle.v6_message.specs.declared.reading.Bad6.{Bad6}
use Rattle.v6_frames.specs.Heard.{HeardMessage6, heard6_in, is_for, is_to, message_for, message_to, with_source}
use Rattle.lease6_text.specs.declared.lease.TheConstants.{ITEM_LIMIT}
use Rattle.v6_client.proofs.V6Items.SaidFits.{cons_all, take_all}
use Rattle.v6_client.specs.V6Items.Reading.{cleared, ia_for, is_for as is_ia_for, is_read, is_readable, read_item, read_items, saids_of}
use Rattle.v6_client.specs.V6Items.declared.asks.IaAsk.{IaAsk}

-- ---- options

abbrev Values : List Instance → Type 0
Values instances = AllByRecursion (λ (i : Instance). AreBytes i.1) instances

by_front : (front : Front) (area : List ℕ) (later : List ℕ → List Instance) → AreBytes area → ((rest : List ℕ) → AreBytes rest → Values (later rest))
    → Values (instances_by front area later)
by_front End area later h more = tt
by_front Bad area later h more = tt
by_front (Whole code len) area later h more =
    (take_bytes len (drop 4 area) (drop_bytes 4 area h), more (drop len (drop 4 area)) (drop_bytes len (drop 4 area) (drop_bytes 4 area h)))

values_within : (n : ℕ) (area : List ℕ) → AreBytes area → Values (instances_within n area)
values_within zero area h = tt
values_within (suc n) area h = by_front (front_of area) area (instances_within n) h (values_within n)

values_in : (area : List ℕ) → AreBytes area → Values (instances_in area)
unfolding instances_in
values_in area h = values_within (length area) area h

first_bytes : (code : ℕ) (instances : List Instance) → Values instances → IfSome (first_of code instances) AreBytes
first_bytes code [] h = tt
first_bytes code (i ∷ instances) h =
    gated (λ (o : Option (List ℕ)). IfSome o AreBytes) (i.0 == code) (Some i.1) (first_of code instances) h.0 (first_bytes code instances h.1)

-- ---- the items of its IAs

abbrev pub IsAddressed : ItemSaid → Type 0
IsAddressed said = FitsIp6 said.net.ip

ip_fits : (at : ℕ) (value : List ℕ) → AreBytes value → FitsIp6 (ip6_in at value)
ip_fits at value h = sixteen_bytes_fit (field at 16 value) (take_bytes 16 (drop at value) (drop_bytes at value h))

item_addressed : (kind : IaKind) (instance : Instance) → AreBytes instance.1 → IfSome (item_by kind instance) IsAddressed
item_addressed Na instance h = gated (λ (o : Option ItemSaid). IfSome o IsAddressed) _ (Some _) None (ip_fits 0 instance.1 h) tt
item_addressed Pd instance h = gated (λ (o : Option ItemSaid). IfSome o IsAddressed) _ (Some _) None (ip_fits 9 instance.1 h) tt

found_all : {X Y : Type 0} (P : X → Type 0) (Q : Y → Type 0) (f : X → Option Y) → ((x : X) → P x → IfSome (f x) Q) → (xs : List X)
    → AllByRecursion P xs → AllByRecursion Q (filter_map f xs)
found_all P Q f each [] all = tt
found_all P Q f each (x ∷ xs) all = cons_all Q (f x) (filter_map f xs) (each x all.0) (found_all P Q f each xs all.1)

abbrev HasBytes : Instance → Type 0
HasBytes instance = AreBytes instance.1

abbrev AreAddressed : IaContent → Type 0
AreAddressed ia = AllByRecursion IsAddressed ia.items

ia_items : (kind : IaKind) (value : List ℕ) → AreBytes value
    → AllByRecursion IsAddressed (filter_map (item_by kind) (instances_in (drop ia_fields_len value)))
ia_items kind value h =
    found_all HasBytes IsAddressed (item_by kind) (item_addressed kind) (instances_in (drop ia_fields_len value))
    (values_in (drop ia_fields_len value) (drop_bytes ia_fields_len value h))

ia_addressed : (instance : Instance) → AreBytes instance.1 → IfSome (ia_by instance) AreAddressed
ia_addressed instance h =
    gated (λ (o : Option IaContent). IfSome o AreAddressed) (instance.0 == ia_na) _ _ (ia_items Na instance.1 h)
    (gated (λ (o : Option IaContent). IfSome o AreAddressed) (instance.0 == ia_pd) _ _ (ia_items Pd instance.1 h) tt)

-- what counts of them

less : (n m most : ℕ) → n < most → n - m < most
less n m most h = omega (arith, h)

cleared_addressed : (kind : IaKind) (said : ItemSaid) → IsAddressed said → IsAddressed (cleared kind said)
cleared_addressed Na said h = h
cleared_addressed Pd said h = less said.net.ip.number _ (2 ^ 128) h

read_addressed : (kind : IaKind) (said : ItemSaid) → IsAddressed said → IfSome (read_item kind said) IsAddressed
read_addressed kind said h =
    gated (λ (o : Option ItemSaid). IfSome o IsAddressed) (is_read kind said) (Some (cleared kind said)) None (cleared_addressed kind said h) tt

items_read : (ia : IaContent) → AreAddressed ia → AllByRecursion IsAddressed (read_items ia)
items_read ia h =
    gated (λ (saids : List ItemSaid). AllByRecursion IsAddressed saids) (is_readable ia) (take ITEM_LIMIT (filter_map (read_item ia.kind) ia.items)) []
    (take_all IsAddressed ITEM_LIMIT (filter_map (read_item ia.kind) ia.items)
    (found_all IsAddressed IsAddressed (read_item ia.kind) (read_addressed ia.kind) ia.items h)) tt

pub find_all : {X : Type 0} (P : X → Type 0) (test : X → Bool) (xs : List X) → AllByRecursion P xs → IfSome (find test xs) P
find_all P test [] all = tt
find_all P test (x ∷ xs) all = gated (λ o. IfSome o P) (test x) (Some x) (find test xs) all.0 (find_all P test xs all.1)

of_found : (ia : Option IaContent) → IfSome ia AreAddressed → AllByRecursion IsAddressed (saids_of ia)
of_found None h = tt
of_found (Some ia) h = items_read ia h

pub saids_addressed : (options : List ℕ) → AreBytes options → (ask : IaAsk) → AllByRecursion IsAddressed (saids_of (ia_for ask (ias_in options)))
saids_addressed options h ask =
    of_found (ia_for ask (ias_in options))
    (find_all AreAddressed (is_ia_for ask) (ias_in options) (found_all HasBytes AreAddressed ia_by ia_addressed (instances_in options) (values_in options h)))

-- ---- messages

pub record HasServer (message : Content6) : Type 0 where
  pub server : IfSome message.server AreBytes
  pub options : AreBytes message.options

by_kind : (bytes : List ℕ) (kind : Option ServerKind6) → AreBytes (options_area bytes)
    → IfSome (option_map (content_of bytes (instances_in (options_area bytes))) kind) HasServer
by_kind bytes None h = tt
by_kind bytes (Some kind) h =
    record { server = first_bytes server_identifier (instances_in (options_area bytes)) (values_in (options_area bytes) h); options = h }

by_refusal : (bad : Option Bad6) (content : Option Content6) → IfSome content HasServer → IfSome (if_accepted bad content) HasServer
by_refusal (Some bad) content h = tt
by_refusal None content h = h

message_server : (bytes : List ℕ) → AreBytes bytes → IfSome (message6_in bytes) HasServer
unfolding message6_in
message_server bytes h = by_refusal (refusal_of bytes) _ (by_kind bytes _ (drop_bytes 4 bytes h))

-- ---- frames

abbrev pub HeardServer : HeardMessage6 → Type 0
HeardServer heard = HasServer heard.message

by_message : (source : Mac) (message : Option Content6) → IfSome message HasServer → IfSome (option_map (with_source source) message) HeardServer
by_message source None h = tt
by_message source (Some message) h = h

by_port : (mac source : Mac) (datagram : Udp6) → AreBytes datagram.payload → IfSome (message_to mac source datagram) HeardServer
by_port mac source datagram h =
    gated (λ (o : Option HeardMessage6). IfSome o HeardServer) (is_to mac datagram) _ _
    (by_message source (message6_in datagram.payload) (message_server datagram.payload h)) tt

abbrev HasPayload : Udp6 → Type 0
HasPayload datagram = AreBytes datagram.payload

by_datagram : (mac source : Mac) (datagram : Option Udp6) → IfSome datagram HasPayload → IfSome (option_and_then (message_to mac source) datagram) HeardServer
by_datagram mac source None h = tt
by_datagram mac source (Some datagram) h = by_port mac source datagram h

checked_bytes : (from to : Ip6) (datagram : List ℕ) → AreBytes datagram → IfSome (checked6_in from to datagram) HasPayload
checked_bytes from to datagram h =
    gated (λ (o : Option Udp6). IfSome o HasPayload) (is_checked6 from to datagram) _ None (drop_bytes 8 datagram h) tt

whole_bytes : (body : List ℕ) → AreBytes body → IfSome (datagram_in body) AreBytes
unfolding datagram_in
whole_bytes body h =
    gated (λ (o : Option (List ℕ)). IfSome o AreBytes) (nat_le 8 (length body) && nat_le 8 (word_in body 4) && nat_le (word_in body 4) (length body))
    (Some (take (word_in body 4) body)) None (take_bytes (word_in body 4) body h) tt

by_whole : (from to : Ip6) (datagram : Option (List ℕ)) → IfSome datagram AreBytes
    → IfSome (option_and_then (λ d. checked6_in from to d) datagram) HasPayload
by_whole from to None h = tt
by_whole from to (Some datagram) h = checked_bytes from to datagram h

by_packet : (packet : Option Packet6) → IfSome packet (λ (p : Packet6). AreBytes p.body)
    → IfSome (option_and_then (λ p. option_and_then (λ d. checked6_in p.from p.to d) (datagram_in p.body)) packet) HasPayload
by_packet None h = tt
by_packet (Some packet) h = by_whole packet.from packet.to (datagram_in packet.body) (whole_bytes packet.body h)

packet_bytes : (body : List ℕ) → AreBytes body → IfSome (packet6_in body) (λ (p : Packet6). AreBytes p.body)
unfolding packet6_in
packet_bytes body h =
    gated (λ (o : Option Packet6). IfSome o (λ (p : Packet6). AreBytes p.body)) (is_packet6 body) _ None (take_bytes _ (drop 40 body) (drop_bytes 40 body h)) tt

udp_bytes : (body : List ℕ) → AreBytes body → IfSome (udp6_in body) HasPayload
unfolding udp6_in
udp_bytes body h = by_packet (packet6_in body) (packet_bytes body h)

by_frame : (mac : Mac) (frame : Option Frame) → IfSome frame (λ (f : Frame). AreBytes f.body) → IfSome (option_and_then (message_for mac) frame) HeardServer
by_frame mac None h = tt
by_frame mac (Some frame) h =
    gated (λ (o : Option HeardMessage6). IfSome o HeardServer) (is_for mac frame) _ _
    (by_datagram mac frame.from (udp6_in frame.body) (udp_bytes frame.body h)) tt

frame_bytes : (bytes : List ℕ) → AreBytes bytes → IfSome (frame_in bytes) (λ (f : Frame). AreBytes f.body)
unfolding frame_in
frame_bytes bytes h = gated (λ (o : Option Frame). IfSome o (λ (f : Frame). AreBytes f.body)) (nat_lt (length bytes) 14) None _ tt (drop_bytes 14 bytes h)

pub heard_server : (mac : Mac) (bytes : List ℕ) → AreBytes bytes → IfSome (heard6_in mac bytes) HeardServer
unfolding heard6_in
heard_server mac bytes h = by_frame mac (frame_in bytes) (frame_bytes bytes h)
