-- What is heard in a frame of bytes: the numbers of the items that count are within the types that hold them.
use Rattle.std.proofs.Common.{ℕ, zero, suc, ◌-◌, ◌<◌, ◌^◌, Bool, ◌&&◌, List, [], ◌∷◌, take, drop, Option, Some, None, IfSome, find, length, nat_le, nat_lt, arith}
use Rattle.std.specs.List.{AllByRecursion, cons_option, filter_map}
use Rattle.std.specs.Option.{option_and_then, option_map}
use Rattle.std.specs.Prelude.{◌==◌}
use Rattle.net_types.proofs.CaseLaws.{gated, split}
use Rattle.net_types.proofs.Checksum.{drop_bytes, take_bytes}
use Rattle.net_types.proofs.WireNumbers.{four_bytes_fit, sixteen_bytes_fit}
use Rattle.net_types.specs.Marks.{AreBytes}
use Rattle.net_types.specs.AddressText.{FitsIp6}
use Rattle.net_types.specs.declared.address.Ip6.{Ip6}
use Rattle.net_types.specs.declared.address.Mac.{Mac}
use Rattle.frame_link.specs.Fields.{word_in}
use Rattle.frame_link.specs.Frames.{Frame, frame_in}
use Rattle.udp_frame.specs.Datagrams.{datagram_in}
use Rattle.udp_frame.specs.Packets6.{Packet6, is_packet6, packet6_in}
use Rattle.udp_frame.specs.Udp6Frames.{Udp6, checked6_in, is_checked6, udp6_in}
use Rattle.v6_options.specs.declared.area.Front.{Front}
use Rattle.v6_options.specs.declared.area.Front.TheVariants.{Whole, End, Bad}
use Rattle.v6_options.specs.declared.ia.IaKind.{IaKind}
use Rattle.v6_options.specs.declared.ia.IaKind.TheVariants.{Na, Pd}
use Rattle.v6_options.specs.declared.ia.ItemSaid.{ItemSaid}
use Rattle.v6_options.specs.Codes.{ia_na, ia_pd}
use Rattle.v6_options.specs.Ias.{IaContent, ia_by, ias_in, ip6_in, item_by, number_in}
use Rattle.v6_options.specs.Layout.{ia_fields_len}
use Rattle.v6_options.specs.OptionArea.{Instance, field, front_of, instances_by, instances_in, instances_within}
use Rattle.v6_message.specs.declared.kind.ServerKind6.{ServerKind6}
use Rattle.v6_message.specs.declared.reading.Bad6.{Bad6}
use Rattle.v6_message.specs.Replies.{Content6, content_of, if_accepted, message6_in, options_area, refusal_of}
use Rattle.v6_frames.specs.Heard.{HeardMessage6, heard6_in, is_for, is_to, message_for, message_to, with_source}
use Rattle.lease6_text.specs.declared.lease.TheConstants.{ITEM_LIMIT}
use Rattle.v6_client.specs.V6Items.declared.asks.IaAsk.{IaAsk}
use Rattle.v6_client.specs.V6Items.Bounds.{IsTimed}
use Rattle.v6_client.specs.V6Items.Reading.{cleared, ia_for, is_read, is_readable, read_item, read_items, saids_of}

-- ---- numbers

number_fits : (at : ℕ) (value : List ℕ) → AreBytes value → number_in at value < 2 ^ 32
number_fits at value h = four_bytes_fit (field at 4 value) (take_bytes 4 (drop at value) (drop_bytes at value h))

ip_fits : (at : ℕ) (value : List ℕ) → AreBytes value → FitsIp6 (ip6_in at value)
ip_fits at value h = sixteen_bytes_fit (field at 16 value) (take_bytes 16 (drop at value) (drop_bytes at value h))

-- ---- options

abbrev Values : List Instance → Type 0
Values instances = AllByRecursion (λ i. AreBytes i.1) instances

by_front : (front : Front) (area : List ℕ) (later : List ℕ → List Instance) → AreBytes area
    → ((rest : List ℕ) → AreBytes rest → Values (later rest))
    → Values (instances_by front area later)
by_front End area later h more = tt
by_front Bad area later h more = tt
by_front (Whole code len) area later h more = (
  take_bytes len (drop 4 area) (drop_bytes 4 area h),
  more (drop len (drop 4 area))
      (drop_bytes len (drop 4 area) (drop_bytes 4 area h)),
)

values_within : (n : ℕ) (area : List ℕ) → AreBytes area → Values (instances_within n area)
values_within zero area h = tt
values_within (suc n) area h = by_front (front_of area) area (instances_within n) h (values_within n)

values_in : (area : List ℕ) → AreBytes area → Values (instances_in area)
unfolding instances_in
values_in area h = values_within (length area) area h

-- ---- items

pub record IsTyped (said : ItemSaid) : Type 0 where
  pub timed : IsTimed said
  pub ip : FitsIp6 said.net.ip

cons_all : {X : Type 0} (P : X → Type 0) (o : Option X) (xs : List X) → IfSome o P → AllByRecursion P xs
    → AllByRecursion P (cons_option o xs)
cons_all P None xs here all = all
cons_all P (Some x) xs here all = (here, all)

item_typed : (kind : IaKind) (instance : Instance) → AreBytes instance.1 → IfSome (item_by kind instance) IsTyped
item_typed Na instance h =
    gated (λ (o : Option ItemSaid). IfSome o IsTyped) _ (Some _) None
    (record {
      timed = record { preferred = number_fits 16 instance.1 h; valid = number_fits 20 instance.1 h };
      ip =
          ip_fits 0 instance.1 h;
    }) tt
item_typed Pd instance h =
    gated (λ (o : Option ItemSaid). IfSome o IsTyped) _ (Some _) None
    (record {
      timed = record { preferred = number_fits 0 instance.1 h; valid = number_fits 4 instance.1 h };
      ip =
          ip_fits 9 instance.1 h;
    }) tt

items_typed : (kind : IaKind) (instances : List Instance) → Values instances
    → AllByRecursion IsTyped (filter_map (item_by kind) instances)
items_typed kind [] h = tt
items_typed kind (instance ∷ instances) h =
    cons_all IsTyped (item_by kind instance) (filter_map (item_by kind) instances) (item_typed kind instance h.0)
    (items_typed kind instances h.1)

ia_items : (kind : IaKind) (value : List ℕ) → AreBytes value
    → AllByRecursion IsTyped (filter_map (item_by kind) (instances_in (drop ia_fields_len value)))
ia_items kind value h = items_typed kind (instances_in (drop ia_fields_len value))
    (values_in (drop ia_fields_len value) (drop_bytes ia_fields_len value h))

abbrev HasTyped : IaContent → Type 0
HasTyped ia = AllByRecursion IsTyped ia.items

ia_typed : (instance : Instance) → AreBytes instance.1 → IfSome (ia_by instance) HasTyped
ia_typed instance h =
    gated (λ (o : Option IaContent). IfSome o HasTyped) (instance.0 == ia_na) _ _ (ia_items Na instance.1 h)
    (gated (λ (o : Option IaContent). IfSome o HasTyped) (instance.0 == ia_pd) _ _ (ia_items Pd instance.1 h) tt)

ias_typed : (instances : List Instance) → Values instances → AllByRecursion HasTyped (filter_map ia_by instances)
ias_typed [] h = tt
ias_typed (instance ∷ instances) h =
    cons_all HasTyped (ia_by instance) (filter_map ia_by instances) (ia_typed instance h.0) (ias_typed instances h.1)

-- ---- what counts of them

less : (n m most : ℕ) → n < most → n - m < most
less n m most h = omega (arith, h)

clear_typed : (kind : IaKind) (said : ItemSaid) → IsTyped said → IsTyped (cleared kind said)
clear_typed Na said h = h
clear_typed Pd said h = record {
  timed = record { preferred = h.timed.preferred; valid = h.timed.valid };
  ip =
      less said.net.ip.number _ (2 ^ 128) h.ip;
}

read_typed : (kind : IaKind) (items : List ItemSaid) → AllByRecursion IsTyped items
    → AllByRecursion IsTyped (filter_map (read_item kind) items)
read_typed kind [] h = tt
read_typed kind (said ∷ saids) h =
    cons_all IsTyped (read_item kind said) (filter_map (read_item kind) saids)
    (gated (λ (o : Option ItemSaid). IfSome o IsTyped) (is_read kind said) _ _ (clear_typed kind said h.0) tt)
    (read_typed kind saids h.1)

pub take_all : {X : Type 0} (P : X → Type 0) (n : ℕ) (xs : List X) → AllByRecursion P xs → AllByRecursion P (take n xs)
take_all P zero xs all = tt
take_all P (suc n) [] all = tt
take_all P (suc n) (x ∷ xs) all = (all.0, take_all P n xs all.1)

items_read : (ia : IaContent) → HasTyped ia → AllByRecursion IsTyped (read_items ia)
items_read ia h =
    gated (λ (saids : List ItemSaid). AllByRecursion IsTyped saids) (is_readable ia) _ _
    (take_all IsTyped ITEM_LIMIT (filter_map (read_item ia.kind) ia.items) (read_typed ia.kind ia.items h)) tt

found_all : {X : Type 0} (P : X → Type 0) (test : X → Bool) (xs : List X) → AllByRecursion P xs → IfSome (find test xs) P
found_all P test [] all = tt
found_all P test (x ∷ xs) all = split (test x) (λ e. rw e all.0) (λ e. rw e (found_all P test xs all.1))

of_found : (ia : Option IaContent) → IfSome ia HasTyped → AllByRecursion IsTyped (saids_of ia)
of_found None h = tt
of_found (Some ia) h = items_read ia h

-- so of each IA where the options are bytes
pub options_typed : (options : List ℕ) → AreBytes options → (ask : IaAsk)
    → AllByRecursion IsTyped (saids_of (ia_for ask (ias_in options)))
options_typed options h ask =
    of_found (ia_for ask (ias_in options))
    (found_all HasTyped _ (ias_in options) (ias_typed (instances_in options) (values_in options h)))

-- ---- messages and frames

abbrev pub HasBytes : Content6 → Type 0
HasBytes message = AreBytes message.options

by_kind : (bytes : List ℕ) (instances : List Instance) (kind : Option ServerKind6) → AreBytes bytes
    → IfSome (option_map (content_of bytes instances) kind) HasBytes
by_kind bytes instances None h = tt
by_kind bytes instances (Some kind) h = drop_bytes 4 bytes h

by_refusal : (bad : Option Bad6) (content : Option Content6) → IfSome content HasBytes
    → IfSome (if_accepted bad content) HasBytes
by_refusal (Some bad) content h = tt
by_refusal None content h = h

message_typed : (bytes : List ℕ) → AreBytes bytes → IfSome (message6_in bytes) HasBytes
unfolding message6_in
message_typed bytes h = by_refusal (refusal_of bytes) _ (by_kind bytes (instances_in (options_area bytes)) _ h)

abbrev pub FitsHeard6 : HeardMessage6 → Type 0
FitsHeard6 heard = HasBytes heard.message

by_message : (source : Mac) (message : Option Content6) → IfSome message HasBytes
    → IfSome (option_map (with_source source) message) FitsHeard6
by_message source None h = tt
by_message source (Some message) h = h

by_port : (mac source : Mac) (datagram : Udp6) → AreBytes datagram.payload → IfSome (message_to mac source datagram) FitsHeard6
by_port mac source datagram h =
    gated (λ (o : Option HeardMessage6). IfSome o FitsHeard6) (is_to mac datagram) _ _
    (by_message source (message6_in datagram.payload) (message_typed datagram.payload h)) tt

by_datagram : (mac source : Mac) (datagram : Option Udp6) → IfSome datagram (λ d. AreBytes d.payload)
    → IfSome (option_and_then (message_to mac source) datagram) FitsHeard6
by_datagram mac source None h = tt
by_datagram mac source (Some datagram) h = by_port mac source datagram h

checked_bytes : (from to : Ip6) (datagram : List ℕ) → AreBytes datagram
    → IfSome (checked6_in from to datagram) (λ d. AreBytes d.payload)
checked_bytes from to datagram h =
    gated (λ (o : Option Udp6). IfSome o (λ d. AreBytes d.payload)) (is_checked6 from to datagram) _ None
    (drop_bytes 8 datagram h) tt

whole_bytes : (body : List ℕ) → AreBytes body → IfSome (datagram_in body) AreBytes
unfolding datagram_in
whole_bytes body h =
    gated (λ (o : Option (List ℕ)). IfSome o AreBytes) (nat_le 8 (length body) && nat_le 8 (word_in body 4) && nat_le
    (word_in body 4) (length body))
    (Some (take (word_in body 4) body)) None (take_bytes (word_in body 4) body h) tt

by_whole : (from to : Ip6) (datagram : Option (List ℕ)) → IfSome datagram AreBytes
    → IfSome (option_and_then (λ d. checked6_in from to d) datagram) (λ d. AreBytes d.payload)
by_whole from to None h = tt
by_whole from to (Some datagram) h = checked_bytes from to datagram h

by_packet : (packet : Option Packet6) → IfSome packet (λ p. AreBytes p.body)
    → IfSome (option_and_then (λ p. option_and_then (λ d. checked6_in p.from p.to d) (datagram_in p.body)) packet)
    (λ d. AreBytes d.payload)
by_packet None h = tt
by_packet (Some packet) h = by_whole packet.from packet.to (datagram_in packet.body) (whole_bytes packet.body h)

packet_bytes : (body : List ℕ) → AreBytes body → IfSome (packet6_in body) (λ p. AreBytes p.body)
unfolding packet6_in
packet_bytes body h =
    gated (λ (o : Option Packet6). IfSome o (λ p. AreBytes p.body)) (is_packet6 body) _ None
    (take_bytes _ (drop 40 body) (drop_bytes 40 body h)) tt

udp_bytes : (body : List ℕ) → AreBytes body → IfSome (udp6_in body) (λ d. AreBytes d.payload)
unfolding udp6_in
udp_bytes body h = by_packet (packet6_in body) (packet_bytes body h)

by_frame : (mac : Mac) (frame : Frame) → AreBytes frame.body → IfSome (message_for mac frame) FitsHeard6
by_frame mac frame h =
    gated (λ (o : Option HeardMessage6). IfSome o FitsHeard6) (is_for mac frame) _ None
    (by_datagram mac frame.from (udp6_in frame.body) (udp_bytes frame.body h)) tt

by_body : (mac : Mac) (frame : Option Frame) → IfSome frame (λ f. AreBytes f.body)
    → IfSome (option_and_then (message_for mac) frame) FitsHeard6
by_body mac None h = tt
by_body mac (Some frame) h = by_frame mac frame h

frame_bytes : (bytes : List ℕ) → AreBytes bytes → IfSome (frame_in bytes) (λ f. AreBytes f.body)
unfolding frame_in
frame_bytes bytes h = gated (λ (o : Option Frame). IfSome o (λ f. AreBytes f.body)) (nat_lt (length bytes) 14) None _ tt
    (drop_bytes 14 bytes h)

pub heard_typed : (mac : Mac) (bytes : List ℕ) → AreBytes bytes → IfSome (heard6_in mac bytes) FitsHeard6
unfolding heard6_in
heard_typed mac bytes h = by_body mac (frame_in bytes) (frame_bytes bytes h)
