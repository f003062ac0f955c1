-- ARP packets between Ethernet hosts about IPv4 addresses (RFC 826): hardware type 1, protocol type 0800 hex,
-- the lengths 6 and 4, the operation, sender's hardware and protocol address, target's hardware and protocol address.
use Rattle.std.specs.Prelude.{ℕ, List, [], ◌∷◌, ◌++◌, length, Bool, Option, Some, None, nat_le, slice_index, ◌==◌, ◌&&◌, ◌||◌, if◌then◌else◌}
use Rattle.net_types.specs.declared.address.Ip4.{Ip4}
use Rattle.net_types.specs.declared.address.Mac.{Mac}
use Rattle.frame_link.specs.declared.arp.ArpView.{ArpView}
use Rattle.frame_link.specs.Fields.{word_in, ip4_in, mac_in, word_text, ip4_text}
use Rattle.frame_link.specs.Frames.{Frame, said, frame_text, broadcast}

abbrev pub arp_kind : ℕ
arp_kind = 0x0806

abbrev pub is_arp : List ℕ → Bool
is_arp body =
    nat_le 28 (length body) && (word_in body 0 == 1) && (word_in body 2 == 0x0800) && (slice_index body 4 == 6)
    && (slice_index body 5 == 4) && ((word_in body 6 == 1) || (word_in body 6 == 2))

-- the packet that a body begins with; what follows it is not looked at
unfoldable pub arp_in : List ℕ → Option ArpView
arp_in body =
    if is_arp body
    then Some
    (record { op = word_in body 6; sender_mac = mac_in body 8; sender = ip4_in body 14; target = ip4_in body 24 })
    else None

-- the packet with a target's hardware address
abbrev pub arp_text : ArpView → Mac → List ℕ
arp_text arp target_mac =
    word_text 1 ++ word_text 0x0800 ++ (6 ∷ 4 ∷ []) ++ word_text arp.op ++ arp.sender_mac.bytes ++ ip4_text arp.sender
    ++ target_mac.bytes ++ ip4_text arp.target

-- a request: who has the target?
abbrev pub request : Mac → Ip4 → Ip4 → ArpView
request mac sender target = record { op = 1; sender_mac = mac; sender = sender; target = target }

abbrev pub no_mac : Mac
no_mac = record { bytes = 0 ∷ 0 ∷ 0 ∷ 0 ∷ 0 ∷ 0 ∷ [] }

-- the frame to all hosts that carries a request
abbrev pub request_frame : Mac → Ip4 → Ip4 → Frame
request_frame mac sender target = said broadcast mac arp_kind (arp_text (request mac sender target) no_mac)

abbrev pub request_text : Mac → Ip4 → Ip4 → List ℕ
request_text mac sender target = frame_text (request_frame mac sender target)

-- a probe asks for an address with no address of its own (RFC 5227, section 2.1.1)
abbrev pub probe_text : Mac → Ip4 → List ℕ
probe_text mac target = request_text mac (record { number = 0 }) target

-- an announcement has the address as both (RFC 5227, section 2.3)
abbrev pub announcement_text : Mac → Ip4 → List ℕ
announcement_text mac address = request_text mac address address
