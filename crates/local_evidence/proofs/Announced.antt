-- Unlike addresses have unlike announcements, and what else is said announces nothing.
use Rattle.std.proofs.Common.{◌≡◌, ℕ, ◌<◌, ◌≤◌, ◌&&◌, Bool, true, false, not, List, [], ◌∷◌, ◌++◌, get_or, drop, refl, sym, ap, ◌∙◌, append_assoc, arith}
use Rattle.std.proofs.lemmas.Bool.Decides.{nat_tests}
use Rattle.std.proofs.lemmas.Nat.{from_be_bytes-to_be_bytes_4}
use Rattle.std.proofs.lemmas.List.{append_cancel_left}
use Rattle.std.specs.Prelude.{nat_le, ◌==◌}
use Rattle.std.specs.Int.{w32, from_be_bytes}
use Rattle.std.specs.List.{AllByRecursion}
use Rattle.net_types.proofs.AllLaws.{all_map}
use Rattle.net_types.specs.declared.address.Ip4.{Ip4}
use Rattle.net_types.specs.declared.address.Mac.{Mac}
use Rattle.net_types.specs.AddressText.{FitsIp4}
use Rattle.frame_link.specs.Fields.{word_text, ip4_text}
use Rattle.frame_link.specs.Frames.{broadcast}
use Rattle.frame_link.specs.Packets.{arp_kind, no_mac, probe_text, announcement_text}
use Rattle.udp_frame.specs.declared.udp4.Ends4.{Ends4}
use Rattle.udp_frame.specs.Udp4Frames.{ip4_kind, said4, udp4_text, udp4_frame_text}
use Rattle.udp_frame.specs.Udp6Frames.{udp6_frame_text}
use Rattle.v4_message.specs.Requests.{AskContent, message_text, padded}
use Rattle.v4_frames.specs.declared.sent.TheConstants.{CLIENT_PORT, SERVER_PORT}
use Rattle.evidence_words.specs.V6Frames.Spelled.{Sent6, frame6_of}
use Rattle.lease_text.specs.Leases.{first_byte, is_host_address}
use Rattle.v4_client.specs.declared.states.Say4.{Say4}
use Rattle.arp_acd.specs.declared.detection.ArpSay.TheVariants.{Probe, Announce}
use Rattle.evidence_words.specs.ClientModel.Messages.{Said, Arp, Dhcp4, Dhcp6}
use Rattle.evidence_words.specs.ClientModel.ClientSettings.{ask_of}
use Rattle.evidence_words.specs.ClientModel.Clients.{frame_of}
use Rattle.evidence_words.specs.Entries.{Offer}
use Rattle.evidence_words.specs.Inputs.{Site}
use Rattle.local_evidence.specs.LinkLocalBasis.{AnnouncesNoOther}
use Rattle.evidence_words.proofs.Offers.{Offered}

-- an announcement past its Ethernet header and the lengths and the operation of its packet
abbrev ending : Mac → Ip4 → List ℕ
ending mac addr = ((mac.bytes ++ ip4_text addr) ++ no_mac.bytes) ++ ip4_text addr

abbrev packet_head : List ℕ
packet_head = word_text 1 ++ word_text 0x0800 ++ (6 ∷ 4 ∷ []) ++ word_text 1

abbrev target : Ip4 → List ℕ
target addr = ip4_text addr ++ (no_mac.bytes ++ ip4_text addr)

bracketed : (m x n y : List ℕ) → ((m ++ x) ++ n) ++ y ≡ m ++ (x ++ (n ++ y))
bracketed m x n y = simp append_assoc

endings : (mac : Mac) (a b : Ip4)
    → broadcast.bytes ++ ((mac.bytes ++ word_text arp_kind) ++ (packet_head ++ ending mac a))
    ≡ broadcast.bytes ++ ((mac.bytes ++ word_text arp_kind) ++ (packet_head ++ ending mac b))
    → ending mac a ≡ ending mac b
endings mac a b e =
    append_cancel_left packet_head (ending mac a) (ending mac b)
    (append_cancel_left (mac.bytes ++ word_text arp_kind) (packet_head ++ ending mac a) (packet_head ++ ending mac b)
    (append_cancel_left broadcast.bytes ((mac.bytes ++ word_text arp_kind) ++ (packet_head ++ ending mac a))
    ((mac.bytes ++ word_text arp_kind) ++ (packet_head ++ ending mac b)) e))

targets : (mac : Mac) (a b : Ip4) → ending mac a ≡ ending mac b → target a ≡ target b
targets mac a b e =
    append_cancel_left mac.bytes (target a) (target b)
    (sym (bracketed mac.bytes (ip4_text a) no_mac.bytes (ip4_text a)) ∙ e ∙ bracketed mac.bytes (ip4_text b) no_mac.bytes (ip4_text b))

pub one_address : (mac : Mac) (a b : Ip4) → FitsIp4 a → FitsIp4 b → announcement_text mac a ≡ announcement_text mac b → a ≡ b
one_address mac a b a_fits b_fits e =
    let number : a.number ≡ b.number =
    sym (from_be_bytes-to_be_bytes_4 a.number a_fits) ∙ ap (from_be_bytes w32) (targets mac a b (endings mac a b e))
    ∙ from_be_bytes-to_be_bytes_4 b.number b_fits in
    ap (λ n. record { number = n }) number

-- ---- what announces nothing

-- a request past its Ethernet header and the lengths and the operation of its packet
abbrev asking : Mac → (sender target : Ip4) → List ℕ
asking mac sender wanted = ((mac.bytes ++ ip4_text sender) ++ no_mac.bytes) ++ ip4_text wanted

abbrev addresses : (sender target : Ip4) → List ℕ
addresses sender wanted = ip4_text sender ++ (no_mac.bytes ++ ip4_text wanted)

same_addresses : (mac : Mac) (a b c d : Ip4)
    → broadcast.bytes ++ ((mac.bytes ++ word_text arp_kind) ++ (packet_head ++ asking mac a b))
    ≡ broadcast.bytes ++ ((mac.bytes ++ word_text arp_kind) ++ (packet_head ++ asking mac c d))
    → addresses a b ≡ addresses c d
same_addresses mac a b c d e =
    let ends : asking mac a b ≡ asking mac c d =
    append_cancel_left packet_head (asking mac a b) (asking mac c d)
    (append_cancel_left (mac.bytes ++ word_text arp_kind) (packet_head ++ asking mac a b) (packet_head ++ asking mac c d)
    (append_cancel_left broadcast.bytes ((mac.bytes ++ word_text arp_kind) ++ (packet_head ++ asking mac a b))
    ((mac.bytes ++ word_text arp_kind) ++ (packet_head ++ asking mac c d)) e)) in
    append_cancel_left mac.bytes (addresses a b) (addresses c d)
    (sym (bracketed mac.bytes (ip4_text a) no_mac.bytes (ip4_text b)) ∙ ends ∙ bracketed mac.bytes (ip4_text c) no_mac.bytes (ip4_text d))

abbrev no_address : Ip4
no_address = record { number = 0 }

abbrev wanted_in : List ℕ → ℕ
wanted_in bytes = from_be_bytes w32 (drop 10 bytes)

both : (a b : Bool) → (a && b) ≡ true → (a ≡ true) × (b ≡ true)
both true b e = (refl, e)
both false b e = cc

-- an address that a host may have is none of 0.0.0.0/8, and has 32 bits
host_number : (address : Ip4) → is_host_address address ≡ true → (0 < address.number) × FitsIp4 address
host_number address host =
    let parts = both (nat_le 1 (first_byte address) && nat_le (first_byte address) 223) (not (first_byte address == 127)) host in
    let bounds = both (nat_le 1 (first_byte address)) (nat_le (first_byte address) 223) parts.0 in
    (some bounds.0, most bounds.1)
  where
    some : nat_le 1 (first_byte address) ≡ true → 0 < address.number
    some h = let least : 1 ≤ first_byte address = grind (arith, nat_tests) in omega arith

    most : nat_le (first_byte address) 223 ≡ true → FitsIp4 address
    most h = let highest : first_byte address ≤ 223 = grind (arith, nat_tests) in omega arith

-- a probe for an address that a host may have
no_probe : (mac : Mac) (a other : Ip4) → is_host_address a ≡ true → FitsIp4 other → probe_text mac a ≡ announcement_text mac other → ⊥
no_probe mac a other host fits e =
    let same : addresses no_address a ≡ addresses other other = same_addresses mac no_address a other other e in
    let sender : 0 ≡ other.number = ap (from_be_bytes w32) same ∙ from_be_bytes-to_be_bytes_4 other.number fits in
    let number = host_number a host in
    let wanted : a.number ≡ other.number =
    sym (from_be_bytes-to_be_bytes_4 a.number number.1) ∙ ap wanted_in same ∙ from_be_bytes-to_be_bytes_4 other.number fits in
    absurd (omega (arith, number.0, sender, wanted))

-- a datagram from the same host to every host
kinds : (mac : Mac) (a b : ℕ) (x y : List ℕ)
    → broadcast.bytes ++ ((mac.bytes ++ word_text a) ++ x) ≡ broadcast.bytes ++ ((mac.bytes ++ word_text b) ++ y)
    → word_text a ++ x ≡ word_text b ++ y
kinds mac a b x y e =
    append_cancel_left mac.bytes (word_text a ++ x) (word_text b ++ y)
    (sym (append_assoc mac.bytes (word_text a) x)
    ∙ append_cancel_left broadcast.bytes ((mac.bytes ++ word_text a) ++ x) ((mac.bytes ++ word_text b) ++ y) e
    ∙ append_assoc mac.bytes (word_text b) y)

abbrev to_all : Mac → (from to : Ip4) → Ends4
to_all mac from to = record { from_mac = mac; to_mac = broadcast; from = from; to = to }

no_datagram : (mac : Mac) (from to : Ip4) (payload : List ℕ) (other : Ip4)
    → udp4_frame_text (to_all mac from to) CLIENT_PORT SERVER_PORT payload ≡ announcement_text mac other → ⊥
unfolding udp4_frame_text
no_datagram mac from to payload other e =
    let words = kinds mac ip4_kind arp_kind (udp4_text (said4 from to CLIENT_PORT SERVER_PORT payload)) (packet_head ++ ending mac other) e in
    let bad : 0 ≡ 6 = ap (λ (bytes : List ℕ). get_or bytes 1 0) words in
    cc

-- a message to all servers and relay agents isn't for every host of the link
no_message6 : (mac : Mac) (sent : Sent6) (other : Ip4) → frame6_of sent ≡ announcement_text mac other → ⊥
unfolding udp6_frame_text
no_message6 mac sent other e = let bad : 0x33 ≡ 0xff = ap (λ (bytes : List ℕ). get_or bytes 0 0) e in cc

-- A message announces nothing: a message of DHCPv4 to every host, a probe for an address that a host may have, or a message of
-- DHCPv6.
abbrev pub AnnouncesNone : Mac → Said → Type 0
AnnouncesNone mac (Arp (Probe other)) = is_host_address other ≡ true
AnnouncesNone mac (Arp (Announce other)) = ⊥
AnnouncesNone mac (Dhcp4 say) = (say.ends.to_mac ≡ broadcast) × (say.ends.from_mac ≡ mac)
AnnouncesNone mac (Dhcp6 sent) = Unit {0}

-- It announces no other address.
abbrev pub AnnouncesOnly : Mac → Ip4 → Said → Type 0
AnnouncesOnly mac addr (Arp (Probe other)) = is_host_address other ≡ true
AnnouncesOnly mac addr (Arp (Announce other)) = other ≡ addr
AnnouncesOnly mac addr (Dhcp4 say) = (say.ends.to_mac ≡ broadcast) × (say.ends.from_mac ≡ mac)
AnnouncesOnly mac addr (Dhcp6 sent) = Unit {0}

pub none_only : (mac : Mac) (addr : Ip4) (said : List Said) → AllByRecursion (AnnouncesNone mac) said → AllByRecursion (AnnouncesOnly mac addr) said
none_only mac addr said all = all_map (AnnouncesNone mac) (AnnouncesOnly mac addr) one said all
  where
    one : (say : Said) → AnnouncesNone mac say → AnnouncesOnly mac addr say
    one (Arp (Probe other)) h = h
    one (Arp (Announce other)) h = absurd h
    one (Dhcp4 say) h = h
    one (Dhcp6 sent) h = h

no_message : (mac : Mac) (ask : AskContent) (say : Say4) (other : Ip4) → say.ends.to_mac ≡ broadcast → say.ends.from_mac ≡ mac
    → udp4_frame_text say.ends CLIENT_PORT SERVER_PORT (padded (message_text say.said ask)) ≡ announcement_text mac other → ⊥
no_message mac ask say other to from e =
    let payload : List ℕ = padded (message_text say.said ask) in
    let ends : say.ends ≡ to_all mac say.ends.from say.ends.to =
    λ i. record { from_mac = from i; to_mac = to i; from = say.ends.from; to = say.ends.to } in
    no_datagram mac say.ends.from say.ends.to payload other
    (sym (ap (λ (x : Ends4). udp4_frame_text x CLIENT_PORT SERVER_PORT payload) ends) ∙ e)

-- ---- what is offered

module _ (site : Site) (addr : Ip4) (fits : FitsIp4 addr) where
  abbrev mac : Mac
  mac = site.managed.spec.mac

  no_other : (say : Said) (offer : Offer) → AnnouncesOnly mac addr say → offer.bytes ≡ frame_of site.managed.spec (ask_of site.duid site.managed) say
      → AnnouncesNoOther site addr offer
  no_other (Arp (Probe a)) offer says same other other_fits e = absurd (no_probe mac a other says other_fits (sym same ∙ e))
  no_other (Arp (Announce a)) offer says same other other_fits e =
      one_address mac other addr other_fits fits (sym e ∙ same ∙ ap (λ (x : Ip4). announcement_text mac x) says)
  no_other (Dhcp4 say) offer says same other other_fits e =
      absurd (no_message mac (ask_of site.duid site.managed) say other says.0 says.1 (sym same ∙ e))
  no_other (Dhcp6 sent) offer says same other other_fits e = absurd (no_message6 mac sent other (sym same ∙ e))

  -- where no other address was announced by what was said, none was by the offers
  pub alone : (clean : Type 0) (said : List Said) (offers : List Offer) → AllByRecursion (AnnouncesOnly mac addr) said
      → Offered site.managed.spec (ask_of site.duid site.managed) clean said offers → AllByRecursion (AnnouncesNoOther site addr) offers
  alone clean [] [] all h = tt
  alone clean [] (offer ∷ offers) all h = absurd h
  alone clean (say ∷ said) [] all h = absurd h
  alone clean (say ∷ said) (offer ∷ offers) all h = (no_other say offer all.0 h.0, alone clean said offers all.1 h.2)
