-- The target of an ARP request stands in its last four bytes.
use Rattle.std.proofs.Common.{◌≡◌, ℕ, ◌+◌, ◌-◌, List, [], ◌∷◌, ◌++◌, length, drop, take, refl, ◌∙◌, subst, ap, append_assoc, length-append, arith}
use Rattle.std.proofs.lemmas.Nat.{from_be_bytes-to_be_bytes_4}
use Rattle.std.specs.Int.{w32, from_be_bytes}
use Rattle.net_types.specs.declared.address.Ip4.{Ip4}
use Rattle.net_types.specs.declared.address.Mac.{Mac}
use Rattle.net_types.specs.AddressText.{FitsIp4}
use Rattle.frame_link.specs.Fields.{word_text, ip4_text}
use Rattle.frame_link.specs.Frames.{broadcast}
use Rattle.frame_link.specs.Packets.{arp_kind, no_mac, request_text}
use Rattle.probe_table.specs.Targets.{target_in}

behind : (front last : List ℕ) → drop (length front) (front ++ last) ≡ last
behind [] last = refl
behind (x ∷ front) last = behind front last

abbrev packet_head : List ℕ
packet_head = word_text 1 ++ word_text 0x0800 ++ (6 ∷ 4 ∷ []) ++ word_text 1

abbrev front_of : Mac → (sender : Ip4) → List ℕ
front_of mac sender =
    broadcast.bytes ++ ((mac.bytes ++ word_text arp_kind) ++ (packet_head ++ ((mac.bytes ++ ip4_text sender) ++ no_mac.bytes)))

bracketed : (a b c d last : List ℕ) → (a ++ (b ++ (c ++ d))) ++ last ≡ a ++ (b ++ (c ++ (d ++ last)))
bracketed a b c d last = simp append_assoc

-- a request ends with its target
pub in_two : (mac : Mac) (sender target : Ip4) → front_of mac sender ++ ip4_text target ≡ request_text mac sender target
in_two mac sender target =
    bracketed broadcast.bytes (mac.bytes ++ word_text arp_kind) packet_head ((mac.bytes ++ ip4_text sender) ++ no_mac.bytes) (ip4_text target)

abbrev number_after : List ℕ → ℕ → ℕ
number_after bytes at = from_be_bytes w32 (take 4 (drop at bytes))

long : (front : List ℕ) (addr : Ip4) → length (front ++ ip4_text addr) - 4 ≡ length front
long front addr = let sum : length (front ++ ip4_text addr) ≡ length front + length (ip4_text addr) = length-append front (ip4_text addr) in omega (arith, sum)

last_number : (front : List ℕ) (addr : Ip4) → (target_in (front ++ ip4_text addr)).number ≡ from_be_bytes w32 (ip4_text addr)
last_number front addr =
    ap (λ at. number_after (front ++ ip4_text addr) at) (long front addr) ∙ ap (λ bytes. from_be_bytes w32 (take 4 bytes)) (behind front (ip4_text addr))

pub target_bytes : (mac : Mac) (sender target : Ip4) → (target_in (request_text mac sender target)).number ≡ from_be_bytes w32 (ip4_text target)
target_bytes mac sender target =
    subst (λ bytes. (target_in bytes).number ≡ from_be_bytes w32 (ip4_text target)) (in_two mac sender target) (last_number (front_of mac sender) target)

pub target_number : (mac : Mac) (sender target : Ip4) → FitsIp4 target → (target_in (request_text mac sender target)).number ≡ target.number
target_number mac sender target fits = target_bytes mac sender target ∙ from_be_bytes-to_be_bytes_4 target.number fits

pub same_address : (a b : Ip4) → a.number ≡ b.number → a ≡ b
same_address a b e = ap (λ n. record { number = n }) e
