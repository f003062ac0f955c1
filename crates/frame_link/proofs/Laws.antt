-- What is spelled is heard as what was said.
use Rattle.std.proofs.Common.{◌≡◌, ℕ, zero, suc, ◌≤◌, nat_lt, nat_le, true, false, ◌<◌, ◌^◌, ◌⊎◌, inl, inr, List, [], ◌++◌, length, Some, refl, sym, subst, arith}
use Rattle.std.proofs.lemmas.Bool.{le-ltb, le-leb}
use Rattle.std.proofs.lemmas.Nat.{from_be_bytes-to_be_bytes_2, from_be_bytes-to_be_bytes_4}
use Rattle.std.proofs.lemmas.List.{append-nil}
use Rattle.net_types.specs.declared.address.Ip4.{Ip4}
use Rattle.net_types.specs.declared.address.Mac.{Mac}
use Rattle.frame_link.specs.declared.arp.ArpView.{ArpView}
use Rattle.frame_link.specs.Frames.{Frame, frame_in, frame_text}
use Rattle.frame_link.specs.Packets.{arp_in, arp_text, request, no_mac}
use Rattle.frame_link.proofs.Cells.{six, six_cells}

-- a frame with addresses of six bytes
frame_cells : (to from : List ℕ) (kind : ℕ) (body : List ℕ) → kind < 2 ^ 16
    → frame_in (frame_text (record { to = record { bytes = six to }; from = record { bytes = six from }; kind = kind; body = body }))
    ≡ Some (record { to = record { bytes = six to }; from = record { bytes = six from }; kind = kind; body = body })
unfolding frame_in
frame_cells to from kind body small =
    let long : nat_lt (suc (suc (suc (suc (suc (suc (suc (suc (suc (suc (suc (suc (suc (suc (length body))))))))))))))) 14 ≡ false = le-ltb _ _ (omega arith) in
    rw (long, from_be_bytes-to_be_bytes_2 kind small) refl

pub frame_heard : (said : Frame) → length said.to.bytes ≡ 6 → length said.from.bytes ≡ 6 → said.kind < 2 ^ 16
    → frame_in (frame_text said) ≡ Some said
frame_heard said to_len from_len small =
    let P : List ℕ → List ℕ → Type 0 =
    λ to from. frame_in (frame_text (record { to = record { bytes = to }; from = record { bytes = from }; kind = said.kind; body = said.body }))
    ≡ Some (record { to = record { bytes = to }; from = record { bytes = from }; kind = said.kind; body = said.body }) in
    subst (λ (to : List ℕ). P to said.from.bytes) (sym (six_cells said.to.bytes to_len))
    (subst (λ (from : List ℕ). P (six said.to.bytes) from) (sym (six_cells said.from.bytes from_len))
    (frame_cells said.to.bytes said.from.bytes said.kind said.body small))

abbrev packet : ℕ → List ℕ → ℕ → ℕ → ArpView
packet op mac sender target = record { op = op; sender_mac = record { bytes = mac }; sender = record { number = sender }; target = record { number = target } }

packet_cells : (op : ℕ) (mac target_mac : List ℕ) (sender target : ℕ) (rest : List ℕ) → (op ≡ 1) ⊎ (op ≡ 2) → sender < 2 ^ 32 → target < 2 ^ 32
    → arp_in (arp_text (packet op (six mac) sender target) (record { bytes = six target_mac }) ++ rest) ≡ Some (packet op (six mac) sender target)
unfolding arp_in
packet_cells op mac target_mac sender target rest (inl e) sender_fits target_fits =
    let long : nat_le 28
    (suc
    (suc
    (suc
    (suc
    (suc
    (suc
    (suc
    (suc
    (suc
    (suc
    (suc
    (suc
    (suc
    (suc
    (suc
    (suc
    (suc
    (suc
    (suc
    (suc
    (suc
    (suc
    (suc
    (suc
    (suc
    (suc
    (suc
    (suc
    (length
    rest)))))))))))))))))))))))))))))
    ≡ true =
    le-leb _ _ (omega arith) in
    rw (e, long, from_be_bytes-to_be_bytes_4 sender sender_fits, from_be_bytes-to_be_bytes_4 target target_fits) refl
packet_cells op mac target_mac sender target rest (inr e) sender_fits target_fits =
    let long : nat_le 28
    (suc
    (suc
    (suc
    (suc
    (suc
    (suc
    (suc
    (suc
    (suc
    (suc
    (suc
    (suc
    (suc
    (suc
    (suc
    (suc
    (suc
    (suc
    (suc
    (suc
    (suc
    (suc
    (suc
    (suc
    (suc
    (suc
    (suc
    (suc
    (length
    rest)))))))))))))))))))))))))))))
    ≡ true =
    le-leb _ _ (omega arith) in
    rw (e, long, from_be_bytes-to_be_bytes_4 sender sender_fits, from_be_bytes-to_be_bytes_4 target target_fits) refl

pub one_or_two : (n : ℕ) → 1 ≤ n → n ≤ 2 → (n ≡ 1) ⊎ (n ≡ 2)
one_or_two zero least most = absurd (omega arith)
one_or_two (suc zero) least most = inl refl
one_or_two (suc (suc zero)) least most = inr refl
one_or_two (suc (suc (suc n))) least most = absurd (omega arith)

-- a packet with whatever follows it
pub packet_heard : (said : ArpView) (target_mac : Mac) (rest : List ℕ) → (said.op ≡ 1) ⊎ (said.op ≡ 2) → length said.sender_mac.bytes ≡ 6
    → length target_mac.bytes ≡ 6
    → said.sender.number < 2 ^ 32 → said.target.number < 2 ^ 32 → arp_in (arp_text said target_mac ++ rest) ≡ Some said
packet_heard said target_mac rest op sender_len target_len sender_fits target_fits =
    let P : List ℕ → List ℕ → Type 0 =
    λ mac other. arp_in (arp_text (packet said.op mac said.sender.number said.target.number) (record { bytes = other }) ++ rest)
    ≡ Some (packet said.op mac said.sender.number said.target.number) in
    subst (λ (mac : List ℕ). P mac target_mac.bytes) (sym (six_cells said.sender_mac.bytes sender_len))
    (subst (λ (other : List ℕ). P (six said.sender_mac.bytes) other) (sym (six_cells target_mac.bytes target_len))
    (packet_cells said.op said.sender_mac.bytes target_mac.bytes said.sender.number said.target.number rest op sender_fits target_fits))

pub request_heard : (mac : Mac) (sender target : Ip4) → length mac.bytes ≡ 6 → sender.number < 2 ^ 32 → target.number < 2 ^ 32
    → arp_in (arp_text (request mac sender target) no_mac) ≡ Some (request mac sender target)
request_heard mac sender target len sender_fits target_fits =
    subst (λ (body : List ℕ). arp_in body ≡ Some (request mac sender target)) (append-nil (arp_text (request mac sender target) no_mac))
    (packet_heard (request mac sender target) no_mac [] (inl refl) len refl sender_fits target_fits)
