-- What is heard was spelled so.
use Rattle.std.specs.Prelude.{IfSome, if◌then◌else◌}
use Rattle.std.proofs.Common.{◌≡◌, ℕ, ◌+◌, ◌≤◌, Bool, true, false, nat_lt, List, [], ◌∷◌, ◌++◌, length, get_or, take, drop, Some, None, refl, sym, ap, ◌∙◌, append_assoc, arith}
use Rattle.std.proofs.lemmas.Bool.{ltb-false, leb-true, eqb-true, and_parts}
use Rattle.std.proofs.lemmas.List.{take-append-drop, drop-drop, length-take, length-drop, get_or-drop}
use Rattle.std.proofs.lemmas.Nat.{be_bytes_2, be_bytes_4}
use Rattle.net_types.specs.Marks.{AreBytes}
use Rattle.net_types.proofs.Checksum.{take_bytes, drop_bytes}
use Rattle.frame_link.specs.declared.arp.ArpView.{ArpView}
use Rattle.frame_link.specs.Fields.{cut, word_in, ip4_in, mac_in, word_text, ip4_text}
use Rattle.frame_link.specs.Frames.{said, frame_in, frame_text}
use Rattle.frame_link.specs.Packets.{is_arp, arp_in, arp_text}

-- ---- pieces

cut_bytes : (n : ℕ) (xs : List ℕ) (at : ℕ) → AreBytes xs → AreBytes (cut n xs at)
cut_bytes n xs at h = take_bytes n (drop at xs) (drop_bytes at xs h)

cut_len : (n : ℕ) (xs : List ℕ) (at : ℕ) → at + n ≤ length xs → length (cut n xs at) ≡ n
cut_len n xs at h = omega (arith, length-take n (drop at xs), length-drop at xs)

word_again : (xs : List ℕ) (at : ℕ) → AreBytes xs → at + 2 ≤ length xs → word_text (word_in xs at) ≡ cut 2 xs at
word_again xs at h long = be_bytes_2 (cut 2 xs at) (word_in xs at) (cut_len 2 xs at long) (cut_bytes 2 xs at h) refl

ip4_again : (xs : List ℕ) (at : ℕ) → AreBytes xs → at + 4 ≤ length xs → ip4_text (ip4_in xs at) ≡ cut 4 xs at
ip4_again xs at h long = be_bytes_4 (cut 4 xs at) (ip4_in xs at).number (cut_len 4 xs at long) (cut_bytes 4 xs at h) refl

word_is : (xs : List ℕ) (at n : ℕ) → AreBytes xs → at + 2 ≤ length xs → word_in xs at ≡ n → word_text n ≡ cut 2 xs at
word_is xs at n h long e = ap word_text (sym e) ∙ word_again xs at h long

two_front : (ys : List ℕ) → 2 ≤ length ys → get_or ys 0 0 ∷ get_or ys 1 0 ∷ [] ≡ take 2 ys
two_front [] h = absurd (omega arith)
two_front (a ∷ []) h = absurd (omega arith)
two_front (a ∷ b ∷ rest) h = refl

two_cells : (xs : List ℕ) (at a b : ℕ) → at + 2 ≤ length xs → get_or xs (at + 0) 0 ≡ a → get_or xs (at + 1) 0 ≡ b → a ∷ b ∷ [] ≡ cut 2 xs at
two_cells xs at a b long ea eb =
    let first : get_or (drop at xs) 0 0 ≡ a = get_or-drop at xs 0 0 ∙ ea in
    let second : get_or (drop at xs) 1 0 ≡ b = get_or-drop at xs 1 0 ∙ eb in
    rw (← first, ← second) (two_front (drop at xs) (omega (arith, length-drop at xs)))

-- a piece and what follows it
next : (n : ℕ) (xs : List ℕ) (at : ℕ) → cut n xs at ++ drop (at + n) xs ≡ drop at xs
next n xs at = ap (λ rest. cut n xs at ++ rest) (sym (drop-drop n at xs)) ∙ take-append-drop n (drop at xs)

-- ---- frames

four : (a b c d : List ℕ) → a ++ b ++ c ++ d ≡ a ++ (b ++ (c ++ d))
four a b c d = simp append_assoc

whole_frame : (b : List ℕ) → AreBytes b → 14 ≤ length b → frame_text (said (mac_in b 0) (mac_in b 6) (word_in b 12) (drop 14 b)) ≡ b
whole_frame b h long =
    ap (λ w. cut 6 b 0 ++ cut 6 b 6 ++ w ++ drop 14 b) (word_again b 12 h (omega arith)) ∙ four (cut 6 b 0) (cut 6 b 6) (cut 2 b 12) (drop 14 b)
    ∙ ap (λ t. cut 6 b 0 ++ (cut 6 b 6 ++ t)) (next 2 b 12) ∙ ap (λ t. cut 6 b 0 ++ t) (next 6 b 6) ∙ next 6 b 0

if_not : {A : Type 0} (t : Bool) (x : A) (P : A → Type 0) → (t ≡ false → P x) → IfSome (if t then None else Some x) P
if_not true x P h = tt
if_not false x P h = h refl

pub frame_spelled : (b : List ℕ) → AreBytes b → IfSome (frame_in b) (λ f. b ≡ frame_text f)
unfolding frame_in
frame_spelled b h =
    if_not (nat_lt (length b) 14) (said (mac_in b 0) (mac_in b 6) (word_in b 12) (drop 14 b)) (λ f. b ≡ frame_text f)
    (λ t. sym (whole_frame b h (ltb-false (length b) 14 t)))

-- ---- packets

nine : (a b c d e f g h i : List ℕ) → a ++ b ++ c ++ d ++ e ++ f ++ g ++ h ++ i ≡ a ++ (b ++ (c ++ (d ++ (e ++ (f ++ (g ++ (h ++ i)))))))
nine a b c d e f g h i = simp append_assoc

eight_cuts : (b : List ℕ)
    → cut 2 b 0 ++ (cut 2 b 2 ++ (cut 2 b 4 ++ (cut 2 b 6 ++ (cut 6 b 8 ++ (cut 4 b 14 ++ (cut 6 b 18 ++ (cut 4 b 24 ++ drop 28 b))))))) ≡ b
eight_cuts b = rw (next 4 b 24, next 6 b 18, next 4 b 14, next 6 b 8, next 2 b 6, next 2 b 4, next 2 b 2) (next 2 b 0)

abbrev heard_arp : List ℕ → ArpView
heard_arp b = record { op = word_in b 6; sender_mac = mac_in b 8; sender = ip4_in b 14; target = ip4_in b 24 }

whole_packet : (b : List ℕ) → AreBytes b → is_arp b ≡ true → arp_text (heard_arp b) (mac_in b 18) ++ drop 28 b ≡ b
whole_packet b h test =
    let p5 = and_parts _ _ test in
    let p4 = and_parts _ _ p5.0 in
    let p3 = and_parts _ _ p4.0 in
    let p2 = and_parts _ _ p3.0 in
    let p1 = and_parts _ _ p2.0 in
    let long : 28 ≤ length b = leb-true 28 (length b) p1.0 in
    let hardware = word_is b 0 1 h (omega arith) (eqb-true _ _ p1.1) in
    let protocol = word_is b 2 0x0800 h (omega arith) (eqb-true _ _ p2.1) in
    let lengths = two_cells b 4 6 4 (omega arith) (eqb-true _ _ p3.1) (eqb-true _ _ p4.1) in
    let op = word_again b 6 h (omega arith) in
    let sender = ip4_again b 14 h (omega arith) in
    let target = ip4_again b 24 h (omega arith) in
    nine (word_text 1) (word_text 0x0800) (6 ∷ 4 ∷ []) (word_text (word_in b 6)) (cut 6 b 8) (ip4_text (ip4_in b 14)) (cut 6 b 18) (ip4_text (ip4_in b 24))
    (drop 28 b)
    ∙ ap
    (λ t. t
    ++
    (word_text 0x0800
    ++
    ((6 ∷ 4 ∷ [])
    ++ (word_text (word_in b 6) ++ (cut 6 b 8 ++ (ip4_text (ip4_in b 14) ++ (cut 6 b 18 ++ (ip4_text (ip4_in b 24) ++ drop 28 b))))))))
    hardware
    ∙ ap
    (λ t. cut 2 b 0
    ++
    (t
    ++
    ((6 ∷ 4 ∷ [])
    ++ (word_text (word_in b 6) ++ (cut 6 b 8 ++ (ip4_text (ip4_in b 14) ++ (cut 6 b 18 ++ (ip4_text (ip4_in b 24) ++ drop 28 b))))))))
    protocol
    ∙ ap
    (λ t. cut 2 b 0
    ++
    (cut 2 b 2
    ++ (t ++ (word_text (word_in b 6) ++ (cut 6 b 8 ++ (ip4_text (ip4_in b 14) ++ (cut 6 b 18 ++ (ip4_text (ip4_in b 24) ++ drop 28 b))))))))
    lengths
    ∙ ap
    (λ t. cut 2 b 0
    ++ (cut 2 b 2 ++ (cut 2 b 4 ++ (t ++ (cut 6 b 8 ++ (ip4_text (ip4_in b 14) ++ (cut 6 b 18 ++ (ip4_text (ip4_in b 24) ++ drop 28 b))))))))
    op
    ∙ ap (λ t. cut 2 b 0 ++ (cut 2 b 2 ++ (cut 2 b 4 ++ (cut 2 b 6 ++ (cut 6 b 8 ++ (t ++ (cut 6 b 18 ++ (ip4_text (ip4_in b 24) ++ drop 28 b)))))))) sender
    ∙ ap (λ t. cut 2 b 0 ++ (cut 2 b 2 ++ (cut 2 b 4 ++ (cut 2 b 6 ++ (cut 6 b 8 ++ (cut 4 b 14 ++ (cut 6 b 18 ++ (t ++ drop 28 b)))))))) target
    ∙ eight_cuts b

if_so : {A : Type 0} (t : Bool) (x : A) (P : A → Type 0) → (t ≡ true → P x) → IfSome (if t then Some x else None) P
if_so true x P h = h refl
if_so false x P h = tt

pub packet_spelled : (b : List ℕ) → AreBytes b → IfSome (arp_in b) (λ a. b ≡ arp_text a (mac_in b 18) ++ drop 28 b)
unfolding arp_in
packet_spelled b h =
    if_so (is_arp b) (heard_arp b) (λ a. b ≡ arp_text a (mac_in b 18) ++ drop 28 b) (λ t. sym (whole_packet b h t))
