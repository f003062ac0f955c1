-- A datagram as it is spelled: its length is found, and its checksum is right.
use Rattle.std.proofs.Common.{◌≡◌, ℕ, zero, suc, ◌+◌, ◌<◌, ◌≤◌, ◌^◌, ◌%◌, ◌/◌, true, nat_le, List, ◌∷◌, ◌++◌, length, Some, refl, sym, ap, ◌∙◌, append_assoc, arith}
use Rattle.std.proofs.lemmas.Bool.{le-leb}
use Rattle.std.proofs.lemmas.List.{take_at, length-append}
use Rattle.std.proofs.lemmas.Nat.{from_be_bytes-to_be_bytes_2}
use Rattle.net_types.specs.Sum.{ones_sum, checksum}
use Rattle.net_types.specs.Marks.{AreBytes}
use Rattle.net_types.proofs.Checksum.{checks, checks_ones, append_bytes}
use Rattle.frame_link.specs.Fields.{word_in, word_text}
use Rattle.udp_frame.specs.Datagrams.{datagram_in, ports_text, sent_sum, datagram_sum, datagram_text}
use Rattle.udp_frame.proofs.Cells.{word_bytes}

cut_at : (d rest : List ℕ) → word_in (d ++ rest) 4 ≡ length d → 8 ≤ length d → datagram_in (d ++ rest) ≡ Some d
unfolding datagram_in
cut_at d rest len long =
    let more = length-append d rest in
    let room : nat_le 8 (length (d ++ rest)) ≡ true = le-leb _ _ (omega arith) in
    let header : nat_le 8 (length d) ≡ true = le-leb _ _ (omega arith) in
    let within : nat_le (length d) (length (d ++ rest)) ≡ true = le-leb _ _ (omega arith) in
    rw (len, room, header, within, take_at d rest (length d) refl) refl

pub datagram_heard : (pseudo : List ℕ) (from_port to_port : ℕ) (payload rest : List ℕ) → 8 + length payload < 2 ^ 16
    → datagram_in (datagram_text pseudo from_port to_port payload ++ rest) ≡ Some (datagram_text pseudo from_port to_port payload)
datagram_heard pseudo from_port to_port payload rest small =
    let d = datagram_text pseudo from_port to_port payload in
    let whole : 8 + length payload ≡ length d = omega arith in
    let len : word_in (d ++ rest) 4 ≡ length d = from_be_bytes-to_be_bytes_2 (8 + length payload) small ∙ whole in
    cut_at d rest len (omega arith)

-- the bytes before a datagram's checksum
before : List ℕ → ℕ → ℕ → ℕ → List ℕ
before pseudo from_port to_port len = pseudo ++ (word_text from_port ++ word_text to_port ++ word_text len)

before_bytes : (pseudo : List ℕ) (from_port to_port len : ℕ) → AreBytes pseudo → AreBytes (before pseudo from_port to_port len)
unfolding before
before_bytes pseudo from_port to_port len range =
    let ports = append_bytes (word_text from_port) (word_text to_port) (word_bytes from_port) (word_bytes to_port) in
    append_bytes pseudo (word_text from_port ++ word_text to_port ++ word_text len) range
    (append_bytes (word_text from_port ++ word_text to_port) (word_text len) ports (word_bytes len))

before_even : (pseudo : List ℕ) (from_port to_port len : ℕ) → length pseudo % 2 ≡ 0 → length (before pseudo from_port to_port len) % 2 ≡ 0
unfolding before
before_even pseudo from_port to_port len even =
    let more = length-append pseudo (word_text from_port ++ word_text to_port ++ word_text len) in
    omega (arith, more, even)

sent_right : (xs ys : List ℕ) (sum : ℕ) → length xs % 2 ≡ 0 → AreBytes xs → AreBytes ys → sum ≡ checksum (xs ++ 0 ∷ 0 ∷ ys)
    → ones_sum (xs ++ sent_sum sum / 256 % 256 ∷ sent_sum sum % 256 ∷ ys) ≡ 65535
sent_right xs ys zero even hx hy e = checks_ones xs ys even hx hy (sym e)
sent_right xs ys (suc n) even hx hy e =
    let same : sent_sum (suc n) ≡ suc n = grind (arith) in
    rw same (checks xs ys (suc n) even hx hy e)

grouped : (pseudo : List ℕ) (from_port to_port len sum : ℕ) (payload : List ℕ)
    → pseudo ++ ports_text from_port to_port len sum ++ payload ≡ before pseudo from_port to_port len ++ sum / 256 % 256 ∷ sum % 256 ∷ payload
unfolding before
grouped pseudo from_port to_port len sum payload =
    append_assoc pseudo (ports_text from_port to_port len sum) payload
    ∙ sym (append_assoc pseudo (word_text from_port ++ word_text to_port ++ word_text len) (sum / 256 % 256 ∷ sum % 256 ∷ payload))

pub sum_heard : (pseudo : List ℕ) (from_port to_port len : ℕ) (payload : List ℕ) → length pseudo % 2 ≡ 0 → AreBytes pseudo → AreBytes payload
    → ones_sum (pseudo ++ ports_text from_port to_port len (datagram_sum pseudo from_port to_port len payload) ++ payload) ≡ 65535
sum_heard pseudo from_port to_port len payload even pseudo_range range =
    let sum = checksum (pseudo ++ ports_text from_port to_port len 0 ++ payload) in
    ap ones_sum (grouped pseudo from_port to_port len (sent_sum sum) payload)
    ∙ sent_right (before pseudo from_port to_port len) payload sum (before_even pseudo from_port to_port len even)
    (before_bytes pseudo from_port to_port len pseudo_range) range (ap checksum (grouped pseudo from_port to_port len 0 payload))
