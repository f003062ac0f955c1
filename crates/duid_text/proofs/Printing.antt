-- The text of a DUID, one byte after another.
use Rattle.std.proofs.Common.{◌≡◌, ℕ, ◌-◌, ◌≤◌, suc, length, take, drop, slice_index, List, [], ◌∷◌, ◌++◌, refl, arith, ap, flat_map}
use Rattle.std.proofs.Math.Seq.{take-length}
use Rattle.std.proofs.lemmas.List.{take_all}
use Rattle.net_types.specs.HexText.{byte_hex, hex_text}
use Rattle.net_types.proofs.HexLaws.{hex_text_some}
use Rattle.duid_text.specs.DuidTexts.{duid_text}

-- a byte that isn't the first
abbrev pub colon_hex : ℕ → List ℕ
colon_hex byte = 58 ∷ byte_hex byte

pub one_byte : (byte : ℕ) → hex_text (byte ∷ []) ≡ byte_hex byte
one_byte byte = hex_text_some byte []

pub text_parts : (first : ℕ) (rest : List ℕ) → byte_hex first ++ (flat_map colon_hex rest ++ 10 ∷ []) ≡ duid_text (first ∷ rest)
text_parts first [] = refl
text_parts first (second ∷ rest) = ap (λ r. byte_hex first ++ 58 ∷ r) (text_parts second rest)

pub text_of_parts : (bytes : List ℕ) (i : ℕ) → 1 ≤ length bytes → length bytes - 1 ≤ i
    → (byte_hex (slice_index bytes 0) ++ flat_map colon_hex (take i (take (length bytes - 1) (drop 1 bytes)))) ++ 10 ∷ [] ≡ duid_text bytes
text_of_parts [] i some long = absurd (omega arith)
text_of_parts (first ∷ rest) i some long =
    let left : suc (length rest) - 1 ≡ length rest = omega arith in
    let end : length rest ≤ i = omega arith in
    rw (left, take-length rest, take_all i rest end) (text_parts first rest)
