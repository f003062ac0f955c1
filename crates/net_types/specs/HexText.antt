-- Bytes as pairs of lower-case hexadecimal digits.
use Rattle.std.specs.Prelude.{ℕ, ◌+◌, ◌*◌, ◌-◌, ◌/◌, ◌%◌, Bool, not, List, [], ◌∷◌, ◌==◌, length, Option, Some, None, codes, bytes_eq, if◌then◌else◌, flat_map}
use Rattle.std.specs.Char.{digit_char, is_ascii_uppercase}
use Rattle.std.specs.Int.{is_in_range}
use Rattle.std.specs.List.{list_all}
use Rattle.net_types.specs.Cutting.{◌>>=◌}

-- one byte
abbrev pub byte_hex : ℕ → List ℕ
byte_hex b = digit_char (b / 16) ∷ digit_char (b % 16) ∷ []

-- bytes, with `-` for none
unfoldable pub hex_text : List ℕ → List ℕ
hex_text bytes = if length bytes == 0 then codes "-" else flat_map byte_hex bytes

unfoldable pub hex_digit_at : ℕ → Option ℕ
hex_digit_at c =
    if is_in_range 48 57 c then Some (c - 48)
    else (if is_in_range 97 102 c then Some (c - 87) else None)

unfoldable pub hex_byte_at : List ℕ → Option ℕ
hex_byte_at (a ∷ b ∷ []) = do
  high ← hex_digit_at a
  low ← hex_digit_at b
  Some (high * 16 + low)
hex_byte_at _ = None

-- the spelling that is read: none of the letters is a capital
abbrev pub lacks_capitals : List ℕ → Bool
lacks_capitals text = list_all (λ c. not (is_ascii_uppercase c)) text

-- pairs up to the end
abbrev pub pairs_at : List ℕ → Option (List ℕ)
pairs_at [] = Some []
pairs_at (a ∷ []) = None
pairs_at (a ∷ b ∷ rest) = do
  byte ← hex_byte_at (a ∷ b ∷ [])
  bytes ← pairs_at rest
  Some (byte ∷ bytes)

unfoldable pub hex_at : List ℕ → Option (List ℕ)
hex_at text =
    if length text == 0 then None
    else (if bytes_eq text (codes "-") then Some [] else pairs_at text)
