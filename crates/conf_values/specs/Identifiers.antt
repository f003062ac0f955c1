-- What tells a client apart: the bytes of option 61 (RFC 2132, section 9.14).
use Rattle.std.specs.Prelude.{ℕ, Bool, ◌&&◌, nat_le, List, ◌∷◌, length, slice_index, Option, Some, None, option_map}
use Rattle.std.specs.Result.{result_ok}
use Rattle.hex.specs.Hex.{decode_sized}
use Rattle.net_types.specs.Cutting.{guarded, read_all}
use Rattle.conf_values.specs.declared.identifiers.TheConstants.{LEAST_PAIRS, MOST_PAIRS, TYPED_TEXT_LIMIT}
use Rattle.conf_values.specs.Words.{colon_parts}
use Rattle.conf_values.specs.Texts.{printed}

-- the byte of two hexadecimal digits in either case
abbrev pub pair : List ℕ → Option ℕ
pair digits = option_map (λ bytes. slice_index bytes 0) (result_ok (decode_sized digits 1))

abbrev pub are_enough : List ℕ → Bool
are_enough bytes = nat_le LEAST_PAIRS (length bytes) && nat_le (length bytes) MOST_PAIRS

-- two to 255 pairs of hexadecimal digits, parted by colons
abbrev pub pairs : List ℕ → Option (List ℕ)
pairs text = guarded are_enough (read_all pair (colon_parts text))

-- a text of no hardware type stands after type 0
abbrev pub typed_text : List ℕ → Option (List ℕ)
typed_text text = option_map (λ bytes. 0 ∷ bytes) (printed TYPED_TEXT_LIMIT text)

abbrev pub identifier_by : Option (List ℕ) → List ℕ → Option (List ℕ)
identifier_by (Some bytes) text = Some bytes
identifier_by None text = typed_text text

-- the bytes that pairs spell, else a text
abbrev pub identifier : List ℕ → Option (List ℕ)
identifier text = identifier_by (pairs text) text
