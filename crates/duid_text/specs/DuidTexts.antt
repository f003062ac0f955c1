-- The text of the DUID of a host, and the DUID of a hardware address (RFC 8415, section 11).
use Rattle.std.specs.Prelude.{ℕ, List, [], ◌∷◌, ◌++◌, Option, Some, None, bytes_eq, if◌then◌else◌}
use Rattle.std.specs.Option.{option_map, option_and_then}
use Rattle.net_types.specs.declared.address.Mac.{Mac}
use Rattle.net_types.specs.HexText.{byte_hex, hex_byte_at}
use Rattle.v6_options.specs.Duids.{duid_in}

-- ---- the text: pairs of digits with colons between them, and a line feed

abbrev pub duid_text : List ℕ → List ℕ
duid_text [] = []
duid_text (byte ∷ []) = byte_hex byte ++ 10 ∷ []
duid_text (byte ∷ bytes) = byte_hex byte ++ 58 ∷ duid_text bytes

-- ---- what a text spells

abbrev pub with_byte : Option ℕ → Option (List ℕ) → Option (List ℕ)
with_byte None bytes = None
with_byte (Some byte) bytes = option_map (λ bs. byte ∷ bs) bytes

-- pairs of digits, each with one byte after it
abbrev pub pairs_in : List ℕ → Option (List ℕ)
pairs_in [] = Some []
pairs_in (a ∷ []) = None
pairs_in (a ∷ b ∷ []) = None
pairs_in (a ∷ b ∷ mark ∷ rest) = with_byte (hex_byte_at (a ∷ b ∷ [])) (pairs_in rest)

abbrev pub if_text_of : (text bytes : List ℕ) → Option (List ℕ)
if_text_of text bytes = if bytes_eq text (duid_text bytes) then duid_in bytes else None

-- the bytes of the DUID whose text this is
unfoldable pub duid_spelled : (text : List ℕ) → Option (List ℕ)
duid_spelled text = option_and_then (if_text_of text) (pairs_in text)

-- ---- the DUID of a hardware address (DUID-LL, section 11.4): its type, the hardware type of Ethernet, and the address

abbrev pub link_layer_duid : Mac → List ℕ
link_layer_duid mac = 0 ∷ 3 ∷ 0 ∷ 1 ∷ mac.bytes
