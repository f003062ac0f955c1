-- Fields of a frame, in network order: what stands at a place, and how a value is spelled.
use Rattle.std.specs.Prelude.{ℕ, List, take, drop}
use Rattle.std.specs.Int.{w16, w32, from_be_bytes, to_be_bytes}
use Rattle.net_types.specs.declared.address.Ip4.{Ip4}
use Rattle.net_types.specs.declared.address.Mac.{Mac}

-- the n bytes from a place on
abbrev pub cut : ℕ → List ℕ → ℕ → List ℕ
cut n bytes at = take n (drop at bytes)

abbrev pub word_in : List ℕ → ℕ → ℕ
word_in bytes at = from_be_bytes w16 (cut 2 bytes at)

abbrev pub ip4_in : List ℕ → ℕ → Ip4
ip4_in bytes at = record { number = from_be_bytes w32 (cut 4 bytes at) }

abbrev pub mac_in : List ℕ → ℕ → Mac
mac_in bytes at = record { bytes = cut 6 bytes at }

abbrev pub word_text : ℕ → List ℕ
word_text n = to_be_bytes w16 n

abbrev pub ip4_text : Ip4 → List ℕ
ip4_text ip = to_be_bytes w32 ip.number
