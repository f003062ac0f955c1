-- Numbers of the wire, by the laws of `byteorder`: one of sixteen bytes is read back from them, and bytes make no number
-- that its width doesn't hold.
use Rattle.std.proofs.Common.{◌≡◌, ℕ, ◌<◌, ◌^◌, List, [], arith}
use Rattle.std.specs.Int.{w32, w128, from_be_bytes, to_be_bytes}
use Rattle.byteorder.specs.Numbers.{big_from-lt, big_number-reads_back}
use Rattle.net_types.specs.Marks.{AreBytes}

pub wide_back : (n : ℕ) → n < 2 ^ 128 → from_be_bytes w128 (to_be_bytes w128 n) ≡ n
wide_back n fits = omega (arith, big_number-reads_back 16 n [] fits)

pub four_bytes_fit : (bytes : List ℕ) → AreBytes bytes → from_be_bytes w32 bytes < 2 ^ 32
four_bytes_fit bytes range = omega (arith, big_from-lt 0 4 bytes range)

pub sixteen_bytes_fit : (bytes : List ℕ) → AreBytes bytes → from_be_bytes w128 bytes < 2 ^ 128
sixteen_bytes_fit bytes range = omega (arith, big_from-lt 0 16 bytes range)
