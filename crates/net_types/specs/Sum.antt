-- The Internet checksum (RFC 1071): the complement of the one's complement sum of 16-bit words in network order.
-- Where the number of bytes is odd, 0 stands for the low byte of the last word.
use Rattle.std.specs.Prelude.{◌≡◌, ℕ, ◌+◌, ◌-◌, ◌*◌, ◌%◌, List, [], ◌∷◌, length, nat_lt, ◌==◌, if◌then◌else◌}
use Rattle.net_types.specs.declared.sum.Sum.{Sum}
use Rattle.net_types.specs.Marks.{AreBytes}

-- the carry comes back in at the right
abbrev pub ones_add : ℕ → ℕ → ℕ
ones_add a b = if nat_lt (a + b) 65536 then a + b else a + b - 65535

abbrev pub ones_sum : List ℕ → ℕ
ones_sum [] = 0
ones_sum (high ∷ []) = 256 * high
ones_sum (high ∷ low ∷ rest) = ones_add (256 * high + low) (ones_sum rest)

abbrev pub checksum : List ℕ → ℕ
checksum bytes = 65535 - ones_sum bytes

-- all carries of a plain sum come back in: 0 stays 0, and another multiple of 65535 has all bits set
abbrev pub ones_fold : ℕ → ℕ
ones_fold n = if n == 0 then 0 else (n - 1) % 65535 + 1

abbrev pub plain_sum : List ℕ → ℕ
plain_sum [] = 0
plain_sum (high ∷ []) = 256 * high
plain_sum (high ∷ low ∷ rest) = 256 * high + low + plain_sum rest

-- what a sum has added so far
pub record IsSumOf (sum : Sum) (bytes : List ℕ) : Type 0 where
  pub range : AreBytes bytes
  pub total : sum.total ≡ ones_sum bytes
  pub odd : sum.odd ≡ (length bytes % 2 == 1)
