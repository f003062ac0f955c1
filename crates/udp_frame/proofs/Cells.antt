-- Bytes one by one.
use Rattle.std.proofs.Common.{ℕ, zero, suc, ◌<◌, List, [], ◌∷◌, arith}
use Rattle.net_types.specs.Marks.{AreBytes}
use Rattle.net_types.specs.declared.address.Ip4.{Ip4}
use Rattle.frame_link.specs.Fields.{word_text, ip4_text}

abbrev pub AllSmall : List ℕ → Type 0
AllSmall [] = Unit {0}
AllSmall (x ∷ xs) = (x < 256) × AllSmall xs

pub all_bytes : (xs : List ℕ) → AllSmall xs → AreBytes xs
all_bytes [] h i = omega arith
all_bytes (x ∷ xs) h zero = h.0
all_bytes (x ∷ xs) h (suc i) = all_bytes xs h.1 i

pub word_bytes : (n : ℕ) → AreBytes (word_text n)
word_bytes n = all_bytes (word_text n) (omega arith, (omega arith, tt))

pub ip4_bytes : (ip : Ip4) → AreBytes (ip4_text ip)
ip4_bytes ip = all_bytes (ip4_text ip) (omega arith, (omega arith, (omega arith, (omega arith, tt))))
