-- Lengths in two bytes.
use Rattle.std.proofs.Common.{◌≡◌, ℕ, ◌/◌, ◌%◌, ◌∷◌, [], arith}
use Rattle.std.specs.Int.{byte_at}
use Rattle.frame_link.specs.Fields.{word_text}

high : (n : ℕ) → byte_at 1 (n % 65536) ≡ byte_at 1 n
high n = omega arith

low : (n : ℕ) → byte_at 0 (n % 65536) ≡ byte_at 0 n
low n = omega arith

-- two bytes have the low bits alone
pub word_wraps : (n : ℕ) → word_text (n % 65536) ≡ word_text n
word_wraps n = λ i. high n i ∷ low n i ∷ []
