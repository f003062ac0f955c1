use Rattle.std.proofs.Common.{◌≡◌, ◌++◌, option_map, length}
use Rattle.duid_text.specs.DuidReading.{bytes_at}
use Rattle.duid_text.proofs.duid_text.bytes_of.Given as goal

abbrev pub invariant-pairs : goal.invariant-pairs
invariant-pairs l = bytes_at l.text ≡ option_map (λ xs. l.bytes.items ++ xs) (bytes_at l.rest)

abbrev pub decreases-pairs : goal.decreases-pairs
decreases-pairs l = length l.rest
