-- What the loop over the words of interfaces keeps.
use Rattle.std.proofs.Common.{◌≡◌, ℕ, ◌+◌, List, ◌++◌, length, map, drop, option_map}
use Rattle.std.specs.Borrow.{Bor}
use Rattle.net_types.specs.declared.interface.IfSpec.{IfSpec}
use Rattle.live_words.specs.LiveReading.{specs_at}

-- the interfaces of the words before the index, and the number of the next one
pub record SpecsSoFar (words : List (Bor (List ℕ))) (index number : ℕ) (specs : List IfSpec) : Type 0 where
  pub count : length specs ≡ index
  pub next : number ≡ index + 1
  pub whole : specs_at 1 (map (λ word. word.now) words) ≡ option_map (λ xs. specs ++ xs) (specs_at number (map (λ word. word.now) (drop index words)))
