-- Which word names what.
use Rattle.std.specs.Prelude.{ℕ, List, [], slice_index_or}

-- the word at a place, from 0; where there is none it has no bytes
abbrev pub word_at : ℕ → List (List ℕ) → List ℕ
word_at place words = slice_index_or words place []
