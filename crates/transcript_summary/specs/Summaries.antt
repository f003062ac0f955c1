-- The summary of a transcript: how many of its lines begin with each of some words.
use Rattle.std.specs.Prelude.{ℕ, ◌==◌, nat_eq, List, [], ◌∷◌, ◌++◌, length, filter, codes, decimal}
use Rattle.std.specs.List.{slice_split, starts_with}

abbrev pub line_feed : ℕ
line_feed = 10

abbrev pub lines_of : (text : List ℕ) → List (List ℕ)
lines_of text = slice_split (λ byte. byte == line_feed) text

-- how many lines begin so
abbrev pub counted : (start : List ℕ) → (lines : List (List ℕ)) → ℕ
counted start lines = length (filter (λ line. starts_with nat_eq line start) lines)

abbrev pub numbered_line : (name : List ℕ) → ℕ → List ℕ
numbered_line name number = name ++ (decimal number ++ line_feed ∷ [])

-- so many rounds were made, and so many lines of these kinds are there
unfoldable pub summary_of : (rounds : ℕ) → (lines : List (List ℕ)) → List ℕ
summary_of rounds lines =
    numbered_line (codes "make ") rounds
    ++ (numbered_line (codes "turns ") (counted (codes "turn ") lines)
    ++ (numbered_line (codes "sends ") (counted (codes "send ") lines)
    ++ (numbered_line (codes "host ") (counted (codes "host ") lines)
    ++ (numbered_line (codes "store ") (counted (codes "store ") lines)
    ++ numbered_line (codes "hold ") (counted (codes "hold ") lines)))))

abbrev pub summary : (rounds : ℕ) → (text : List ℕ) → List ℕ
summary rounds text = summary_of rounds (lines_of text)
