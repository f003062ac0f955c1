-- Numbers of lines, from 1. What follows the last line feed counts as a line.
use Rattle.std.specs.Prelude.{ℕ, ◌+◌, ◌≤◌, ◌==◌, List, filter, length}

abbrev pub line_feeds : List ℕ → ℕ
line_feeds text = length (filter (λ b. b == 10) text)

pub record IsLineOf (text : List ℕ) (line : ℕ) : Type 0 where
  pub first : 1 ≤ line
  pub last : line ≤ line_feeds text + 1
