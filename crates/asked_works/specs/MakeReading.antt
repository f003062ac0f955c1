-- How the words of `make` are read. A law says that what is read is what the words say.
use Rattle.std.specs.Prelude.{ℕ, nat_le, List, [], ◌∷◌, Option, Some, None, bytes_eq, codes, if◌then◌else◌}
use Rattle.net_types.specs.Cutting.{guarded}
use Rattle.net_types.specs.Numbers.{number_at}
use Rattle.asked_works.specs.Words.{AsksMake}

unfoldable pub rounds_at : List ℕ → Option ℕ
rounds_at word = guarded (λ rounds. nat_le 1 rounds) (number_at 101 word)

unfoldable pub make_at : List (List ℕ) → Option ℕ
make_at (work ∷ rounds ∷ []) = if bytes_eq work (codes "make") then rounds_at rounds else None
make_at words = None

-- the rounds that the words name, or none where they are no words of `make`
abbrev pub IsMakeRead : List (List ℕ) → Option ℕ → Type 0
IsMakeRead words (Some rounds) = AsksMake words rounds
IsMakeRead words None = (rounds : ℕ) → AsksMake words rounds → ⊥
