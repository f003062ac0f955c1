-- How the words of the line `hook` are read: what a poll of a hook's child answers.
use Rattle.std.specs.Prelude.{ℕ, List, [], ◌∷◌, Option, Some, None, codes, option_map}
use Rattle.net_types.specs.Cutting.{end_at, Choices, choose_at}
use Rattle.net_types.specs.Numbers.{number_at}
use Rattle.world.specs.declared.hooking.Poll.{Poll}
use Rattle.world.specs.declared.hooking.Poll.TheVariants.{Running, Ended}

-- nothing more is said of it
abbrev pub lone_answer_at : Option Poll → List ℕ → Option (Option Poll)
lone_answer_at answer rest = option_map (λ none. answer) (end_at rest)

-- the status of a child that ended, a byte
abbrev pub ended_at : List ℕ → Option (Option Poll)
ended_at rest = option_map (λ status. Some (Ended status)) (number_at 256 rest)

abbrev pub answers : Choices (Option Poll)
answers =
    (codes "run", lone_answer_at (Some Running)) ∷ (codes "ended ", ended_at) ∷ (codes "failed", lone_answer_at None)
    ∷ []

unfoldable pub poll_at : List ℕ → Option (Option Poll)
poll_at text = choose_at answers text
