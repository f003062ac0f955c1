-- Which interfaces a word names: one by its name, or all whose names begin as the word does before its last `*`.
use Rattle.std.specs.Prelude.{ℕ, ◌-◌, ◌==◌, List, [], ◌∷◌, length, take, slice_index, Option, Some, option_map, if◌then◌else◌}
use Rattle.net_types.specs.NameText.{name_at}
use Rattle.conf_values.specs.declared.patterns.Pattern.{Pattern}
use Rattle.conf_values.specs.declared.patterns.Pattern.TheVariants.{Exactly, Any, Beginning}

abbrev pub star : ℕ
star = 42

-- a beginning of a name is nothing or a name
abbrev pub beginning : List ℕ → Option Pattern
beginning [] = Some Any
beginning (byte ∷ bytes) = option_map Beginning (name_at (byte ∷ bytes))

abbrev pub pattern : List ℕ → Option Pattern
pattern word =
    if slice_index word (length word - 1) == star
    then beginning (take (length word - 1) word)
    else option_map Exactly (name_at word)
