-- The arguments of a directive, and words within a text.
use Rattle.std.specs.Prelude.{◌≡◌, ℕ, Bool, not, ◌||◌, ◌==◌, List, [], ◌∷◌, length, map, filter, Option, Some, None, if◌then◌else◌}
use Rattle.std.specs.List.{slice_split}
use Rattle.net_types.specs.Cutting.{read_all}
use Rattle.conf_words.specs.Marks.{parts_words}
use Rattle.conf_words.specs.Arguments.{Said, AreArgumentsOf}

-- these texts follow a directive
pub record HasArguments (about : List ℕ) (texts : List (List ℕ)) : Type 0 where
  pub arguments : List Said
  pub follow : AreArgumentsOf about arguments
  pub are : texts ≡ map (λ argument. argument.text) arguments

-- the only text
abbrev pub only : List (List ℕ) → Option (List ℕ)
only (text ∷ []) = Some text
only _ = None

-- one text or more, each of the form that is read
abbrev pub one_or_more : {X : Type 0} → (List ℕ → Option X) → List (List ℕ) → Option (List X)
one_or_more read texts = if length texts == 0 then None else read_all read texts

abbrev pub is_some_text : List ℕ → Bool
is_some_text text = not (length text == 0)

-- what stands between bytes that part words
abbrev pub words_in : (ℕ → Bool) → List ℕ → List (List ℕ)
words_in parts text = filter is_some_text (slice_split parts text)

abbrev pub slash : ℕ
slash = 47

abbrev pub colon : ℕ
colon = 58

abbrev pub slash_parts : List ℕ → List (List ℕ)
slash_parts text = slice_split (λ byte. byte == slash) text

abbrev pub colon_parts : List ℕ → List (List ℕ)
colon_parts text = slice_split (λ byte. byte == colon) text

abbrev pub comma : ℕ
comma = 44

-- names and codes of options are parted by commas too
abbrev pub parts_options : ℕ → Bool
parts_options byte = byte == comma || parts_words byte

-- members of a static value are parted by blanks and tabs
abbrev pub members_of : List ℕ → List (List ℕ)
members_of value = words_in parts_words value

abbrev pub options_of : List ℕ → List (List ℕ)
options_of text = words_in parts_options text
