-- The grammar of options within options (RFC 8415, sections 21.1, 21.4, 21.6, 21.21 and 21.22).
use Rattle.std.specs.Prelude.{ℕ, ◌≡◌, ◌+◌, ◌<◌, ◌^◌, true, false, List, [], ◌∷◌, ◌++◌, length, slice_index, Some, None}
use Rattle.std.specs.Int.{w16, to_be_bytes}
use Rattle.v6_options.specs.OptionArea.{Instance, has_form}
use Rattle.v6_options.specs.Nesting.{fields_len}

abbrev pub word_text : ℕ → List ℕ
word_text n = to_be_bytes w16 n

-- an option is its code, the length of its value, and its value
abbrev pub option_text : ℕ → List ℕ → List ℕ
option_text code value = word_text code ++ word_text (length value) ++ value

abbrev pub FitsOption : ℕ → List ℕ → Type 0
FitsOption code value = (code < 2 ^ 16) × (length value < 2 ^ 16) × (has_form code value ≡ true)

-- options one after another: each has a value alone, or fixed fields and options, and others come after it
pub data OptionTree : Type 0 where
  nothing : OptionTree
  plain : ℕ → List ℕ → OptionTree → OptionTree
  holder : ℕ → List ℕ → OptionTree → OptionTree → OptionTree

abbrev pub tree_text : OptionTree → List ℕ
tree_text nothing = []
tree_text (plain code value others) = option_text code value ++ tree_text others
tree_text (holder code fields held others) = option_text code (fields ++ tree_text held) ++ tree_text others

abbrev pub FitsTree : OptionTree → Type 0
FitsTree nothing = Unit {0}
FitsTree (plain code value others) = FitsOption code value × (fields_len code ≡ None) × FitsTree others
FitsTree (holder code fields held others) =
    FitsOption code (fields ++ tree_text held) × (fields_len code ≡ Some (length fields)) × FitsTree held
    × FitsTree others

abbrev pub tree_instances : OptionTree → List Instance
tree_instances nothing = []
tree_instances (plain code value others) = (code, value) ∷ tree_instances others
tree_instances (holder code fields held others) = (code, fields ++ tree_text held) ∷ tree_instances others

-- The first option that breaks the rule stands at this place: it has no whole header, runs past what holds it, or has
-- no room for its fixed fields. What comes before it is whole, and an option goes before those that it holds.
pub data Breaks : List ℕ → ℕ → Type 0 where
  no_header : {area : List ℕ} → 0 < length area → length area < 4 → Breaks area 0
  too_long : (code len : ℕ) (rest : List ℕ) → code < 2 ^ 16 → len < 2 ^ 16 → length rest < len
      → Breaks (word_text code ++ word_text len ++ rest) 0
  no_form : (code : ℕ) (value rest : List ℕ) → code < 2 ^ 16 → length value < 2 ^ 16 → has_form code value ≡ false
      → Breaks (option_text code value ++ rest) 0
  within : {place : ℕ} (code : ℕ) (fields held rest : List ℕ) → FitsOption code (fields ++ held)
      → fields_len code ≡ Some (length fields)
      → Breaks held place → Breaks (option_text code (fields ++ held) ++ rest) (4 + length fields + place)
  behind : {rest : List ℕ} {place : ℕ} (tree : OptionTree) → FitsTree tree → Breaks rest place
      → Breaks (tree_text tree ++ rest) (length (tree_text tree) + place)

abbrev pub IsTree : List ℕ → Type 0
IsTree area = (tree : OptionTree) × (area ≡ tree_text tree) × FitsTree tree

abbrev pub IsBroken : List ℕ → Type 0
IsBroken area = (place : ℕ) × Breaks area place

abbrev pub AreBytes : List ℕ → Type 0
AreBytes bytes = (i : ℕ) → slice_index bytes i < 256
