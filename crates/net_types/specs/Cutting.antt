-- The parts of a text: a word in front, what stands round a separator, a list of parts, a choice.
use Rattle.std.specs.Prelude.{◌≡◌, ◌≢◌, ℕ, ◌+◌, Bool, true, false, ◌&&◌, List, [], ◌∷◌, length, take, drop, map, Option, Some, None, option_map, option_and_then, nat_eq, ◌==◌, if◌then◌else◌}
use Rattle.std.specs.List.{starts_with, position, list_all, slice_split, join_with_byte, AllByRecursion}

infixl 10 ◌>>=◌
abbrev pub ◌>>=◌ : {A B : Type 0} → Option A → (A → Option B) → Option B
o >>= f = option_and_then f o

-- the text after a word that it begins with
unfoldable pub strip_word : List ℕ → List ℕ → Option (List ℕ)
strip_word word text = if starts_with nat_eq text word then Some (drop (length word) text) else None

-- what stands before and after the first separator
unfoldable pub split_at_byte : ℕ → List ℕ → Option (List ℕ × List ℕ)
split_at_byte separator text =
    option_map (λ i. (take i text, drop (i + 1) text)) (position (λ b. b == separator) text)

-- a word, and then what is read
abbrev pub after_word : {X : Type 0} → List ℕ → (List ℕ → Option X) → List ℕ → Option X
after_word word read text = strip_word word text >>= read

-- what is read before the first separator, and the text after it
abbrev pub field_at : {X : Type 0} → ℕ → (List ℕ → Option X) → List ℕ → Option (X × List ℕ)
field_at separator read text = do
  parts ← split_at_byte separator text
  x ← read parts.0
  Some (x, parts.1)

-- two parts, read on both sides of the first separator
abbrev pub pair_at : {X Y : Type 0} → ℕ → (List ℕ → Option X) → (List ℕ → Option Y) → List ℕ → Option (X × Y)
pair_at separator read_x read_y text = do
  field ← field_at separator read_x text
  y ← read_y field.1
  Some (field.0, y)

-- nothing more
unfoldable pub end_at : List ℕ → Option (Unit {0})
end_at text = if length text == 0 then Some tt else None

-- by the first word: one reading after this word, and another where the text begins otherwise
abbrev pub by_word : {X : Type 0} → Option (List ℕ) → (List ℕ → Option X) → Option X → Option X
by_word (Some rest) read other = read rest
by_word None read other = other

abbrev pub choice_at : {X : Type 0} → List ℕ → (List ℕ → Option X) → (List ℕ → Option X) → List ℕ → Option X
choice_at word read other text = by_word (strip_word word text) read (other text)

-- words, and what is read after each
abbrev pub Choices : Type 0 → Type 0
Choices X = List (List ℕ × (List ℕ → Option X))

abbrev pub choose_at : {X : Type 0} → Choices X → List ℕ → Option X
choose_at [] text = None
choose_at (choice ∷ choices) text = by_word (strip_word choice.0 text) choice.1 (choose_at choices text)

-- the words differ at some place, so that neither begins the other
abbrev pub differ : List ℕ → List ℕ → Bool
differ [] other = false
differ (a ∷ as') [] = false
differ (a ∷ as') (b ∷ bs) = if a == b then differ as' bs else true

-- each two words of the choices differ
abbrev pub all_differ : {X : Type 0} → Choices X → Bool
all_differ [] = true
all_differ (choice ∷ choices) =
    list_all (λ other. differ choice.0 other.0) choices && all_differ choices

-- only what passes the test
abbrev pub guarded : {X : Type 0} → (X → Bool) → Option X → Option X
guarded test None = None
guarded test (Some x) = if test x then Some x else None

-- each part is read
abbrev pub read_all : {X : Type 0} → (List ℕ → Option X) → List (List ℕ) → Option (List X)
read_all read [] = Some []
read_all read (part ∷ parts) = do
  x ← read part
  xs ← read_all read parts
  Some (x ∷ xs)

-- one part or more, with a separator between each two
unfoldable pub list_at : {X : Type 0} → ℕ → (List ℕ → Option X) → List ℕ → Option (List X)
list_at separator read text = read_all read (slice_split (λ b. b == separator) text)

unfoldable pub list_text : {X : Type 0} → ℕ → (X → List ℕ) → List X → List ℕ
list_text separator text_of xs = join_with_byte separator (map text_of xs)

pub record FitsList {X : Type 0} (Fits : X → Type 0) (xs : List X) : Type 0 where
  pub some : xs ≢ []
  pub each : AllByRecursion Fits xs

-- what stood in bytes still stands in front of what is there
abbrev pub StandsInFront : List ℕ → List ℕ → Type 0
StandsInFront before after = take (length before) after ≡ before
