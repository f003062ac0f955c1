-- Forms of fields: numbers, bytes that pass a test, words; and how texts are read in part.
use Rattle.std.specs.Prelude.{ℕ, ◌<◌, Bool, List, reverse, find, decimal, bytes_eq, Option, Some, option_map, IsTrue, if◌then◌else◌}
use Rattle.net_types.specs.Cutting.{guarded, split_at_byte}
use Rattle.net_types.specs.Numbers.{number_at}
use Rattle.line_grammar.specs.FieldLaws.Fields.{Field}

-- a number below a limit
abbrev pub number_below : ℕ → Field ℕ
number_below limit = record { text = decimal; Fits = λ n. n < limit; at = number_at limit }

-- bytes that pass a test, as they are
abbrev pub bytes_that : (List ℕ → Bool) → Field (List ℕ)
bytes_that test = record {
  text = λ bytes. bytes;
  Fits = λ bytes. IsTrue (test bytes);
  at = λ text. guarded test (Some text);
}

-- values of a word each
abbrev pub one_of : {X : Type 0} → (X → List ℕ) → List X → Field X
one_of word_of all = record {
  text = word_of;
  Fits = λ x. Unit {0};
  at = λ text. find (λ x. bytes_eq text (word_of x)) all;
}

-- this word is the value, and any other text is read otherwise
abbrev pub told : {X : Type 0} → List ℕ → X → (List ℕ → Option X) → List ℕ → Option X
told word x other text = if bytes_eq text word then Some x else other text

-- only the printed text of what is read
abbrev pub printed : {X : Type 0} → (X → List ℕ) → (List ℕ → Option X) → List ℕ → Option X
printed text_of read text = guarded (λ x. bytes_eq text (text_of x)) (read text)

-- what stands before and after the last separator
unfoldable pub split_at_last : ℕ → List ℕ → Option (List ℕ × List ℕ)
split_at_last separator text = option_map (λ p. (reverse p.1, reverse p.0)) (split_at_byte separator (reverse text))
