-- The words of lines.
use Rattle.std.proofs.Common.{◌≡◌, ℕ, Bool, true, false, cond, List, [], ◌∷◌, ◌++◌, Option, Some, None, refl, ap, ◌∙◌, subst, codes}
use Rattle.std.specs.List.{AllByRecursion}
use Rattle.std.proofs.lemmas.Option.{none-some}
use Rattle.net_types.specs.Cutting.{strip_word, by_word, Choices, choose_at}
use Rattle.net_types.specs.TextLines.{Line}
use Rattle.net_types.proofs.ReadsLaws.{some_same, strip_sound}
use Rattle.script_lines.specs.declared.words.Word.{Word}
use Rattle.script_lines.specs.declared.words.Word.TheVariants.{Head, Conf, Interface, Row, File, Fail, Hook, Start, Turn, Crash}
use Rattle.script_lines.specs.Words.{word_text, Known, is_word_end, whole_word, words, word_at}

-- ---- a line is its word and what follows it

whole_by : (word : Word) (rest : List ℕ) (known : Known) (b : Bool) → cond b (Some (word, rest)) None ≡ Some known → (word, rest) ≡ known
whole_by word rest known true e = some_same e
whole_by word rest known false e = absurd (none-some known e)

abbrev IsOf : List ℕ → (List ℕ → Option Known) → Type 0
IsOf word read = (rest : List ℕ) (known : Known) → read rest ≡ Some known → word ++ rest ≡ word_text known.0 ++ known.1

whole_is : (word : Word) → IsOf (word_text word) (whole_word word)
whole_is word rest known e = ap (λ (k : Known). word_text k.0 ++ k.1) (whole_by word rest known (is_word_end rest) e)

conf_is : IsOf (word_text Conf) (λ rest. Some (Conf, rest))
conf_is rest known e = ap (λ (k : Known). word_text k.0 ++ k.1) (some_same e)

choose_is : (choices : Choices Known) (line : Line) (known : Known) → AllByRecursion (λ c. IsOf c.0 c.1) choices → choose_at choices line ≡ Some known
    → line ≡ word_text known.0 ++ known.1
choose_is [] line known are e = absurd (none-some known e)
choose_is (choice ∷ choices) line known are e = by (choose_is choices line known are.1) (strip_word choice.0 line) refl e
  where
    by : (choose_at choices line ≡ Some known → line ≡ word_text known.0 ++ known.1) → (o : Option (List ℕ)) → strip_word choice.0 line ≡ o
        → by_word o choice.1 (choose_at choices line) ≡ Some known → line ≡ word_text known.0 ++ known.1
    by later None was q = later q
    by later (Some rest) was q = strip_sound choice.0 line rest was ∙ are.0 rest known q

pub word_is : (line : Line) (known : Known) → word_at line ≡ Some known → line ≡ word_text known.0 ++ known.1
unfolding word_at
word_is line known e =
    choose_is words line known (
      whole_is Turn,
      (
        conf_is,
        (whole_is Interface, (whole_is Row, (whole_is File, (whole_is Fail, (whole_is Hook, (whole_is Start, (whole_is Crash, (whole_is Head, tt)))))))),
      ),
    )
    e

-- ---- a line that begins with a word has it, or none

abbrev HasWord : Word → Option Known → Type 0
HasWord word None = Unit {0}
HasWord word (Some known) = known.0 ≡ word

ended_word : (word : Word) (b : Bool) (rest : List ℕ) → HasWord word (cond b (Some (word, rest)) None)
ended_word word true rest = refl
ended_word word false rest = tt

has_word : (word : Word) (rest : List ℕ) → HasWord word (word_at (word_text word ++ rest))
unfolding word_at strip_word
has_word Head rest = ended_word Head (is_word_end rest) rest
has_word Conf rest = refl
has_word Interface rest = ended_word Interface (is_word_end rest) rest
has_word Row rest = ended_word Row (is_word_end rest) rest
has_word File rest = ended_word File (is_word_end rest) rest
has_word Fail rest = ended_word Fail (is_word_end rest) rest
has_word Hook rest = ended_word Hook (is_word_end rest) rest
has_word Start rest = ended_word Start (is_word_end rest) rest
has_word Turn rest = ended_word Turn (is_word_end rest) rest
has_word Crash rest = ended_word Crash (is_word_end rest) rest

pub word_begins : (word : Word) (rest : List ℕ) (known : Known) → word_at (word_text word ++ rest) ≡ Some known → known.0 ≡ word
word_begins word rest known e = subst (HasWord word) e (has_word word rest)

-- ---- the word of a line that is written

pub blank_word : (word : Word) (said : List ℕ) → word_at (word_text word ++ 32 ∷ said) ≡ Some (word, 32 ∷ said)
unfolding word_at strip_word
blank_word Head said = refl
blank_word Conf said = refl
blank_word Interface said = refl
blank_word Row said = refl
blank_word File said = refl
blank_word Fail said = refl
blank_word Hook said = refl
blank_word Start said = refl
blank_word Turn said = refl
blank_word Crash said = refl

pub conf_word : (text : List ℕ) → word_at (codes "c:" ++ text) ≡ Some (Conf, text)
unfolding word_at strip_word
conf_word text = refl
