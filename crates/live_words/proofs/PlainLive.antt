-- Words that are looked at before a parse: whether they begin with `live`, and whether one looks like an option.
use Rattle.std.proofs.Common.{◌≡◌, Bool, true, false, ◌&&◌, ◌||◌, not, cond, List, ℕ, [], ◌∷◌, map, option_and_then, option_map, Option, None, IfOk, Result, refl, sym, ap, ap₂, ◌∙◌, codes}
use Rattle.std.specs.Prelude.{String}
use Rattle.std.specs.Global.{Global}
use Rattle.std.specs.List.{list_any}
use Rattle.std.specs.String.{string_bytes}
use Rattle.std.proofs.lemmas.Result.{IfOk-weaker}
use Rattle.std.proofs.lemmas.Slice.Eq.{bytes_eq-Decides}
use Rattle.live_words.specs.declared.reading.LiveWords.{LiveWords}
use Rattle.live_words.specs.LiveWords.{BeginsLive}
use Rattle.live_words.specs.LiveReading.{Said, is_live, is_option, live_at, places_at, said_at, said_of}

any_held : (words : List (String Global)) → list_any (λ word. is_option (string_bytes word)) words ≡ list_any is_option (map string_bytes words)
any_held [] = refl
any_held (word ∷ words) = ap (λ b. is_option (string_bytes word) || b) (any_held words)

and_false : (b : Bool) → (b && false) ≡ false
and_false true = refl
and_false false = refl

abbrev read_where : List (List ℕ) → Bool → Option Said
read_where words plain = cond plain (option_and_then said_at (places_at words)) None

pub other_words : (words : List (List ℕ)) → is_live words ≡ false → None ≡ live_at words
unfolding live_at
other_words words other = sym (ap (λ b. read_where words (b && not (list_any is_option words))) other)

pub with_options : (words : List (String Global)) → list_any (λ word. is_option (string_bytes word)) words ≡ true → None ≡ live_at (map string_bytes words)
unfolding live_at
with_options words some =
    let all = map string_bytes words in
    let is : list_any is_option all ≡ true = sym (any_held words) ∙ some in
    sym (ap (λ b. read_where all (is_live all && not b)) is ∙ ap (read_where all) (and_false (is_live all)))

pub held_plain : (words : List (String Global)) → list_any (λ word. is_option (string_bytes word)) words ≡ false
    → list_any is_option (map string_bytes words) ≡ false
held_plain words none = sym (any_held words) ∙ none

pub plain_said : {E : Type 0} (words : List (String Global)) (result : Result (Option LiveWords) E) → is_live (map string_bytes words) ≡ true
    → list_any (λ word. is_option (string_bytes word)) words ≡ false
    → IfOk result (λ found. option_map said_of found ≡ option_and_then said_at (places_at (map string_bytes words)))
    → IfOk result (λ found. option_map said_of found ≡ live_at (map string_bytes words))
unfolding live_at
plain_said words result live none read =
    let all = map string_bytes words in
    IfOk-weaker result _ _ (λ found is. is ∙ sym (ap₂ (λ a b. read_where all (a && not b)) live (held_plain words none))) read

pub begins : (words : List (List ℕ)) → is_live words ≡ true → BeginsLive words
begins [] live = cc
begins (work ∷ words) live = (words, ap (λ (w : List ℕ). w ∷ words) ((bytes_eq-Decides work (codes "live")).0 live))

-- which words are those of a plain life
pub ruleset plain_lives = (other_words, with_options, held_plain, plain_said, begins)
