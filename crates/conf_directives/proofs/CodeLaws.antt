-- Codes that are taken are codes of options.
use Rattle.std.proofs.Common.{◌≡◌, ℕ, Bool, true, false, ◌&&◌, List, [], ◌∷◌, Option, Some, None, refl, ltb-true, bytes_eq, nat_lt}
use Rattle.std.specs.Prelude.{IfSome, codes, find, option_map, if◌then◌else◌}
use Rattle.std.specs.List.{AllByRecursion, cons_option, list_all}
use Rattle.std.specs.Char.{is_ascii_digit}
use Rattle.std.specs.Str.Parse.{digits_value}
use Rattle.std.proofs.lemmas.Bool.{and_from, and_parts}
use Rattle.net_types.specs.Cutting.{guarded}
use Rattle.net_types.specs.Numbers.{is_numeral, number_at}
use Rattle.conf_directives.specs.declared.names.CodeList.{CodeList}
use Rattle.conf_directives.specs.declared.names.CodeList.TheVariants.{Asked, Refused, Required}
use Rattle.conf_directives.specs.declared.option_words.OptionWord.TheVariants.{Taken, RapidCommit, Noticed}
use Rattle.v4_options.specs.declared.table.OptionRow.{OptionRow}
use Rattle.v4_options.specs.declared.table.TheConstants.{OPTIONS}
use Rattle.v4_options.specs.OptionTable.{code_named, option_name}
use Rattle.conf_directives.specs.Codes.{code_at, code_in, is_needed, name_in, number_in, option_word, other_in, taken_code}
use Rattle.conf_directives.specs.SayLaws.{CodesFit, FitsCode}

-- the bounds of codes
abbrev is_code : ℕ → Bool
is_code number = nat_lt 0 number && nat_lt number 255

found_passes : (test : OptionRow → Bool) (rows : List OptionRow) → list_all (λ row. is_code row.code) rows ≡ true
    → IfSome (option_map (λ row. row.code) (find test rows)) (λ number. is_code number ≡ true)
found_passes test [] all = tt
found_passes test (row ∷ rows) all =
    let both = and_parts _ _ all in
    elim (test row) as (λ b. IfSome (option_map (λ row. row.code) (if b then Some row else find test rows)) (λ number. is_code number ≡ true)) [
      | true ↦ both.0
      | false ↦ found_passes test rows both.1
    ]

pub number_below : (limit : ℕ) (text : List ℕ) → IfSome (number_at limit text) (λ number. nat_lt number limit ≡ true)
unfolding number_at
number_below limit text =
    elim (is_numeral text && nat_lt (digits_value 10 text) limit) as
    (λ b. (is_numeral text && nat_lt (digits_value 10 text) limit) ≡ b
    → IfSome (if b then Some (digits_value 10 text) else None) (λ number. nat_lt number limit ≡ true)) [
      | true ↦ λ e. (and_parts _ _ e).1
      | false ↦ λ e. tt
    ] refl

guarded_code : (found : Option ℕ) → IfSome found (λ number. nat_lt number 255 ≡ true)
    → IfSome (guarded (λ number. nat_lt 0 number) found) (λ number. is_code number ≡ true)
guarded_code None below = tt
guarded_code (Some number) below =
    elim (nat_lt 0 number) as (λ b. nat_lt 0 number ≡ b → IfSome (if b then Some number else None) (λ number. is_code number ≡ true)) [
      | true ↦ λ e. and_from _ _ e below
      | false ↦ λ e. tt
    ] refl

-- ---- a word

code_fits : (list : CodeList) (number : ℕ) → is_code number ≡ true → IfSome (taken_code (code_in list number)) (FitsCode list)
code_fits Asked number code =
    let both = and_parts _ _ code in
    record { past_padding = ltb-true _ _ both.0; before_end = ltb-true _ _ both.1; stands = tt }
code_fits Refused number code =
    let both = and_parts _ _ code in
    elim (is_needed number) as (λ b. is_needed number ≡ b → IfSome (taken_code (if b then Noticed else Taken number)) (FitsCode Refused)) [
      | true ↦ λ e. tt
      | false ↦ λ e. record { past_padding = ltb-true _ _ both.0; before_end = ltb-true _ _ both.1; stands = e }
    ] refl
code_fits Required number code =
    let both = and_parts _ _ code in
    record { past_padding = ltb-true _ _ both.0; before_end = ltb-true _ _ both.1; stands = tt }

number_fits : (list : CodeList) (found : Option ℕ) → IfSome found (λ number. is_code number ≡ true) → IfSome (taken_code (number_in list found)) (FitsCode list)
number_fits list None code = tt
number_fits list (Some number) code = code_fits list number code

other_fits : (list : CodeList) (word : List ℕ) → IfSome (taken_code (other_in list word)) (FitsCode list)
other_fits Asked word =
    elim (bytes_eq word (codes "rapid_commit")) as (λ b. IfSome (taken_code (if b then RapidCommit else Noticed)) (FitsCode Asked)) [
      | true ↦ tt
      | false ↦ tt
    ]
other_fits Refused word = tt
other_fits Required word = tt

name_fits : (list : CodeList) (word : List ℕ) (found : Option ℕ) → IfSome found (λ number. is_code number ≡ true)
    → IfSome (taken_code (name_in list word found)) (FitsCode list)
name_fits list word None code = other_fits list word
name_fits list word (Some number) code = code_fits list number code

named_fits : (word : List ℕ) → IfSome (code_named word) (λ number. is_code number ≡ true)
unfolding code_named
named_fits word = found_passes (λ row. bytes_eq (option_name row.code) word) OPTIONS refl

word_fits : (list : CodeList) (word : List ℕ) → IfSome (taken_code (option_word list word)) (FitsCode list)
word_fits list word =
    elim (list_all is_ascii_digit word) as
    (λ b. IfSome (taken_code (if b then number_in list (code_at word) else name_in list word (code_named word))) (FitsCode list)) [
      | true ↦ number_fits list (code_at word) (guarded_code (number_at 255 word) (number_below 255 word))
      | false ↦ name_fits list word (code_named word) (named_fits word)
    ]

-- ---- words

one_more : (list : CodeList) (found : Option ℕ) (others : List ℕ) → IfSome found (FitsCode list) → AllByRecursion (FitsCode list) others
    → AllByRecursion (FitsCode list) (cons_option found others)
one_more list None others fits all = all
one_more list (Some number) others fits all = (fits, all)

pub codes_fit : CodesFit
codes_fit list [] = tt
codes_fit list (word ∷ words) = one_more list (taken_code (option_word list word)) _ (word_fits list word) (codes_fit list words)
