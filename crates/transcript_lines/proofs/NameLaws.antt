-- A text lists names where each part between two blanks is one.
use Rattle.std.proofs.Common.{◌≡◌, ℕ, Bool, true, false, ◌&&◌, cond, List, [], ◌∷◌, length, Option, Some, None, option_map, option_and_then, refl, sym, ap, ◌∙◌, arith, eqb}
use Rattle.std.specs.Prelude.{is_some, unwrap_or}
use Rattle.std.specs.List.{list_all, slice_split}
use Rattle.std.proofs.lemmas.Bool.{eqb-true}
use Rattle.net_types.specs.Cutting.{guarded, list_at, read_all}
use Rattle.world.specs.FileNames.{is_file_byte}
use Rattle.script_model.specs.Lines.{Line}
use Rattle.script_model.specs.Lines as Model
use Rattle.transcript_text.specs.LineFields.{file_field, names_at}
use Rattle.transcript_lines.specs.declared.fields.ListedName.{ListedName}
use Rattle.transcript_lines.specs.Bounds.{is_told}
use Rattle.transcript_lines.specs.LineReading.{asides_at}
use Rattle.transcript_lines.specs.Names.{is_word, listed_at, name_at, names_in}

abbrev some_words : Option (List (List ℕ)) → Bool
some_words names = is_some (guarded (list_all is_word) names)

is_cond : {X : Type 0} (b : Bool) (x : X) → is_some (cond b (Some x) None) ≡ b
is_cond true x = refl
is_cond false x = refl

joined_some : (listed : Option (List ListedName)) → is_some listed ≡ is_some (option_and_then (λ (xs : List ListedName). Some (record {} ∷ xs)) listed)
joined_some None = refl
joined_some (Some names) = refl

-- a name in front, where it and those after it were read
abbrev put : Option (List ListedName) → Option ListedName → Option (List ListedName)
put listed first = option_and_then (λ x. option_and_then (λ xs. Some (x ∷ xs)) listed) first

parts_read : (parts : List (List ℕ)) → some_words (read_all file_field.at parts) ≡ is_some (read_all name_at parts)
parts_read [] = refl
parts_read (part ∷ parts) =
    with_part (list_all is_file_byte part) (is_word part) (read_all file_field.at parts) (read_all name_at parts) refl refl (parts_read parts)
  where
    with_part : (file word : Bool) (names : Option (List (List ℕ))) (listed : Option (List ListedName)) → list_all is_file_byte part ≡ file
        → is_word part ≡ word → some_words names ≡ is_some listed
        → some_words (option_and_then (λ x. option_and_then (λ xs. Some (x ∷ xs)) names) (cond file (Some part) None))
        ≡ is_some (option_and_then (λ x. option_and_then (λ xs. Some (x ∷ xs)) listed) (cond (word && file) (Some (record {})) None))
    with_part false false names listed is_file is_named later = refl
    with_part false true names listed is_file is_named later = refl
    with_part true word None None is_file is_named later =
        elim word as (λ b. false ≡ is_some (put None (cond (b && true) (Some (record {})) None))) [ true ↦ refl | false ↦ refl ]
    with_part true word None (Some others) is_file is_named later = cc
    with_part true word (Some names) listed is_file is_named later =
        is_cond (is_word part && list_all is_word names) (part ∷ names)
        ∙ ap (λ b. b && list_all is_word names) is_named
        ∙ elim word as (λ b. (b && list_all is_word names) ≡ is_some (put listed (cond (b && true) (Some (record {})) None))) [
          | true ↦ sym (is_cond (list_all is_word names) names) ∙ later ∙ joined_some listed
          | false ↦ refl
        ]

pub listed_is : (byte : ℕ) (names : List ℕ) → is_some (listed_at (byte ∷ names)) ≡ (eqb byte 32 && is_some (list_at 32 name_at names))
unfolding names_at list_at
listed_is byte names =
    let parts = slice_split (λ c. eqb c 32) names in
    elim (eqb byte 32) as (λ b. some_words (cond b (read_all file_field.at parts) None) ≡ (b && is_some (read_all name_at parts))) [
      | true ↦ parts_read parts
      | false ↦ refl
    ]

pub listed_none : (text : List ℕ) → length text ≡ 0 → true ≡ is_some (listed_at text)
unfolding names_at
listed_none [] e = refl
listed_none (byte ∷ text) e = absurd (omega (arith, e))

pub listed_more : (text names : List ℕ) (byte : ℕ) → text ≡ byte ∷ names → byte ≡ 32 → is_some (list_at 32 name_at names) ≡ is_some (listed_at text)
listed_more text names byte is blank =
    sym (ap (λ t. is_some (listed_at t)) is ∙ listed_is byte names ∙ ap (λ b. eqb b 32 && is_some (list_at 32 name_at names)) blank)

pub listed_other : (text names : List ℕ) (byte : ℕ) → text ≡ byte ∷ names → (byte ≡ 32 → ⊥) → false ≡ is_some (listed_at text)
listed_other text names byte is other =
    sym (ap (λ t. is_some (listed_at t)) is ∙ listed_is byte names ∙ ap (λ b. b && is_some (list_at 32 name_at names)) (not_same (eqb byte 32) refl))
  where
    not_same : (b : Bool) → eqb byte 32 ≡ b → eqb byte 32 ≡ false
    not_same true e = absurd (other (eqb-true byte 32 e))
    not_same false e = e

-- ---- the line

abbrev HasNames : Option (List (List ℕ)) → Option Line → Type 0
HasNames names line = is_some names ≡ true → Some (Model.Asides (unwrap_or names [])) ≡ line

of_names : (o : Option (List (List ℕ))) → is_some (guarded (list_all is_word) o) ≡ true
    → Some (Model.Asides (unwrap_or (guarded (list_all is_word) o) [])) ≡ guarded is_told (option_map Model.Asides o)
of_names None e = cc
of_names (Some names) e =
    elim (list_all is_word names) as (λ b. HasNames (cond b (Some names) None) (cond b (Some (Model.Asides names)) None)) [
      | true ↦ λ e. refl
      | false ↦ λ e. cc
    ] e

of_none : (o : Option (List (List ℕ))) → is_some (guarded (list_all is_word) o) ≡ false → None ≡ guarded is_told (option_map Model.Asides o)
of_none None e = refl
of_none (Some names) e =
    elim (list_all is_word names) as (λ b. is_some (cond b (Some names) None) ≡ false → None ≡ cond b (Some (Model.Asides names)) None) [
      | true ↦ λ e. cc
      | false ↦ λ e. refl
    ] e

pub asides_listed : (text : List ℕ) → is_some (listed_at text) ≡ true → Some (Model.Asides (names_in text)) ≡ asides_at text
asides_listed text e = of_names (names_at text) e

pub asides_bad : (text : List ℕ) → is_some (listed_at text) ≡ false → None ≡ asides_at text
asides_bad text e = of_none (names_at text) e
