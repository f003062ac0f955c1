-- Lists of words, and what they view.
use Rattle.std.proofs.Common.{◌≡◌, ℕ, Bool, true, false, not, ◌&&◌, ◌||◌, ◌==◌, cond, List, [], ◌∷◌, length, map, filter, filter_map, Option, Some, refl, ap, ◌∙◌}
use Rattle.std.proofs.lemmas.List.{length-map}
use Rattle.std.specs.List.{cons_option, list_any}
use Rattle.conf_directives.specs.declared.names.CodeList.{CodeList}
use Rattle.conf_directives.specs.Contents as contents
use Rattle.conf_directives.specs.Contents.{SaidContent}
use Rattle.conf_directives.specs.Codes.{are_right, codes_of, is_noticed, is_rapid, is_wrong, option_word, taken_code}

any_viewed : {A X : Type 0} (test : X → Bool) (view : A → X) (xs : List A) → list_any test (map view xs) ≡ list_any (λ x. test (view x)) xs
any_viewed test view [] = refl
any_viewed test view (x ∷ xs) = ap (λ b. test (view x) || b) (any_viewed test view xs)

filter_viewed : {A X : Type 0} (test : X → Bool) (view : A → X) (xs : List A) → filter test (map view xs) ≡ map view (filter (λ x. test (view x)) xs)
filter_viewed test view [] = refl
filter_viewed test view (x ∷ xs) =
    elim (test (view x)) as
    (λ b. cond b (view x ∷ filter test (map view xs)) (filter test (map view xs))
    ≡ map view (cond b (x ∷ filter (λ x. test (view x)) xs) (filter (λ x. test (view x)) xs))) [
      | true ↦ ap (λ ys. view x ∷ ys) (filter_viewed test view xs)
      | false ↦ filter_viewed test view xs
    ]

filter_map_viewed : {A X Y : Type 0} (give : X → Option Y) (view : A → X) (xs : List A) → filter_map give (map view xs) ≡ filter_map (λ x. give (view x)) xs
filter_map_viewed give view [] = refl
filter_map_viewed give view (x ∷ xs) = ap (cons_option (give (view x))) (filter_map_viewed give view xs)

pub right_viewed : {A : Type 0} (list : CodeList) (view : A → List ℕ) (xs : List A)
    → are_right list (map view xs) ≡ (not (length xs == 0) && not (list_any (λ x. is_wrong (option_word list (view x))) xs))
right_viewed list view xs =
    ap (λ n. not (n == 0) && not (list_any (λ word. is_wrong (option_word list word)) (map view xs))) (length-map xs view)
    ∙ ap (λ b. not (length xs == 0) && not b) (any_viewed (λ word. is_wrong (option_word list word)) view xs)

-- what words say, where they are viewed
abbrev pub viewed_codes : {A : Type 0} → CodeList → (A → List ℕ) → List A → SaidContent
viewed_codes list view xs = record {
  directive = Some (contents.Codes list (record {
    codes = filter_map (λ x. taken_code (option_word list (view x))) xs;
    rapid = list_any (λ x. is_rapid (option_word list (view x))) xs;
    words = length xs;
  }));
  notices = map view (filter (λ x. is_noticed (option_word list (view x))) xs);
}

pub codes_viewed : {A : Type 0} (list : CodeList) (view : A → List ℕ) (xs : List A) → codes_of list (map view xs) ≡ viewed_codes list view xs
codes_viewed list view xs =
    let taken = filter_map_viewed (λ word. taken_code (option_word list word)) view xs in
    let rapid = any_viewed (λ word. is_rapid (option_word list word)) view xs in
    let words = length-map xs view in
    let noticed = filter_viewed (λ word. is_noticed (option_word list word)) view xs in
    search (taken, rapid, words, noticed)
