-- What is kept of a list that is read from its front.
use Rattle.std.proofs.Common.{◌≡◌, ◌≤◌, ◌<◌, ◌+◌, ℕ, suc, zero, Bool, true, false, cond, List, [], ◌∷◌, ◌++◌, length, take, drop, get_or, map, flat_map, refl, sym, subst}
use Rattle.std.specs.Prelude.{bytes_eq, filter}
use Rattle.std.specs.List.{list_any}
use Rattle.std.proofs.lemmas.List.{map-append, take_all, take_more, take-append-drop, append-nil, length-map}
use Rattle.std.proofs.lemmas.List.Elements.{filter-append}
use Rattle.std.proofs.lemmas.Grind.{flat_map-append}
use Rattle.resolver_text.specs.Keeping.{KeepsOn}
use Rattle.resolver_text.specs.Texts.{unlike}
use Rattle.resolver_text.proofs.UnlikeTexts.{keeps_both, keeps_full, keeps_none, told_again, told_anew}

-- what a list says is what its halves say
abbrev pub IsParted : {A : Type 0} → (List A → List (List ℕ)) → Type 0
IsParted {A} says = (xs ys : List A) → says (xs ++ ys) ≡ says xs ++ says ys

module _ {A : Type 0} (says : List A → List (List ℕ)) (parted : IsParted says) (limit : ℕ) (xs : List A) (i : ℕ) (old middle : List (List ℕ))
    (so_far : KeepsOn limit (says (take i xs)) old middle) where
  -- one more
  pub reads_more : (x : A) → i < length xs → x ≡ get_or xs i x → (new : List (List ℕ)) → KeepsOn limit (says (x ∷ [])) middle new
      → KeepsOn limit (says (take (i + 1) xs)) old new
  reads_more x within at new then =
      rw (take_more xs i x within, ← at, parted (take i xs) (x ∷ [])) (keeps_both limit (says (take i xs)) (says (x ∷ [])) old middle new so_far then)

  -- the whole list was read
  pub reads_all : length xs ≤ i → KeepsOn limit (says xs) old middle
  reads_all end = subst (λ ys. KeepsOn limit (says ys) old middle) (take_all i xs end) so_far

  -- enough are kept
  pub reads_no_more : limit ≤ length middle → KeepsOn limit (says xs) old middle
  reads_no_more full =
      subst (λ ys. KeepsOn limit (says ys) old middle) (take-append-drop i xs)
      (rw (parted (take i xs) (drop i xs))
      (keeps_both limit (says (take i xs)) (says (drop i xs)) old middle middle so_far (keeps_full limit (says (drop i xs)) middle full)))

pub filtered_parted : {A : Type 0} (f : A → List ℕ) (p : List ℕ → Bool) → IsParted (λ xs. filter p (map f xs))
filtered_parted f p xs ys = rw (map-append f xs ys, filter-append p (map f xs) (map f ys)) refl

pub mapped_parted : {A : Type 0} (f : A → List ℕ) → IsParted (λ xs. map f xs)
mapped_parted f xs ys = map-append f xs ys

pub flat_parted : {A B : Type 0} (f : A → B) (h : B → List (List ℕ)) → IsParted (λ xs. flat_map h (map f xs))
flat_parted f h xs ys = rw (map-append f xs ys, flat_map-append h (map f xs) (map f ys)) refl

-- one part more
pub reads_part : {A B : Type 0} (f : A → B) (h : B → List (List ℕ)) (limit : ℕ) (xs : List A) (i : ℕ) (old middle : List (List ℕ))
    → KeepsOn limit (flat_map h (map f (take i xs))) old middle → (x : A) → i < length xs → x ≡ get_or xs i x
    → (new : List (List ℕ)) → KeepsOn limit (h (f x)) middle new → KeepsOn limit (flat_map h (map f (take (i + 1) xs))) old new
reads_part f h limit xs i old middle so_far x within at new then =
    reads_more (λ ys. flat_map h (map f ys)) (flat_parted f h) limit xs i old middle so_far x within at new (rw (append-nil (h (f x))) then)

no_text : (limit : ℕ) → take {A = List ℕ} limit [] ≡ []
no_text zero = refl
no_text (suc limit) = refl

-- what is kept from the beginning
pub kept_first : (limit : ℕ) (more kept : List (List ℕ)) → KeepsOn limit more [] kept → kept ≡ take limit (unlike more)
kept_first limit more kept keeps = keeps [] (sym (no_text limit))

pub enough_views : {A : Type 0} (view : A → List ℕ) (limit : ℕ) (kept : List A) → limit ≤ length kept → limit ≤ length (map view kept)
enough_views view limit kept full = rw (length-map kept view) full

-- ---- a name that is tested

module _ {A : Type 0} (view : A → List ℕ) (is_told : List ℕ → Bool) (limit : ℕ) (kept seen : List A) (text : List ℕ) (few : length kept < limit)
    (same : seen ≡ kept)
    (answer : Bool) (given : answer ≡ list_any (λ x. bytes_eq (view x) text) seen) where
  pub name_again : answer ≡ true → KeepsOn limit (filter is_told (text ∷ [])) (map view kept) (map view kept)
  name_again e = by_case (is_told text)
    where
      by_case : (b : Bool) → KeepsOn limit (cond b (text ∷ []) []) (map view kept) (map view kept)
      by_case true = told_again view limit kept seen text few same answer given e
      by_case false = keeps_none limit (map view kept)

  pub name_anew : answer ≡ false → is_told text ≡ true → (new : List A) (one : A) → new ≡ kept ++ one ∷ [] → view one ≡ text
      → KeepsOn limit (filter is_told (text ∷ [])) (map view kept) (map view new)
  name_anew e told new one pushed is = rw told (told_anew view limit kept seen text few same answer given e new one pushed is)

pub no_name : (is_told : List ℕ → Bool) (limit : ℕ) (kept : List (List ℕ)) (text : List ℕ) → is_told text ≡ false
    → KeepsOn limit (filter is_told (text ∷ [])) kept kept
no_name is_told limit kept text e = rw e (keeps_none limit kept)
