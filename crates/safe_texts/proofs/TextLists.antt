-- Lists of texts with a blank between each two.
use Rattle.std.proofs.Common.{◌≢◌, ℕ, List, [], ◌∷◌, map, refl}
use Rattle.std.specs.Prelude.{IfSome}
use Rattle.std.specs.List.{AllByRecursion}
use Rattle.hook_env.specs.Lists.{listed, some_listed}
use Rattle.safe_texts.specs.Grammars.{IsListOf}

pub mapped_some : {A : Type 0} (text_of : A → List ℕ) (xs : List A) → xs ≢ [] → map text_of xs ≢ []
mapped_some text_of [] some = λ e. some refl
mapped_some text_of (x ∷ xs) some = λ e. absurd cc

pub mapped_all : {A : Type 0} (P : List ℕ → Type 0) (text_of : A → List ℕ) → ((x : A) → P (text_of x)) → (xs : List A) → AllByRecursion P (map text_of xs)
mapped_all P text_of each [] = tt
mapped_all P text_of each (x ∷ xs) = (each x, mapped_all P text_of each xs)

pub all_mapped_so : {A : Type 0} (Q : A → Type 0) (P : List ℕ → Type 0) (text_of : A → List ℕ) → ((x : A) → Q x → P (text_of x)) → (xs : List A)
    → AllByRecursion Q xs → AllByRecursion P (map text_of xs)
all_mapped_so Q P text_of each [] all = tt
all_mapped_so Q P text_of each (x ∷ xs) all = (each x all.0, all_mapped_so Q P text_of each xs all.1)

-- of texts that are made of values
pub values_listed : {A : Type 0} (Is : List ℕ → Type 0) (text_of : A → List ℕ) → ((x : A) → Is (text_of x)) → (xs : List A) → xs ≢ []
    → IsListOf Is (listed (map text_of xs))
values_listed Is text_of each xs some = record {
  texts = map text_of xs;
  some = mapped_some text_of xs some;
  listed = refl;
  each = mapped_all Is text_of each xs;
}

-- of values of which something is known
pub known_listed : {A : Type 0} (Q : A → Type 0) (Is : List ℕ → Type 0) (text_of : A → List ℕ) → ((x : A) → Q x → Is (text_of x)) → (xs : List A) → xs ≢ []
    → AllByRecursion Q xs → IsListOf Is (listed (map text_of xs))
known_listed Q Is text_of each xs some all = record {
  texts = map text_of xs;
  some = mapped_some text_of xs some;
  listed = refl;
  each = all_mapped_so Q Is text_of each xs all;
}

pub texts_listed : (Is : List ℕ → Type 0) (texts : List (List ℕ)) → AllByRecursion Is texts → IfSome (some_listed texts) (IsListOf Is)
texts_listed Is [] each = tt
texts_listed Is (text ∷ texts) each = record { texts = text ∷ texts; some = λ e. absurd cc; listed = refl; each = each }
