-- Items and IAs stay within their bounds as some of them go.
use Rattle.std.proofs.Common.{◌≡◌, ◌≢◌, ℕ, ◌≤◌, Bool, List, [], ◌∷◌, ◌++◌, length, filter, refl, sym, ◌∙◌, arith, length-append}
use Rattle.std.specs.Prelude.{AllPairs}
use Rattle.std.specs.List.{AllByRecursion, flat_map}
use Rattle.std.proofs.lemmas.List.Kept.{AllPairs-filter}
use Rattle.net_types.proofs.AllLaws.{all_join, all_map}
use Rattle.net_types.proofs.CaseLaws.{split}
use Rattle.v6_options.specs.declared.ia.IaKind.{IaKind}
use Rattle.lease6_text.specs.declared.lease.Item6.{Item6}
use Rattle.lease6_text.specs.Bounds.{FitsIa, FitsIas, FitsItem, ia_key}
use Rattle.lease6_text.specs.Leases.{IaLeaseContent}
use Rattle.lease6_text.proofs.Apart.{Apart, apart_from, pairs_from}
use Rattle.v6_items.specs.declared.scope.Cause6.{Cause6}
use Rattle.v6_items.specs.Items.{ia_with, staying, stays_in, thinned, without}
use Rattle.v6_items.specs.Bounds.{FitsItems}

-- ---- items

all_filter : {X : Type 0} (P : X → Type 0) (p : X → Bool) (xs : List X) → AllByRecursion P xs → AllByRecursion P (filter p xs)
all_filter P p [] all = tt
all_filter P p (x ∷ xs) all = split (p x) (λ e. rw e (all.0, all_filter P p xs all.1)) (λ e. rw e (all_filter P p xs all.1))

pub fewer : {X : Type 0} (p : X → Bool) (xs : List X) → length (filter p xs) ≤ length xs
fewer p [] = omega arith
fewer p (x ∷ xs) =
    let rest : length (filter p xs) ≤ length xs = fewer p xs in
    split (p x) (λ e. rw e (omega (arith, rest))) (λ e. rw e (omega (arith, rest)))

pub filter_fits : (kind : IaKind) (p : Item6 → Bool) (items : List Item6) → FitsItems kind items → FitsItems kind (filter p items)
filter_fits kind p items fits = record {
  few = omega (arith, fewer p items, fits.few);
  each = all_filter (FitsItem kind) p items fits.each;
  unlike = AllPairs-filter (λ one other. one.net ≢ other.net) p items fits.unlike;
}

pub none_fit : (kind : IaKind) → FitsItems kind []
none_fit kind = record {
  few = omega arith;
  each = tt;
  unlike = pairs_from (λ one other. one.net ≢ other.net) [] tt;
}

pub items_of : (ia : IaLeaseContent) → FitsIa ia → FitsItems ia.kind ia.items
items_of ia fits = record { few = fits.few; each = fits.each; unlike = fits.unlike }

-- ---- IAs, made of pieces with one IA or none

pub record IsPiece {X : Type 0} (key : X → IaKind × ℕ) (f : X → List IaLeaseContent) (x : X) : Type 0 where
  pub each : AllByRecursion FitsIa (f x)
  pub keyed : AllByRecursion (λ ia. ia_key ia ≡ key x) (f x)
  pub one : length (f x) ≤ 1

abbrev Unlike : IaLeaseContent → IaLeaseContent → Type 0
Unlike one other = ia_key one ≢ ia_key other

pieces_few : {X : Type 0} (key : X → IaKind × ℕ) (f : X → List IaLeaseContent) (xs : List X) → AllByRecursion (IsPiece key f) xs
    → length (flat_map f xs) ≤ length xs
pieces_few key f [] all = omega arith
pieces_few key f (x ∷ xs) all =
    let rest : length (flat_map f xs) ≤ length xs = pieces_few key f xs all.1 in
    omega (arith, length-append (f x) (flat_map f xs), rest, all.0.one)

pieces_each : {X : Type 0} (key : X → IaKind × ℕ) (f : X → List IaLeaseContent) (xs : List X) → AllByRecursion (IsPiece key f) xs
    → AllByRecursion FitsIa (flat_map f xs)
pieces_each key f [] all = tt
pieces_each key f (x ∷ xs) all = all_join FitsIa (f x) (flat_map f xs) all.0.each (pieces_each key f xs all.1)

-- what is unlike all keys is unlike the keys of all pieces
others : {X : Type 0} (key : X → IaKind × ℕ) (f : X → List IaLeaseContent) (k : IaKind × ℕ) (xs : List X)
    → AllByRecursion (IsPiece key f) xs → AllByRecursion (λ x. k ≢ key x) xs → AllByRecursion (λ ia. k ≢ ia_key ia) (flat_map f xs)
others key f k [] all unlike = tt
others key f k (x ∷ xs) all unlike =
    all_join (λ ia. k ≢ ia_key ia) (f x) (flat_map f xs)
    (all_map (λ ia. ia_key ia ≡ key x) (λ ia. k ≢ ia_key ia) (λ ia same e. unlike.0 (e ∙ same)) (f x) all.0.keyed)
    (others key f k xs all.1 unlike.1)

-- a piece of one IA or none stands before IAs that are unlike it
before : (k : IaKind × ℕ) (piece rest : List IaLeaseContent) → length piece ≤ 1 → AllByRecursion (λ ia. ia_key ia ≡ k) piece
    → AllByRecursion (λ ia. k ≢ ia_key ia) rest → Apart Unlike rest → Apart Unlike (piece ++ rest)
before k [] rest one keyed unlike apart = apart
before k (ia ∷ []) rest one keyed unlike apart =
    (all_map (λ other. k ≢ ia_key other) (Unlike ia) (λ other differs e. differs (sym keyed.0 ∙ e)) rest unlike, apart)
before k (ia ∷ more ∷ others) rest one keyed unlike apart = absurd (omega (arith, one))

pieces_apart : {X : Type 0} (key : X → IaKind × ℕ) (f : X → List IaLeaseContent) (xs : List X) → AllByRecursion (IsPiece key f) xs
    → Apart (λ one other. key one ≢ key other) xs → Apart Unlike (flat_map f xs)
pieces_apart key f [] all apart = tt
pieces_apart key f (x ∷ xs) all apart =
    before (key x) (f x) (flat_map f xs) all.0.one all.0.keyed (others key f (key x) xs all.1 apart.0)
    (pieces_apart key f xs all.1 apart.1)

pub pieces_fit : {X : Type 0} (key : X → IaKind × ℕ) (f : X → List IaLeaseContent) (xs : List X) → length xs ≤ 6
    → AllPairs (λ one other. key one ≢ key other) xs → AllByRecursion (IsPiece key f) xs → FitsIas (flat_map f xs)
pieces_fit key f xs few unlike all = record {
  few = omega (arith, pieces_few key f xs all, few);
  each = pieces_each key f xs all;
  unlike = pairs_from Unlike (flat_map f xs) (pieces_apart key f xs all (apart_from (λ one other. key one ≢ key other) xs unlike));
}

pub with_is_piece : {X : Type 0} (key : X → IaKind × ℕ) (f : X → List IaLeaseContent) (x : X) (items : List Item6)
    → FitsItems (key x).0 items → f x ≡ ia_with (key x).0 (key x).1 items → IsPiece key f x
with_is_piece key f x [] fits e = record { each = rw e tt; keyed = rw e tt; one = rw e (omega arith) }
with_is_piece key f x (item ∷ items) fits e = record {
  each = rw e (record { some = omega arith; few = fits.few; each = fits.each; unlike = fits.unlike }, tt);
  keyed = rw e (refl, tt);
  one = rw e (omega arith);
}

-- ---- items that go

pub without_fits : (cause : Cause6) (ias : List IaLeaseContent) → FitsIas ias → FitsIas (without cause ias)
without_fits cause ias fits =
    pieces_fit ia_key (thinned cause) ias fits.few fits.unlike
    (all_map FitsIa (IsPiece ia_key (thinned cause))
    (λ ia fit. with_is_piece ia_key (thinned cause) ia (staying cause ia.kind ia.items)
    (filter_fits ia.kind (stays_in cause ia.kind) ia.items (items_of ia fit)) refl) ias fits.each)
