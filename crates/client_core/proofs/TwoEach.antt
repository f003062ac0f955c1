-- Two values a place, in one list.
use Rattle.std.proofs.Common.{◌≡◌, ◌+◌, ◌*◌, ℕ, zero, suc, List, [], ◌∷◌, ◌++◌, add-one, length, get_or, set, take, drop, map, refl, ap, ◌∙◌, arith}
use Rattle.std.specs.Prelude.{flat_map}

module _ {X P : Type 0} (first last : X → P) where
  abbrev pub two : X → List P
  two x = first x ∷ last x ∷ []

  pub length_two : (xs : List X) → length (flat_map two xs) ≡ 2 * length xs
  length_two [] = refl
  length_two (x ∷ xs) = let rest : length (flat_map two xs) ≡ 2 * length xs = length_two xs in omega arith

  put_from : (xs : List X) (i j : ℕ) (x : X) → j ≡ 2 * i → set (set (flat_map two xs) j (first x)) (suc j) (last x) ≡ flat_map two (set xs i x)
  put_from [] i j x at = refl
  put_from (y ∷ ys) zero zero x at = refl
  put_from (y ∷ ys) zero (suc j) x at = absurd (omega arith)
  put_from (y ∷ ys) (suc i) zero x at = absurd (omega arith)
  put_from (y ∷ ys) (suc i) (suc zero) x at = absurd (omega arith)
  put_from (y ∷ ys) (suc i) (suc (suc j)) x at = ap (λ rest. first y ∷ last y ∷ rest) (put_from ys i j x (omega arith))

  -- those of a place are put there
  pub put_two : (xs : List X) (i : ℕ) (x : X) → set (set (flat_map two xs) (2 * i) (first x)) (2 * i + 1) (last x) ≡ flat_map two (set xs i x)
  put_two xs i x = rw add-one (put_from xs i (2 * i) x refl)

  -- the same ones change nothing
  pub same_two : (xs : List X) (i : ℕ) (x d : X) → two x ≡ two (get_or xs i d) → flat_map two (set xs i x) ≡ flat_map two xs
  same_two [] i x d same = refl
  same_two (y ∷ ys) zero x d same = ap (λ zs. zs ++ flat_map two ys) same
  same_two (y ∷ ys) (suc i) x d same = ap (λ zs. two y ++ zs) (same_two ys i x d same)

  tail_of : (a b c d : P) (xs ys : List P) → a ∷ b ∷ xs ≡ c ∷ d ∷ ys → xs ≡ ys
  tail_of a b c d xs ys same = cc

  heads_of : (a b c d : P) (xs ys : List P) → a ∷ b ∷ xs ≡ c ∷ d ∷ ys → a ∷ b ∷ [] ≡ c ∷ d ∷ []
  heads_of a b c d xs ys same = cc

  -- where all are as they were once one more has changed, they were before that too
  pub same_before : (go : X → X) (xs : List X) (i : ℕ) → flat_map two (map go (take (suc i) xs) ++ drop (suc i) xs) ≡ flat_map two xs
      → flat_map two (map go (take i xs) ++ drop i xs) ≡ flat_map two xs
  same_before go [] i same = same_before_none i
    where
      same_before_none : (i : ℕ) → flat_map two (map go (take i []) ++ drop i []) ≡ []
      same_before_none zero = refl
      same_before_none (suc i) = refl
  same_before go (x ∷ xs) zero same = refl
  same_before go (x ∷ xs) (suc i) same =
      ap (λ zs. zs ++ flat_map two (map go (take i xs) ++ drop i xs)) (heads_of _ _ _ _ _ _ same)
      ∙ ap (λ zs. two x ++ zs) (same_before go xs i (tail_of _ _ _ _ _ _ same))
