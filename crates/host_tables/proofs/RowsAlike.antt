-- Lists of rows that compare as equal are equal.
use Rattle.std.proofs.Common.{◌≡◌, true, false, List, [], ◌∷◌, refl, ap₂}
use Rattle.std.specs.declared.cmp.Ordering.{Ordering}
use Rattle.std.specs.declared.cmp.Ordering.TheVariants.{Less, Equal, Greater}
use Rattle.std.specs.Ordering.{eq_by_cmp, is_eq}
use Rattle.std.specs.Cmp.Lexicographic.{pointwise}
use Rattle.std.proofs.lemmas.Bool.{and_from, and_parts}
use Rattle.world.specs.declared.rows.HostRow.{HostRow}
use Rattle.world.specs.RowOrder.{row_cmp, row_eq_equivalence}
use Rattle.world.proofs.ExactRows.{row_cmp_exact}

equal_if : (r : Ordering) → is_eq r ≡ true → r ≡ Equal
equal_if Less e = let never : false ≡ true = e in cc
equal_if Equal e = refl
equal_if Greater e = let never : false ≡ true = e in cc

pub alike : (xs ys : List HostRow) → pointwise (eq_by_cmp row_cmp) xs ys ≡ true → xs ≡ ys
alike [] [] e = refl
alike [] (y ∷ ys) e = let never : false ≡ true = e in cc
alike (x ∷ xs) [] e = let never : false ≡ true = e in cc
alike (x ∷ xs) (y ∷ ys) e =
    let parts = and_parts (eq_by_cmp row_cmp x y) _ e in
    ap₂ (λ (row : HostRow) (rows : List HostRow). row ∷ rows) (row_cmp_exact x y (equal_if (row_cmp x y) parts.0)) (alike xs ys parts.1)

-- and those that are equal compare so
pub same : (xs : List HostRow) → pointwise (eq_by_cmp row_cmp) xs xs ≡ true
same [] = refl
same (x ∷ xs) = and_from (eq_by_cmp row_cmp x x) _ (row_eq_equivalence.refl x) (same xs)
