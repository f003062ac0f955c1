-- The only byte of pieces laid end to end, one piece after another.
use Rattle.std.proofs.Common.{◌≡◌, ℕ, ◌<◌, ◌≤◌, true, false, List, [], ◌∷◌, ◌++◌, length, get_or, Option, Some, None, refl, ◌∙◌, arith}
use Rattle.std.specs.Option.{option_to_list, is_some}
use Rattle.std.specs.List.{flat_map}
use Rattle.std.proofs.lemmas.List.{length-append}
use Rattle.v4_options.specs.OptionValue.{only_byte}

abbrev end_to_end : List (List ℕ) → List ℕ
end_to_end all = flat_map (λ piece. piece) all

many : (bytes : List ℕ) → 1 < length bytes → None ≡ only_byte bytes
many [] h = absurd (omega arith)
many (a ∷ []) h = absurd (omega arith)
many (a ∷ b ∷ rest) h = refl

module _ (only : Option ℕ) (left next : List (List ℕ)) (piece : List ℕ) (total : Option ℕ)
    (taken : left ≡ piece ∷ next) (so_far : only_byte (option_to_list only ++ end_to_end left) ≡ total) where
  with_piece : only_byte (option_to_list only ++ (piece ++ end_to_end next)) ≡ total
  with_piece = rw taken at so_far

  pub too_long : 1 < length piece → None ≡ total
  too_long h = many (option_to_list only ++ (piece ++ end_to_end next)) (simp length-append (omega arith)) ∙ with_piece

  pub too_many : is_some only ≡ true → 0 < length piece → None ≡ total
  too_many e h = many (option_to_list only ++ (piece ++ end_to_end next)) (simp length-append (omega (arith, filled only e))) ∙ with_piece
    where
      filled : (o : Option ℕ) → is_some o ≡ true → length (option_to_list o) ≡ 1
      filled None e = absurd cc
      filled (Some b) e = refl

  pub nothing_more : length piece ≡ 0 → only_byte (option_to_list only ++ end_to_end next) ≡ total
  nothing_more e = empty piece e with_piece
    where
      empty : (p : List ℕ) → length p ≡ 0 → only_byte (option_to_list only ++ (p ++ end_to_end next)) ≡ total
          → only_byte (option_to_list only ++ end_to_end next) ≡ total
      empty [] e h = h
      empty (b ∷ p) e h = absurd (omega arith)

  pub one_more : is_some only ≡ false → 0 < length piece → length piece ≤ 1 → only_byte (get_or piece 0 0 ∷ end_to_end next) ≡ total
  one_more e low high = one only piece e low high with_piece
    where
      one : (o : Option ℕ) (p : List ℕ) → is_some o ≡ false → 0 < length p → length p ≤ 1 → only_byte (option_to_list o ++ (p ++ end_to_end next)) ≡ total
          → only_byte (get_or p 0 0 ∷ end_to_end next) ≡ total
      one (Some b) p e low high h = absurd cc
      one None [] e low high h = absurd (omega arith)
      one None (b ∷ []) e low high h = h
      one None (b ∷ c ∷ p) e low high h = absurd (omega arith)
