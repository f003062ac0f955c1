-- Lines of a text.
use Rattle.std.proofs.Common.{◌≡◌, ℕ, true, false, not, cond, List, [], ◌∷◌, ◌++◌, map, refl, ap, ◌∙◌, eqb, flat_map}
use Rattle.std.specs.List.{All, AllByRecursion, onto_first, join_with_byte}
use Rattle.std.proofs.lemmas.Bool.{and_from, not_from_false, not-true}
use Rattle.std.proofs.lemmas.List.{append_assoc}
use Rattle.std.proofs.lemmas.List.Elements.{All-weaker}
use Rattle.std.proofs.lemmas.List.Sums.{AllPass-from_list_all}
use Rattle.std.proofs.lemmas.List.Splits.{slice_split_at, join_with_byte-slice_split}
use Rattle.net_types.specs.Marks.{Lacks}
use Rattle.script_model.specs.ScriptTexts.{ended}
use Rattle.script_lines.specs.Blocks.{parts_of}

-- ---- parts

no_feed : (text : List ℕ) → Lacks 10 text → All (λ b. eqb b 10 ≡ false) text
no_feed text free =
    All-weaker (λ b. not (eqb b 10) ≡ true) (λ b. eqb b 10 ≡ false) (λ b h. not-true _ h) text (AllPass-from_list_all (λ b. not (eqb b 10)) text free)

-- a line in front
pub parts_line : (line rest : List ℕ) → Lacks 10 line → parts_of (line ++ 10 ∷ rest) ≡ line ∷ parts_of rest
parts_line line rest free = slice_split_at (λ b. eqb b 10) line 10 rest (no_feed line free) refl

pub parts_joined : (text : List ℕ) → join_with_byte 10 (parts_of text) ≡ text
parts_joined text = join_with_byte-slice_split 10 text

onto_lacks : (x : ℕ) (parts : List (List ℕ)) → eqb x 10 ≡ false → AllByRecursion (Lacks 10) parts → AllByRecursion (Lacks 10) (onto_first x parts)
onto_lacks x [] other free = (and_from _ _ (not_from_false _ other) refl, tt)
onto_lacks x (part ∷ parts) other free = (and_from _ _ (not_from_false _ other) free.0, free.1)

-- no part has a line feed
pub parts_lack : (text : List ℕ) → AllByRecursion (Lacks 10) (parts_of text)
parts_lack [] = (refl, tt)
parts_lack (x ∷ xs) =
    elim (eqb x 10) as (λ b. eqb x 10 ≡ b → AllByRecursion (Lacks 10) (cond b ([] ∷ parts_of xs) (onto_first x (parts_of xs)))) [
      | true ↦ λ t. (refl, parts_lack xs)
      | false ↦ λ t. onto_lacks x (parts_of xs) t (parts_lack xs)
    ] refl

-- ---- lines of one kind

-- the parts of lines that are written one after another
pub parts_block : {X : Type 0} (text_of line_of : X → List ℕ) (xs : List X) (rest : List ℕ)
    → AllByRecursion (λ x. (text_of x ≡ line_of x) × Lacks 10 (line_of x)) xs
    → parts_of (flat_map (λ x. ended (text_of x)) xs ++ rest) ≡ map line_of xs ++ parts_of rest
parts_block text_of line_of [] rest fits = refl
parts_block text_of line_of (x ∷ xs) rest fits =
    let regrouped : flat_map (λ y. ended (text_of y)) (x ∷ xs) ++ rest ≡ text_of x ++ 10 ∷ (flat_map (λ y. ended (text_of y)) xs ++ rest) = simp append_assoc in
    let spelled : text_of x ++ 10 ∷ (flat_map (λ y. ended (text_of y)) xs ++ rest) ≡ line_of x ++ 10 ∷ (flat_map (λ y. ended (text_of y)) xs ++ rest) =
    ap (λ t. t ++ 10 ∷ (flat_map (λ y. ended (text_of y)) xs ++ rest)) fits.0.0 in
    ap parts_of (regrouped ∙ spelled) ∙ parts_line (line_of x) (flat_map (λ y. ended (text_of y)) xs ++ rest) fits.0.1
    ∙ ap (λ ps. line_of x ∷ ps) (parts_block text_of line_of xs rest fits.1)
