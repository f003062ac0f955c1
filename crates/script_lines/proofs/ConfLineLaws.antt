-- The lines of a configuration.
use Rattle.std.proofs.Common.{◌≡◌, ℕ, List, [], ◌∷◌, ◌++◌, map, flat_map, refl, sym, ap, ◌∙◌}
use Rattle.std.specs.List.{AllByRecursion}
use Rattle.std.proofs.lemmas.List.{append-nil}
use Rattle.net_types.specs.Marks.{Lacks}
use Rattle.script_model.specs.ScriptTexts.{ended}
use Rattle.script_lines.specs.Blocks.{parts_of}
use Rattle.script_lines.specs.ScriptContent.{unless_last, lines_within, conf_lines}
use Rattle.script_lines.proofs.BlockLaws.{parts_block}

abbrev conf_words : List ℕ → List ℕ
conf_words text = text

within_last : (lines : List (List ℕ)) → lines_within (lines ++ [] ∷ []) ≡ lines
within_last [] = refl
within_last (line ∷ lines) = kept line lines (lines_within (lines ++ [] ∷ [])) ∙ ap (λ ls. line ∷ ls) (within_last lines)
  where
    kept : (line : List ℕ) (lines : List (List ℕ)) (ls : List (List ℕ)) → unless_last line (lines ++ [] ∷ []) ls ≡ line ∷ ls
    kept line [] ls = refl
    kept line (next ∷ lines) ls = refl

each_spelled : (texts : List (List ℕ)) → AllByRecursion (Lacks 10) texts → AllByRecursion (λ t. (t ≡ t) × Lacks 10 t) texts
each_spelled [] free = tt
each_spelled (text ∷ texts) free = ((refl, free.0), each_spelled texts free.1)

map_same : (texts : List (List ℕ)) → map conf_words texts ≡ texts
map_same [] = refl
map_same (text ∷ texts) = ap (λ ts. text ∷ ts) (map_same texts)

pub conf_lines_of : (texts : List (List ℕ)) → AllByRecursion (Lacks 10) texts → conf_lines (flat_map ended texts) ≡ texts
unfolding conf_lines
conf_lines_of texts free =
    let parts : parts_of (flat_map ended texts) ≡ texts ++ [] ∷ [] =
    ap parts_of (sym (append-nil (flat_map ended texts))) ∙ parts_block conf_words conf_words texts [] (each_spelled texts free)
    ∙ ap (λ ts. ts ++ [] ∷ []) (map_same texts) in
    ap lines_within parts ∙ within_last texts
