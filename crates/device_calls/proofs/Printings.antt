-- Lines printed one after another.
use Rattle.std.proofs.Common.{ℕ, ◌≡◌, ◌+◌, ◌<◌, List, [], ◌∷◌, ◌++◌, length, get_or, take, sym, ap, subst, ◌∙◌, append_assoc, append-nil}
use Rattle.std.specs.Prelude.{map}
use Rattle.std.proofs.lemmas.List.{take_more, map-append}
use Rattle.std.proofs.lemmas.List.Concat.{flat_map-append}
use Rattle.world.specs.declared.rows.HostRow.{HostRow}
use Rattle.typed_lines.specs.ScriptModel.Lines.{Line, line_text, lines_text}
use Rattle.typed_lines.specs.ScriptModel.Lines as lines
use Rattle.typed_lines.specs.TypedLines.{IsTyped}
use Rattle.typed_lines.proofs.TypedParts.{typed_both}
use Rattle.device_calls.specs.Printing.{Prints}

pub prints_none : (t : List ℕ) → Prints t t []
prints_none t = record { appended = sym (append-nil t); typed = tt }

pub prints_line : (t u : List ℕ) (l : Line) → IsTyped l → u ≡ t ++ line_text l → Prints t u (l ∷ [])
prints_line t u l typed e = record { appended = e ∙ ap (λ (x : List ℕ). t ++ x) (sym (append-nil (line_text l))); typed = (typed, tt) }

pub prints_then : {t u v : List ℕ} {a b : List Line} → Prints t u a → Prints u v b → Prints t v (a ++ b)
prints_then {t} {u} {v} {a} {b} p q =
    record {
      appended = q.appended ∙ ap (λ (x : List ℕ). x ++ lines_text b) p.appended ∙ append_assoc t (lines_text a) (lines_text b)
          ∙ ap (λ (x : List ℕ). t ++ x) (sym (flat_map-append line_text a b));
      typed = typed_both a b p.typed q.typed;
    }

pub prints_same : {t u : List ℕ} {a b : List Line} → Prints t u a → a ≡ b → Prints t u b
prints_same {t} {u} {a} {b} p e = subst (λ (ls : List Line). Prints t u ls) e p

-- a loop that prints a line for each value
pub lines_more : {X : Type 0} (line : X → Line) (xs : List X) (i : ℕ) (d : X) (t u v : List ℕ) → i < length xs → Prints t u (map line (take i xs))
    → Prints u v (line (get_or xs i d) ∷ []) → Prints t v (map line (take (i + 1) xs))
lines_more {X} line xs i d t u v lt p q =
    prints_same (prints_then p q) (sym (map-append line (take i xs) (get_or xs i d ∷ [])) ∙ ap (λ (ys : List X). map line ys) (sym (take_more xs i d lt)))

pub rows_more : (rows : List HostRow) (i : ℕ) (d : HostRow) (t u v : List ℕ) → i < length rows → Prints t u (map lines.Row (take i rows))
    → Prints u v (lines.Row (get_or rows i d) ∷ []) → Prints t v (map lines.Row (take (i + 1) rows))
rows_more rows i d t u v lt p q = lines_more lines.Row rows i d t u v lt p q

-- the same where a line is made of what a value holds
pub contents_more : {X C : Type 0} (line : C → Line) (content : X → C) (xs : List X) (i : ℕ) (d : X) (t u v : List ℕ) → i < length xs
    → Prints t u (map line (map content (take i xs))) → Prints u v (line (content (get_or xs i d)) ∷ [])
    → Prints t v (map line (map content (take (i + 1) xs)))
contents_more {X} {C} line content xs i d t u v lt p q =
    prints_same (prints_then p q)
    (sym (map-append line (map content (take i xs)) (content (get_or xs i d) ∷ []))
    ∙ ap (map line) (sym (map-append content (take i xs) (get_or xs i d ∷ [])))
    ∙ ap (λ (ys : List X). map line (map content ys)) (sym (take_more xs i d lt)))
