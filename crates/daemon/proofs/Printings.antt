-- The lines at the end of a life.
use Rattle.std.proofs.Common.{ℕ, ◌≡◌, ◌+◌, ◌<◌, List, [], ◌∷◌, ◌++◌, length, get_or, take, refl, sym, ap, ◌∙◌}
use Rattle.std.proofs.lemmas.List.{take_more}
use Rattle.world.specs.declared.rows.HostRow.{HostRow}
use Rattle.world.specs.declared.rows.HostRow.TheVariants.{Addr, Route}
use Rattle.script_model.specs.Lines.{Line}
use Rattle.script_model.specs.Lines as lines
use Rattle.device_calls.specs.Printing.{Prints}
use Rattle.device_calls.proofs.Printings.{prints_then, prints_same}
use Rattle.turn_model.specs.Lives.{hold_lines}

hold_lines-append : (a b : List HostRow) → hold_lines (a ++ b) ≡ hold_lines a ++ hold_lines b
hold_lines-append [] b = refl
hold_lines-append (Addr i n ∷ a) b = ap (λ (ls : List Line). lines.Hold i n ∷ ls) (hold_lines-append a b)
hold_lines-append (Route i d w m ∷ a) b = hold_lines-append a b

-- a loop that prints each address
pub holds_more : (rows : List HostRow) (i : ℕ) (d : HostRow) (t u v : List ℕ) → i < length rows → Prints t u (hold_lines (take i rows))
    → Prints u v (hold_lines (get_or rows i d ∷ [])) → Prints t v (hold_lines (take (i + 1) rows))
holds_more rows i d t u v lt p q =
    prints_same (prints_then p q) (sym (hold_lines-append (take i rows) (get_or rows i d ∷ [])) ∙ ap hold_lines (sym (take_more rows i d lt)))
