-- The lines on rows, one row after another.
use Rattle.std.proofs.Common.{◌≡◌, ℕ, ◌+◌, ◌<◌, List, [], ◌∷◌, ◌++◌, length, take, get_or, Option, sym, ap, ◌∙◌}
use Rattle.std.specs.List.{cons_option, filter_map}
use Rattle.std.proofs.lemmas.List.{take_more}
use Rattle.std.proofs.lemmas.List.Elements.{filter_map-append}

-- of one row more
pub line_more : {X Y : Type 0} (f : X → Option Y) (xs : List X) (i : ℕ) (x : X) (lines next : List Y) (line : Option Y) → x ≡ get_or xs i x
    → i < length xs → lines ≡ filter_map f (take i xs) → line ≡ f x → next ≡ lines ++ cons_option line [] → next ≡ filter_map f (take (i + 1) xs)
line_more f xs i x lines next line at lt so_far is more =
    more ∙ (λ j. so_far j ++ cons_option (is j) []) ∙ sym (filter_map-append f (take i xs) (x ∷ []))
    ∙ ap (filter_map f) (sym (take_more xs i x lt ∙ ap (λ (y : _). take i xs ++ y ∷ []) (sym at)))
