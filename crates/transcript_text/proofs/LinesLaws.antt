-- The text of lines that are appended to others.
use Rattle.std.proofs.Common.{◌≡◌, List, [], ◌∷◌, ◌++◌, ◌∙◌, ap}
use Rattle.std.proofs.lemmas.Grind.{flat_map-append}
use Rattle.std.proofs.lemmas.List.{append-nil}
use Rattle.script_model.specs.Lines.{Line, line_text, lines_text}

pub lines_text-append : (lines more : List Line) → lines_text (lines ++ more) ≡ lines_text lines ++ lines_text more
lines_text-append lines more = flat_map-append line_text lines more

pub lines_text-push : (lines : List Line) (line : Line) → lines_text (lines ++ line ∷ []) ≡ lines_text lines ++ line_text line
lines_text-push lines line = lines_text-append lines (line ∷ []) ∙ ap (λ text. lines_text lines ++ text) (append-nil (line_text line))
