-- Lines that are appended one after another.
use Rattle.std.proofs.Common.{◌≡◌, ℕ, List, [], ◌∷◌, ◌++◌, map, sym, ap, ◌∙◌, append_assoc, append-nil}
use Rattle.std.proofs.lemmas.List.{map-append}
use Rattle.net_types.specs.TextLines as texts
use Rattle.net_types.specs.TextLines.{ended}
use Rattle.net_types.proofs.LineSteps.{text_more}
use Rattle.lab_model.specs.LabLines.{LabLine, line_text, lines_text}
use Rattle.lab_text.specs.Living.{Says}

pub lines_more : (a b : List LabLine) → lines_text (a ++ b) ≡ lines_text a ++ lines_text b
lines_more a b = ap texts.lines_text (map-append line_text a b) ∙ text_more (map line_text a) (map line_text b)

-- nothing is said
pub says_none : (t : List ℕ) → Says [] t t
says_none t = sym (append-nil t)

pub says_line : (t u : List ℕ) (line : LabLine) → u ≡ t ++ ended (line_text line) → Says (line ∷ []) t u
says_line t u line e = e ∙ ap (λ x. t ++ x) (sym (append-nil (ended (line_text line))))

pub says_then : (t u v : List ℕ) (a b : List LabLine) → Says a t u → Says b u v → Says (a ++ b) t v
says_then t u v a b first second =
    second ∙ ap (λ x. x ++ lines_text b) first ∙ append_assoc t (lines_text a) (lines_text b) ∙ ap (λ x. t ++ x) (sym (lines_more a b))

-- a moment, and what is said after it
pub says_step : (t u v w : List ℕ) (line : LabLine) (a b : List LabLine) → Says (line ∷ []) t u → Says a u v → Says b v w → Says (line ∷ (a ++ b)) t w
says_step t u v w line a b first second third = says_then t v w (line ∷ a) b (says_then t u v (line ∷ []) a first second) third

-- what is left to say after some of it
pub says_on : (t u all : List ℕ) (a b : List LabLine) → Says a t u → t ++ lines_text (a ++ b) ≡ all → u ++ lines_text b ≡ all
says_on t u all a b says e = ap (λ x. x ++ lines_text b) says ∙ append_assoc t (lines_text a) (lines_text b) ∙ ap (λ x. t ++ x) (sym (lines_more a b)) ∙ e
