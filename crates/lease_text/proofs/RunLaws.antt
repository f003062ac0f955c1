-- What a state that lines lead to tells of them.
use Rattle.std.proofs.Common.{◌≡◌, List, [], ◌∷◌, ◌++◌, Option, Some, subst, append_assoc, sym}
use Rattle.std.proofs.lemmas.List.{append-nil}
use Rattle.net_types.specs.TextLines.{Line}
use Rattle.net_types.specs.LineReading.{run}
use Rattle.net_types.proofs.ReadsLaws.{passed, some_same}

-- a line that is taken leads to a state that tells of one line more
abbrev pub TakesOneMore : {S : Type 0} → (S → Line → Option S) → (S → List Line → Type 0) → Type 0
TakesOneMore {S} step After =
    (state next : S) (lines : List Line) (line : Line) → After state lines → step state line ≡ Some next → After next (lines ++ line ∷ [])

pub after_run : {S : Type 0} {step : S → Line → Option S} {After : S → List Line → Type 0} → TakesOneMore step After
    → (before lines : List Line) (state last : S)
    → After state before → run step lines state ≡ Some last → After last (before ++ lines)
after_run {After = After} takes before [] state last after e = subst (After last) (sym (append-nil before)) (subst (λ s. After s before) (some_same e) after)
after_run {step = step} {After = After} takes before (line ∷ lines) state last after e =
    let p = passed (step state line) (run step lines) last e in
    subst (After last) (append_assoc before (line ∷ []) lines)
    (after_run takes (before ++ line ∷ []) lines p.value last (takes state p.value before line after p.was) p.gives)
