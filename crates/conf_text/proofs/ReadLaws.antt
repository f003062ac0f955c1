-- What the reader makes of all lines.
use Rattle.std.proofs.Common.{◌≡◌, ℕ, ◌+◌, ◌<◌, ◌≤◌, List, ◌∷◌, length, map, drop, get_or, Ok, Err, Result, sym, ap, subst}
use Rattle.std.specs.Prelude.{IfErr, IsErrAnd}
use Rattle.std.proofs.lemmas.List.{drop_more, drop_all}
use Rattle.conf_words.specs.declared.lines.Line.{Line}
use Rattle.conf_words.specs.Directives.{Directive, shown_line}
use Rattle.conf_text.specs.declared.answers.ConfAnswer.{ConfAnswer}
use Rattle.conf_text.specs.declared.answers.ConfAnswer.TheVariants.{Bad, NoMemory}
use Rattle.conf_text.specs.declared.answers.ConfFault.{ConfFault}
use Rattle.conf_text.specs.Faults.{fault}
use Rattle.conf_text.specs.Laws.{AreLinesOf, HasFault, RefusesLines}
use Rattle.conf_text.specs.Steps.{ReadSoFar, AnswersWith, TakesLine}
use Rattle.conf_text.proofs.StepLaws.{Follows, follows_more, follows_fault}

pub error_so : {T E : Type 0} (r : Result T E) (e : E) (P : E → Type 0) → IsErrAnd r (λ x. x ≡ e) → P e → IfErr r P
error_so (Ok x) e P is p = tt
error_so (Err x) e P is p = subst P (sym is) p

at_line : (lines : List Line) (at : ℕ) (line : Line) (so_far : ReadSoFar) → at < length lines
    → Follows (map shown_line lines) (map shown_line (drop at lines)) so_far
    → Follows (map shown_line lines) (shown_line (get_or lines at line) ∷ map shown_line (drop (at + 1) lines)) so_far
at_line lines at line so_far within follows =
    subst (λ (ds : List Directive). Follows (map shown_line lines) ds so_far) (ap (map shown_line) (drop_more lines at line within)) follows

pub read_next_line : (lines : List Line) (at : ℕ) (line : Line) (so_far next : ReadSoFar) → at < length lines
    → Follows (map shown_line lines) (map shown_line (drop at lines)) so_far → TakesLine so_far (shown_line (get_or lines at line)) (Ok next)
    → Follows (map shown_line lines) (map shown_line (drop (at + 1) lines)) next
read_next_line lines at line so_far next within follows takes =
    follows_more (map shown_line lines) (map shown_line (drop (at + 1) lines)) (shown_line (get_or lines at line)) so_far next
    (at_line lines at line so_far within follows) takes

pub read_refused : (lines : List Line) (at : ℕ) (line : Line) (so_far : ReadSoFar) (answer : ConfAnswer) → at < length lines
    → Follows (map shown_line lines) (map shown_line (drop at lines)) so_far
    → AnswersWith (TakesLine so_far (shown_line (get_or lines at line))) (get_or lines at line).number answer → RefusesLines (map shown_line lines) answer
read_refused lines at line so_far (Bad bad) within follows answers =
    let found =
    follows_fault (map shown_line lines) (map shown_line (drop (at + 1) lines)) (shown_line (get_or lines at line)) so_far bad.cause
    (at_line lines at line so_far within follows) answers.0 in
    let same : fault (get_or lines at line).number bad.cause ≡ bad =
    ap (λ n. let f : ConfFault = record { line = n; cause = bad.cause } in f) (sym answers.1) in
    subst (HasFault (map shown_line lines)) same found
read_refused lines at line so_far NoMemory within follows answers = tt

pub read_whole : (lines : List Line) (at : ℕ) (so_far : ReadSoFar) → length lines ≤ at → Follows (map shown_line lines) (map shown_line (drop at lines)) so_far
    → AreLinesOf (map shown_line lines) so_far.conf
read_whole lines at so_far past follows =
    let all = subst (λ (ls : List Line). Follows (map shown_line lines) (map shown_line ls) so_far) (drop_all at lines past) follows in
    (all.front, all.stand, all.good, all.is)
