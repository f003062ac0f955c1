-- A transcript has no more turns than bytes.
use Rattle.std.proofs.Common.{◌≡◌, ℕ, ◌+◌, ◌≤◌, List, [], ◌∷◌, ◌++◌, map, flat_map, length, sum_by, ap, ◌∙◌, arith, length-append}
use Rattle.std.proofs.lemmas.List.Sums.{sum_by-append, sum_by-cons}
use Rattle.net_types.specs.FirstBadLine.{IsSpelled}
use Rattle.net_types.specs.TextLines as Texts
use Rattle.net_types.specs.TextLines.{ended, lines_text}
use Rattle.net_types.proofs.LineSteps.{text_more}
use Rattle.world.specs.declared.rows.HostRow.{HostRow}
use Rattle.script_model.specs.Lines.{EndOfLife, Interface, Line, line_words}
use Rattle.script_model.specs.Spellings.{AreSpelled}
use Rattle.transcript_lines.specs.LineSpellings.{IsTold}
use Rattle.transcript_model.specs.Told.{LifeTold, Told, TurnTold, body_lines, head_lines, life_lines, lines_within, lives_lines, turn_lines}
use Rattle.transcript_model.specs.Transcripts.{SpellsTold}
use Rattle.iface_judge.specs.AuditModel.Verdicts.{BasisWord, FirstUnjust, turns_told}

-- a line takes a byte at least
lines_in_text : (texts : List Texts.Line) (lines : List Line) → AreSpelled IsTold texts lines → length lines ≤ length (lines_text texts)
lines_in_text [] [] are = omega arith
lines_in_text [] (line ∷ lines) are = absurd are
lines_in_text (text ∷ texts) [] are = absurd are
lines_in_text (text ∷ texts) (line ∷ lines) are =
    let later = lines_in_text texts lines are.1 in
    let whole : length (lines_text (text ∷ texts)) ≡ length text + 1 + length (lines_text texts) =
    length-append (ended text) (lines_text texts) ∙ ap (λ n. n + length (lines_text texts)) (length-append text (10 ∷ [])) in
    omega arith

turns_in_lines : (turns : List TurnTold) → length turns ≤ length (flat_map turn_lines turns)
turns_in_lines [] = omega arith
turns_in_lines (turn ∷ turns) =
    let later = turns_in_lines turns in
    let whole : length (flat_map turn_lines (turn ∷ turns)) ≡ length (turn_lines turn) + length (flat_map turn_lines turns) =
    length-append (turn_lines turn) (flat_map turn_lines turns) in
    omega arith

turns_in_life : (number : ℕ) (life : LifeTold) → length life.turns ≤ length (life_lines number life)
turns_in_life number life =
    let turns = turns_in_lines life.turns in
    let within : length (lines_within life) ≡ length life.opening + length (flat_map turn_lines life.turns) =
    length-append life.opening (flat_map turn_lines life.turns) in
    let whole : length (lines_within life ++ EndOfLife ∷ []) ≡ length (lines_within life) + 1 = length-append (lines_within life) (EndOfLife ∷ []) in
    omega arith

abbrev turn_count : LifeTold → ℕ
turn_count life = length life.turns

turns_in_lives : (number : ℕ) (lives : List LifeTold) → sum_by turn_count lives ≤ length (lives_lines number lives)
turns_in_lives number [] = omega arith
turns_in_lives number (life ∷ lives) =
    let here = turns_in_life number life in
    let later = turns_in_lives (number + 1) lives in
    let sum : sum_by turn_count (life ∷ lives) ≡ length life.turns + sum_by turn_count lives = sum_by-cons turn_count life lives in
    let whole : length (lives_lines number (life ∷ lives)) ≡ length (life_lines number life) + length (lives_lines (number + 1) lives) =
    length-append (life_lines number life) (lives_lines (number + 1) lives) in
    omega arith

pub turns_in_text : (text : List ℕ) (told : Told) → IsSpelled SpellsTold text told → turns_told told ≤ length text
turns_in_text text told spelled =
    let these = spelled.spells in
    let head : List Texts.Line = map line_words (head_lines told.conf told.configuration) in
    let lines = lines_in_text these.others (body_lines told.body) these.spells.spelled in
    let lives = turns_in_lives 1 told.body.lives in
    let body : length (body_lines told.body) ≡ length (map Interface told.body.ifaces) + length (lives_lines 1 told.body.lives) =
    length-append (map Interface told.body.ifaces) (lives_lines 1 told.body.lives) in
    let whole : length text ≡ length (lines_text head) + length (lines_text these.others) =
    ap length (spelled.text_is ∙ ap lines_text these.are ∙ text_more head these.others) ∙ length-append (lines_text head) (lines_text these.others) in
    omega arith

pub turn_in_told : (Rests : BasisWord) (told : Told) (life turn : ℕ) (row : HostRow) → FirstUnjust Rests told life turn row → turn ≤ turns_told told
turn_in_told Rests told life turn row first =
    let here = first.counted in
    let turns : length first.life.turns ≡ length first.front + length first.rest = ap length first.turns ∙ length-append first.front first.rest in
    let whole : turns_told told ≡ sum_by turn_count first.earlier + (length first.life.turns + sum_by turn_count first.later) =
    ap (sum_by turn_count) first.lives ∙ sum_by-append turn_count first.earlier (first.life ∷ first.later)
    ∙ ap (λ n. sum_by turn_count first.earlier + n) (sum_by-cons turn_count first.life first.later) in
    omega arith
