-- A text is as long as it has lines, so each life has fewer; and what holds of all lines of a body.
use Rattle.std.proofs.Common.{◌≡◌, ℕ, ◌+◌, ◌<◌, ◌≤◌, ◌^◌, List, [], ◌∷◌, ◌++◌, map, length, arith, length-append}
use Rattle.std.specs.List.{AllByRecursion}
use Rattle.net_types.proofs.AllLaws.{all_join}
use Rattle.net_types.specs.declared.interface.IfSpec.{IfSpec}
use Rattle.script_model.specs.Lines.{Line, line_text, line_words, lines_text}
use Rattle.script_model.specs.Lines as Model
use Rattle.transcript_model.specs.Told.{LifeTold, life_lines, lines_within, lives_lines}
use Rattle.told_lives.specs.Laws.{IsShort}

pub long_enough : (lines : List Line) → length lines ≤ length (lines_text lines)
long_enough [] = omega arith
long_enough (line ∷ lines) =
    let whole = length-append (line_text line) (lines_text lines) in
    let one = length-append (line_words line) (10 ∷ []) in
    let later = long_enough lines in
    omega (arith, whole, one, later)

-- of all lines those at the end
pub last_short : (head front back : List Line) → length (lines_text (head ++ (front ++ back))) < 2 ^ 64 → length back < 2 ^ 64
last_short head front back short =
    let long = long_enough (head ++ (front ++ back)) in
    let whole = length-append head (front ++ back) in
    let later = length-append front back in
    omega (arith, short, long, whole, later)

life_counted : (number : ℕ) (life : LifeTold) → length (life_lines number life) ≡ length (lines_within life) + 3
life_counted number life = let e = length-append (lines_within life) (Model.EndOfLife ∷ []) in omega (arith, e)

pub lives_short : (number : ℕ) (lives : List LifeTold) → length (lives_lines number lives) < 2 ^ 64 → AllByRecursion IsShort lives
lives_short number [] few = tt
lives_short number (life ∷ lives) few =
    let whole = length-append (life_lines number life) (lives_lines (number + 1) lives) in
    let one = life_counted number life in
    (omega (arith, few, whole, one), lives_short (number + 1) lives (omega (arith, few, whole, one)))

pub lives_few : (number : ℕ) (lives : List LifeTold) → length lives ≤ length (lives_lines number lives)
lives_few number [] = omega arith
lives_few number (life ∷ lives) =
    let whole = length-append (life_lines number life) (lives_lines (number + 1) lives) in
    let one = life_counted number life in
    let later = lives_few (number + 1) lives in
    omega (arith, whole, one, later)

-- ---- all lines

module _ (P : Line → Type 0) where
  pub ifaces_all : (specs : List IfSpec) → AllByRecursion (λ (spec : IfSpec). P (Model.Interface spec)) specs → AllByRecursion P (map Model.Interface specs)
  ifaces_all [] each = tt
  ifaces_all (spec ∷ specs) each = (each.0, ifaces_all specs each.1)

  pub lives_all : (number : ℕ) (lives : List LifeTold) → ((n : ℕ) → n < number + length lives → P (Model.Life n)) → P Model.EndOfLife
      → AllByRecursion (λ (life : LifeTold). P (Model.Start life.begin)) lives
      → AllByRecursion (λ (life : LifeTold). AllByRecursion P (lines_within life)) lives → AllByRecursion P (lives_lines number lives)
  lives_all number [] each last starts within = tt
  lives_all number (life ∷ lives) each last starts within =
      all_join P (life_lines number life) (lives_lines (number + 1) lives)
      (each number (omega arith), (starts.0, all_join P (lines_within life) (Model.EndOfLife ∷ []) within.0 (last, tt)))
      (lives_all (number + 1) lives (λ n less. each n (omega (arith, less))) last starts.1 within.1)
