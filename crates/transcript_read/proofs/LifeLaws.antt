-- A life as its lines, and as its opening and its turns.
use Rattle.std.proofs.Common.{◌≡◌, ℕ, ◌+◌, true, false, List, [], ◌∷◌, ◌++◌, map, flat_map, length, None, refl, sym, ap, ◌∙◌, subst, append_assoc, IsTrue}
use Rattle.std.specs.List.{AllByRecursion}
use Rattle.net_types.proofs.AllLaws.{all_join, all_map}
use Rattle.script_model.specs.Lines.{Line}
use Rattle.script_model.specs.Lines as Model
use Rattle.transcript_lines.specs.declared.role.Role.{Role}
use Rattle.transcript_lines.specs.declared.role.Role.TheVariants as roles
use Rattle.transcript_lines.specs.Roles.{role_of}
use Rattle.transcript_model.specs.LifeShapes.{AllFollow, FitListings, FitsLife, Follows, NeverFall, Rise, follows, moments_in, rows_in_front}
use Rattle.transcript_model.specs.Told.{LifeTold, TurnTold, lines_within, lives_lines, turn_lines}
use Rattle.transcript_read.proofs.InnerLaws.{Good, is_inner, no_rows}
use Rattle.transcript_read.proofs.WalkLaws.{Kind, Life, LivesFit, OfEnd, OfInterface, OfLife, OfOther, OfStart, OfTurn, Parts, kind_of, led_by, lives_in, opened, parted}

abbrev shown : Parts → List Line
shown parts = parts.opening ++ flat_map turn_lines parts.turns

led_lines : (line : Line) (parts : Parts) → Kind line → shown (led_by line parts) ≡ line ∷ shown parts
led_lines line parts (OfInterface spec is) = subst (λ l. shown (led_by l parts) ≡ l ∷ shown parts) (sym is) refl
led_lines line parts (OfLife number is) = subst (λ l. shown (led_by l parts) ≡ l ∷ shown parts) (sym is) refl
led_lines line parts (OfStart begin is) = subst (λ l. shown (led_by l parts) ≡ l ∷ shown parts) (sym is) refl
led_lines line parts (OfEnd is) = subst (λ l. shown (led_by l parts) ≡ l ∷ shown parts) (sym is) refl
led_lines line parts (OfTurn at salt event bytes is plain) = subst (λ l. shown (led_by l parts) ≡ l ∷ shown parts) (sym is) refl
led_lines line parts (OfOther plain leads follow) = ap shown (leads parts)

parted_lines : (lines : List Line) → shown (parted lines) ≡ lines
parted_lines [] = refl
parted_lines (line ∷ lines) = led_lines line (parted lines) (kind_of line) ∙ ap (λ ls. line ∷ ls) (parted_lines lines)

abbrev IsInner : Line → Type 0
IsInner line = IsTrue (is_inner (role_of line))

record Follow (parts : Parts) : Type 0 where
  opening : AllFollow parts.opening
  turns : AllByRecursion (λ turn. AllFollow turn.lines) parts.turns

led_follow : (line : Line) (parts : Parts) → Kind line → IsInner line → Follow parts → Follow (led_by line parts)
led_follow line parts (OfInterface spec is) inner follow = let never : false ≡ true = sym (ap (λ l. is_inner (role_of l)) is) ∙ inner in cc
led_follow line parts (OfLife number is) inner follow = let never : false ≡ true = sym (ap (λ l. is_inner (role_of l)) is) ∙ inner in cc
led_follow line parts (OfStart begin is) inner follow = let never : false ≡ true = sym (ap (λ l. is_inner (role_of l)) is) ∙ inner in cc
led_follow line parts (OfEnd is) inner follow = let never : false ≡ true = sym (ap (λ l. is_inner (role_of l)) is) ∙ inner in cc
led_follow line parts (OfTurn at salt event bytes is plain) inner follow =
    subst (λ l. Follow (led_by l parts)) (sym is) (record { opening = tt; turns = (follow.opening, follow.turns) })
led_follow line parts (OfOther plain leads same) inner follow =
    subst Follow (sym (leads parts)) (record { opening = (sym same ∙ inner, follow.opening); turns = follow.turns })

parted_follow : (lines : List Line) → AllByRecursion IsInner lines → Follow (parted lines)
parted_follow [] inner = record { opening = tt; turns = tt }
parted_follow (line ∷ lines) inner = led_follow line (parted lines) (kind_of line) inner.0 (parted_follow lines inner.1)

-- ---- to what is told

abbrev pub life_told : Life → LifeTold
life_told life = record { begin = life.begin; opening = (parted life.inner).opening; turns = (parted life.inner).turns }

fits_told : (life : Life) (number : ℕ) → Good (opened number life.begin.at) life.inner → FitsLife (life_told life)
fits_told life number good =
    let same = parted_lines life.inner in
    let follow = parted_follow life.inner good.inner in
    record {
      opening = follow.opening;
      turns = follow.turns;
      listings = subst (λ ls. FitListings (Model.Start life.begin ∷ ls)) (sym same) (no_rows (rows_in_front life.inner) good.counted, good.listings);
      moments = subst (λ ls. NeverFall life.begin.at (moments_in ls)) (sym same) good.moments;
    }

pub lives_told : (lives : List Life) (number : ℕ) → LivesFit number lives → AllByRecursion FitsLife (map life_told lives)
lives_told [] number fit = tt
lives_told (life ∷ lives) number fit = (fits_told life number fit.0, lives_told lives (number + 1) fit.1)

pub lives_shown : (lives : List Life) (number : ℕ) → lives_lines number (map life_told lives) ≡ lives_in number lives
lives_shown [] number = refl
lives_shown (life ∷ lives) number =
    let rest = lives_lines (number + 1) (map life_told lives) in
    ap (λ ls. Model.Life number ∷ Model.Start life.begin ∷ ls)
    (append_assoc (shown (parted life.inner)) (Model.EndOfLife ∷ []) rest
    ∙ ap (λ s. s ++ Model.EndOfLife ∷ rest) (parted_lines life.inner)
    ∙ ap (λ r. life.inner ++ Model.EndOfLife ∷ r) (lives_shown lives (number + 1)))

-- ---- from what is told

abbrev pub life_of : LifeTold → Life
life_of life = record { begin = life.begin; inner = lines_within life }

follow_inner : (role : Role) → follows role ≡ true → is_inner role ≡ true
follow_inner roles.Head e = cc
follow_inner (roles.Interface spec) e = cc
follow_inner (roles.Life number) e = cc
follow_inner (roles.Start at) e = cc
follow_inner (roles.Turn at) e = refl
follow_inner (roles.Listing count) e = refl
follow_inner (roles.Row row) e = refl
follow_inner roles.Other e = refl
follow_inner roles.End e = cc

all_inner : (lines : List Line) → AllFollow lines → AllByRecursion IsInner lines
all_inner lines each = all_map Follows IsInner (λ line follow. follow_inner (role_of line) follow) lines each

turns_inner : (turns : List TurnTold) → AllByRecursion (λ turn. AllFollow turn.lines) turns → AllByRecursion IsInner (flat_map turn_lines turns)
turns_inner [] each = tt
turns_inner (turn ∷ turns) each = all_join IsInner (turn_lines turn) (flat_map turn_lines turns) (refl, all_inner turn.lines each.0) (turns_inner turns each.1)

pub told_good : (life : LifeTold) (number : ℕ) → FitsLife life → Good (opened number life.begin.at) (lines_within life)
told_good life number fits = record {
  inner = all_join IsInner life.opening (flat_map turn_lines life.turns) (all_inner life.opening fits.opening) (turns_inner life.turns fits.turns);
  counted = ap length fits.listings.0;
  rise = subst (λ rows. Rise None rows) (sym fits.listings.0) tt;
  listings = fits.listings.1;
  moments = fits.moments;
}

pub told_fit : (lives : List LifeTold) (number : ℕ) → AllByRecursion FitsLife lives → LivesFit number (map life_of lives)
told_fit [] number each = tt
told_fit (life ∷ lives) number each = (told_good life number each.0, told_fit lives (number + 1) each.1)

pub told_shown : (lives : List LifeTold) (number : ℕ) → lives_lines number lives ≡ lives_in number (map life_of lives)
told_shown [] number = refl
told_shown (life ∷ lives) number =
    ap (λ ls. Model.Life number ∷ Model.Start life.begin ∷ ls)
    (append_assoc (lines_within life) (Model.EndOfLife ∷ []) (lives_lines (number + 1) lives)
    ∙ ap (λ r. lines_within life ++ Model.EndOfLife ∷ r) (told_shown lives (number + 1)))
