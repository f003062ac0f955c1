-- What was cut is a front of the whole.
use Rattle.std.proofs.Common.{ℕ, ◌≡◌, List, [], ◌++◌, length, take, drop, Option, Some, None, refl, sym, ap, subst, ◌∙◌, append_assoc, append-nil}
use Rattle.std.specs.Prelude.{flat_map}
use Rattle.std.proofs.Math.Seq.{take-append_seam}
use Rattle.std.proofs.lemmas.List.{take-append-drop}
use Rattle.std.proofs.lemmas.List.Concat.{flat_map-append}
use Rattle.script_model.specs.Lines.{Line, line_text, lines_text}
use Rattle.turn_model.specs.Turns.{Life}
use Rattle.turn_model.specs.Lives.{OpeningMet, Met, life_after, opening_lines, turn_lines, closing_lines, life_lines}
use Rattle.daemon.specs.Streams.{WritesLines, WritesFront}
use Rattle.daemon.specs.Cuts.{CutAt, Between, InTurn, AtEnd, cut_lines, turns_left}
use Rattle.daemon.proofs.Stretches.{life_after-append}
use Rattle.daemon.proofs.CutOffs.{front_after}

-- a front of lines is one of all that holds them
pub front_wider : (old new : Option (List ℕ)) (whole lines more : List Line) → WritesFront old new whole lines
    → WritesFront old new [] (whole ++ (lines ++ more))
front_wider None new whole lines more p = p
front_wider (Some w) new whole lines more p =
    let some : List ℕ = take p.0 (lines_text lines) in
    let front : List ℕ = lines_text whole ++ some in
    let rest : List ℕ = drop p.0 (lines_text lines) ++ lines_text more in
    let is : lines_text (whole ++ (lines ++ more)) ≡ front ++ rest =
    flat_map-append line_text whole (lines ++ more)
    ∙ ap (λ (x : List ℕ). lines_text whole ++ x) (flat_map-append line_text lines more
    ∙ ap (λ (x : List ℕ). x ++ lines_text more) (sym (take-append-drop p.0 (lines_text lines)))
    ∙ append_assoc some (drop p.0 (lines_text lines)) (lines_text more))
    ∙ sym (append_assoc (lines_text whole) some rest) in (
      length front,
      p.1 ∙ ap (λ (x : List ℕ). Some x) (append_assoc w (lines_text whole) some
          ∙ ap (λ (x : List ℕ). x ++ front) (sym (append-nil w))
          ∙ ap (λ (x : List ℕ). (w ++ []) ++ x) (sym (take-append_seam front rest) ∙ ap (λ (x : List ℕ). take (length front) x) (sym is))),
    )

-- lines were written, and then a front of others
pub front_then : (old mid new : Option (List ℕ)) (before lines : List Line) → WritesLines old mid before → WritesFront mid new [] lines
    → WritesFront old new [] (before ++ lines)
front_then old mid new before lines p q =
    subst (λ (ls : List Line). WritesFront old new [] (before ++ ls)) (append-nil lines)
    (front_wider old new before lines []
    (subst (λ (ls : List Line). WritesFront old new ls lines) (append-nil before) (front_after old mid new before [] lines p q)))

-- what follows the lines written whole, where all that was foretold comes
lines_left : (life : Life) (at : CutAt)
    → (more : List Line) × (flat_map turn_lines (turns_left at) ++ closing_lines (life_after life (turns_left at)) ≡ cut_lines life at ++ more)
lines_left life (Between rest) = (flat_map turn_lines rest ++ closing_lines (life_after life rest), refl)
lines_left life (InTurn met rest) = (
  flat_map turn_lines rest ++ closing_lines (life_after met.life rest),
  append_assoc (turn_lines met) (flat_map turn_lines rest) (closing_lines (life_after met.life rest)),
)
lines_left life AtEnd = ([], sym (append-nil (closing_lines life)))

-- what was cut is a front of the lines of the life with the turns that were still to come
pub front_of_life : (opening : OpeningMet) (mets : List Met) (at : CutAt) (old new : Option (List ℕ))
    → WritesFront old new (opening_lines opening ++ flat_map turn_lines mets) (cut_lines (life_after opening.life mets) at)
    → WritesFront old new [] (life_lines opening (mets ++ turns_left at))
front_of_life opening mets at old new front =
    let life : Life = life_after opening.life mets in
    let left = lines_left life at in
    let rest : List Line = flat_map turn_lines (turns_left at) ++ closing_lines (life_after life (turns_left at)) in
    let is : life_lines opening (mets ++ turns_left at) ≡ (opening_lines opening ++ flat_map turn_lines mets) ++ (cut_lines life at ++ left.0) =
    ap (λ (ls : List Line). opening_lines opening ++ (ls ++ closing_lines (life_after opening.life (mets ++ turns_left at))))
    (flat_map-append turn_lines mets (turns_left at))
    ∙ ap (λ (l : Life). opening_lines opening ++ ((flat_map turn_lines mets ++ flat_map turn_lines (turns_left at)) ++ closing_lines l))
    (life_after-append opening.life mets (turns_left at))
    ∙ ap (λ (ls : List Line). opening_lines opening ++ ls)
    (append_assoc (flat_map turn_lines mets) (flat_map turn_lines (turns_left at)) (closing_lines (life_after life (turns_left at))))
    ∙ sym (append_assoc (opening_lines opening) (flat_map turn_lines mets) rest)
    ∙ ap (λ (ls : List Line). (opening_lines opening ++ flat_map turn_lines mets) ++ ls) left.1 in
    subst (λ (ls : List Line). WritesFront old new [] ls) (sym is)
    (front_wider old new (opening_lines opening ++ flat_map turn_lines mets) (cut_lines life at) left.0 front)
