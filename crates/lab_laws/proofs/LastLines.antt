-- The last line of a lab's text.
use Rattle.std.proofs.Common.{◌≡◌, ℕ, Bool, true, false, List, [], ◌∷◌, ◌++◌, map, length, drop, codes, bytes_eq, refl, sym, ap, ◌∙◌, arith, append_assoc}
use Rattle.std.specs.Prelude.{flat_map}
use Rattle.std.proofs.lemmas.List.{drop_at, length-append, map-append}
use Rattle.std.proofs.lemmas.Slice.Eq.{bytes_eq-Decides}
use Rattle.net_types.specs.TextLines.{Line, ended}
use Rattle.net_types.proofs.LineSteps.{text_more}
use Rattle.settings.specs.declared.interfaces.Managed.{Managed}
use Rattle.lab_schedule.specs.declared.event.LabEvent.{LabEvent}
use Rattle.lab_schedule.specs.Schedules.{Schedule}
use Rattle.lab_model.specs.Exchanges.{xids_unlike}
use Rattle.lab_model.specs.LabLines.{LabLine, XidsUnlike, XidsRepeat, lab_lines, lab_text, last_line, line_text, lines_from, lines_of, lines_text}
use Rattle.lab_model.specs.Labs.{Lab, LabStep, lab_after, lab_opened, lab_step, no_lab}
use Rattle.lab_laws.specs.HeldInLabs.{UnlikeIsRead}

-- the lines before the last one, which tells whether a number came again
record EndsBy (unlike : Bool) (lines : List LabLine) : Type 0 where
  front : List LabLine
  is : lines ≡ front ++ last_line unlike ∷ []

behind : (unlike : Bool) (more lines : List LabLine) → EndsBy unlike lines → EndsBy unlike (more ++ lines)
behind unlike more lines ends = record {
  front = more ++ ends.front;
  is = ap (λ (ls : List LabLine). more ++ ls) ends.is ∙ sym (append_assoc more ends.front (last_line unlike ∷ []));
}

ends_from : (events : List LabEvent) (lab : Lab) → EndsBy (xids_unlike (lab_after events lab).sent) (lines_from events lab)
ends_from [] lab = record { front = []; is = refl }
ends_from (event ∷ events) lab =
    behind (xids_unlike (lab_after events (lab_step event lab).lab).sent) (lines_of lab (lab_step event lab)) (lines_from events (lab_step event lab).lab)
    (ends_from events (lab_step event lab).lab)

module _ (managed : List Managed) (schedule : Schedule) where
  abbrev first : LabStep
  first = lab_opened managed schedule

  abbrev unlike : Bool
  unlike = xids_unlike (lab_after schedule.events first.lab).sent

  ends : EndsBy unlike (lab_lines managed schedule)
  ends = behind unlike (lines_of (no_lab schedule.pool) first) (lines_from schedule.events first.lab) (ends_from schedule.events first.lab)

-- ---- texts

same_rest : (front other one rest : List ℕ) → length one ≡ length rest → front ++ one ≡ other ++ rest → one ≡ rest
same_rest front other one rest len same =
    let fronts : length other ≡ length front = omega (arith, len, ap length same, length-append front one, length-append other rest) in
    sym (drop_at front one (length front) refl) ∙ ap (drop (length front)) same ∙ drop_at other rest (length front) fronts

repeat_differs : ended (codes "xids unlike") ≡ ended (codes "xids repeat") → ⊥
repeat_differs same =
    let alike : bytes_eq (ended (codes "xids unlike")) (ended (codes "xids repeat")) ≡ true =
    (bytes_eq-Decides (ended (codes "xids unlike")) (ended (codes "xids repeat"))).1 same in
    no alike
  where
    no : false ≡ true → ⊥
    no e = cc

last_text : (front : List LabLine) (last : LabLine) → lines_text (front ++ last ∷ []) ≡ lines_text front ++ (ended (line_text last) ++ [])
last_text front last =
    ap (λ (lines : List Line). flat_map ended lines) (map-append line_text front (last ∷ []))
    ∙ text_more (map line_text front) (line_text last ∷ [])

by_last : (unlike : Bool) (lines : List LabLine) (front : List ℕ) → EndsBy unlike lines → lines_text lines ≡ front ++ ended (codes "xids unlike")
    → (text_front : List LabLine) × (lines ≡ text_front ++ XidsUnlike ∷ [])
by_last true lines front ends is = (ends.front, ends.is)
by_last false lines front ends is =
    absurd (repeat_differs (same_rest front (lines_text ends.front) (ended (codes "xids unlike")) (ended (codes "xids repeat")) refl
    (sym is ∙ ap lines_text ends.is ∙ last_text ends.front XidsRepeat)))

pub unlike_is_read : UnlikeIsRead
unfolding lab_text
unlike_is_read managed schedule front is =
    let last = by_last (unlike managed schedule) (lab_lines managed schedule) front (ends managed schedule) is in
    record { front = last.0; is = last.1 }
