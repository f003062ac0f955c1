-- The instances and the malformed option of an area are those of its grammar.
use Rattle.std.proofs.Common.{◌≡◌, ◌≢◌, ℕ, zero, suc, ◌+◌, ◌<◌, ◌≤◌, ◌⊎◌, inl, inr, true, false, List, [], ◌∷◌, ◌++◌, length, take, drop, Some, None, refl, sym, ap, subst, ◌∙◌, append_assoc, arith, eqb, ltb}
use Rattle.std.specs.List.{flat_map, AllByRecursion}
use Rattle.std.proofs.lemmas.Bool.{cases_eq, cases_lt, le-ltb}
use Rattle.std.proofs.lemmas.List.{append-nil, length-drop, take_at, drop_at, take-append-drop, length-append, length-take, get_or-drop}
use Rattle.v4_options.specs.declared.area.Front.TheVariants.{Pad, End, Cut, Whole}
use Rattle.v4_options.specs.OptionArea.{Instance, front_of, instances_in, malformed_in}
use Rattle.v4_options.specs.AreaGrammar.{Part, padding, option, part_text, FitsPart, area_text, part_instances, IsEnd, IsCut, IsArea, IsMalformedAt}
use Rattle.net_types.specs.Marks.{AreBytes}
use Rattle.v4_options.proofs.Fronts.{instances_by, malformed_by}

not_eq : (a b : ℕ) → a ≢ b → eqb a b ≡ false
not_eq a b h = grind arith

is_lt : (a b : ℕ) → a < b → ltb a b ≡ true
is_lt a b h = grind arith

option_front : (code : ℕ) (value rest : List ℕ) → code ≢ 0 → code ≢ 255 → front_of (code ∷ length value ∷ (value ++ rest)) ≡ Whole (length value)
unfolding front_of
option_front code value rest zero_ne end_ne =
    rw (not_eq code 0 zero_ne, not_eq code 255 end_ne, le-ltb (suc (length (value ++ rest))) (length value + 1) (omega (arith, length-append value rest))) refl

pad_front : (rest : List ℕ) → front_of (0 ∷ rest) ≡ Pad
unfolding front_of
pad_front rest = refl

end_front : (rest : List ℕ) → IsEnd rest → front_of rest ≡ End
unfolding front_of
end_front [] e = refl
end_front (code ∷ rest) e = rw e refl

cut_front : (rest : List ℕ) → IsCut rest → front_of rest ≡ Cut
unfolding front_of
cut_front [] c = absurd c
cut_front (code ∷ []) c = rw (not_eq code 0 c.0, not_eq code 255 c.1) refl
cut_front (code ∷ len ∷ rest) c = rw (not_eq code 0 c.0, not_eq code 255 c.1, is_lt (suc (length rest)) (len + 1) (omega (arith, c.2))) refl

part_split : (part : Part) (parts : List Part) (rest : List ℕ) → area_text (part ∷ parts) ++ rest ≡ part_text part ++ (area_text parts ++ rest)
part_split part parts rest = append_assoc (part_text part) (area_text parts) rest

-- parts at the front give their instances, and what follows gives the others
pub text_instances : (parts : List Part) (rest : List ℕ) → AllByRecursion FitsPart parts
    → instances_in (area_text parts ++ rest) ≡ flat_map part_instances parts ++ instances_in rest
text_instances [] rest fit = refl
text_instances (padding ∷ parts) rest fit =
    ap instances_in (part_split padding parts rest)
    ∙ instances_by (0 ∷ (area_text parts ++ rest)) Pad (pad_front (area_text parts ++ rest))
    ∙ text_instances parts rest fit.1
text_instances (option code value ∷ parts) rest fit =
    let more = area_text parts ++ rest in
    ap instances_in (part_split (option code value) parts rest)
    ∙ instances_by (code ∷ length value ∷ (value ++ more)) (Whole (length value)) (option_front code value more fit.0.0 fit.0.1)
    ∙ rw (take_at value more (length value) refl, drop_at value more (length value) refl)
    (ap (λ (is : List Instance). (code, value) ∷ is) (text_instances parts rest fit.1))

pub text_malformed : (at : ℕ) (parts : List Part) (rest : List ℕ) → AllByRecursion FitsPart parts
    → malformed_in at (area_text parts ++ rest) ≡ malformed_in (at + length (area_text parts)) rest
text_malformed at [] rest fit = ap (λ (n : ℕ). malformed_in n rest) (omega arith)
text_malformed at (padding ∷ parts) rest fit =
    ap (malformed_in at) (part_split padding parts rest)
    ∙ malformed_by at (0 ∷ (area_text parts ++ rest)) Pad (pad_front (area_text parts ++ rest))
    ∙ text_malformed (at + 1) parts rest fit.1
    ∙ ap (λ (n : ℕ). malformed_in n rest) (omega arith)
text_malformed at (option code value ∷ parts) rest fit =
    let more = area_text parts ++ rest in
    let places : at + (2 + length value) + length (area_text parts) ≡ at + length (area_text (option code value ∷ parts)) =
    omega (arith, length-append value (area_text parts)) in
    ap (malformed_in at) (part_split (option code value) parts rest)
    ∙ malformed_by at (code ∷ length value ∷ (value ++ more)) (Whole (length value)) (option_front code value more fit.0.0 fit.0.1)
    ∙ rw (drop_at value more (length value) refl) (text_malformed (at + (2 + length value)) parts rest fit.1)
    ∙ ap (λ (n : ℕ). malformed_in n rest) places

pub area_instances : (area : List ℕ) (parts : List Part) → IsArea area parts → instances_in area ≡ flat_map part_instances parts
area_instances area parts is =
    ap instances_in is.text ∙ text_instances parts is.rest is.fit
    ∙ ap (λ (more : List Instance). flat_map part_instances parts ++ more) (instances_by is.rest End (end_front is.rest is.ends))
    ∙ append-nil (flat_map part_instances parts)

pub area_whole : (at : ℕ) (area : List ℕ) (parts : List Part) → IsArea area parts → malformed_in at area ≡ None
area_whole at area parts is =
    ap (malformed_in at) is.text ∙ text_malformed at parts is.rest is.fit
    ∙ malformed_by (at + length (area_text parts)) is.rest End (end_front is.rest is.ends)

pub area_malformed : (at : ℕ) (area : List ℕ) (place : ℕ) → IsMalformedAt area place → malformed_in at area ≡ Some (at + place)
area_malformed at area place is =
    ap (malformed_in at) is.text ∙ text_malformed at is.parts is.rest is.fit
    ∙ malformed_by (at + length (area_text is.parts)) is.rest Cut (cut_front is.rest is.cut)
    ∙ ap (λ (n : ℕ). Some (at + n)) (sym is.after)

-- parts at the front, and an end or a cut option after them
record Shape (area : List ℕ) : Type 0 where
  parts : List Part
  rest : List ℕ
  text : area ≡ area_text parts ++ rest
  fit : AllByRecursion FitsPart parts
  ends : IsEnd rest ⊎ IsCut rest

with_part : (part : Part) (area : List ℕ) → FitsPart part → Shape area → Shape (part_text part ++ area)
with_part part area fits s = record {
  parts = part ∷ s.parts;
  rest = s.rest;
  text = ap (λ (xs : List ℕ). part_text part ++ xs) s.text ∙ sym (part_split part s.parts s.rest);
  fit = (fits, s.fit);
  ends = s.ends;
}

at_end : (rest : List ℕ) → IsEnd rest ⊎ IsCut rest → Shape rest
at_end rest e = record { parts = []; rest = rest; text = refl; fit = tt; ends = e }

-- an option that isn't padding and isn't the end, where what follows it has a shape
option_shape : (code : ℕ) (rest : List ℕ) → AreBytes (code ∷ rest) → code ≢ 0 → code ≢ 255
    → ((area : List ℕ) → length area ≤ length rest → AreBytes area → Shape area) → Shape (code ∷ rest)
option_shape code [] bytes zero_ne end_ne shape = at_end (code ∷ []) (inr (zero_ne, end_ne))
option_shape code (len ∷ rest) bytes zero_ne end_ne shape =
    elim (cases_lt (length rest) len) [
      | inl short ↦ at_end (code ∷ len ∷ rest) (inr (zero_ne, end_ne, short))
      | inr long ↦
          let taken : length (take len rest) ≡ len = omega (arith, length-take len rest) in
          let after = shape (drop len rest) (omega (arith, length-drop len rest)) (λ i. rw get_or-drop (bytes (suc (suc (len + i))))) in
          let whole = with_part (option code (take len rest)) (drop len rest) (zero_ne, end_ne, omega (arith, taken, bytes 1)) after in
          rw (taken, take-append-drop len rest) at whole
    ]

shape_within : (n : ℕ) (area : List ℕ) → length area ≤ n → AreBytes area → Shape area
shape_within n [] small bytes = at_end [] (inl tt)
shape_within zero (code ∷ rest) small bytes = absurd (omega arith)
shape_within (suc n) (code ∷ rest) small bytes =
    elim (cases_eq code 0) [
      | inl e ↦ subst (λ (c : ℕ). Shape (c ∷ rest)) (sym e) (with_part padding rest tt (shape_within n rest (omega arith) (λ i. bytes (suc i))))
      | inr zero_ne ↦ elim (cases_eq code 255) [
        | inl e ↦ at_end (code ∷ rest) (inl e)
        | inr end_ne ↦ option_shape code rest bytes zero_ne end_ne (λ area h. shape_within n area (omega arith))
      ]
    ]

pub area_either : (area : List ℕ) → AreBytes area → ((parts : List Part) × IsArea area parts) ⊎ ((place : ℕ) × IsMalformedAt area place)
area_either area bytes =
    let s = shape_within (length area) area (omega arith) bytes in
    elim s.ends [
      | inl ends ↦ inl (s.parts, record { rest = s.rest; text = s.text; fit = s.fit; ends = ends })
      | inr cut ↦ inr (length (area_text s.parts), record { parts = s.parts; rest = s.rest; text = s.text; fit = s.fit; after = refl; cut = cut })
    ]
