-- A name as far as it was read.
use Rattle.std.proofs.Common.{◌≡◌, ℕ, ◌+◌, ◌<◌, ◌≤◌, true, false, List, [], ◌∷◌, ◌++◌, length, take, drop, Option, Some, None, refl, sym, ap, ◌∙◌, append_assoc, arith}
use Rattle.std.specs.Prelude.{◌&&◌, unwrap_or}
use Rattle.std.specs.List.{flat_map, list_all}
use Rattle.std.proofs.lemmas.Bool.{le-leb}
use Rattle.std.proofs.lemmas.List.{append-nil, length-append}
use Rattle.std.proofs.lemmas.List.Folds.{list_all-append}
use Rattle.domain_names.specs.declared.compressed.Piece.TheVariants.{End, Label, Pointer}
use Rattle.domain_names.specs.DomainName.{is_label, dotted, name_of}
use Rattle.domain_names.specs.CompressedName.{piece_of, Spells, ends, goes_on, points, IsNameAt, NoNameAt}
use Rattle.domain_names.specs.CompressedSteps.{with_label}
use Rattle.domain_names.proofs.NameBytes.{both, name_parts}
use Rattle.domain_names.proofs.Pieces.{spelled_by}

abbrev with_dots : List (List ℕ) → List ℕ
with_dots labels = flat_map (λ label. 46 ∷ label) labels

with_dots_more : (labels : List (List ℕ)) (label : List ℕ) → with_dots (labels ++ label ∷ []) ≡ with_dots labels ++ 46 ∷ label
with_dots_more [] label = append-nil (46 ∷ label)
with_dots_more (first ∷ labels) label =
    ap (λ (more : List ℕ). (46 ∷ first) ++ more) (with_dots_more labels label) ∙ sym (append_assoc (46 ∷ first) (with_dots labels) (46 ∷ label))

-- one more label of a name
dotted_more : (labels : List (List ℕ)) (label : List ℕ) → list_all is_label labels ≡ true → with_label (dotted labels) label ≡ dotted (labels ++ label ∷ [])
dotted_more [] label good = sym (append-nil label)
dotted_more ([] ∷ labels) label good = absurd cc
dotted_more ((b ∷ first) ∷ labels) label good =
    append_assoc (b ∷ first) (with_dots labels) (46 ∷ label) ∙ ap (λ (more : List ℕ). (b ∷ first) ++ more) (sym (with_dots_more labels label))

dots_grow : (labels more : List (List ℕ)) → length (with_dots labels) ≤ length (with_dots (labels ++ more))
dots_grow [] more = omega arith
dots_grow (first ∷ labels) more = simp length-append (omega (arith, dots_grow labels more))

-- more labels make no name shorter
dotted_grows : (labels more : List (List ℕ)) → length (dotted labels) ≤ length (dotted (labels ++ more))
dotted_grows [] more = omega arith
dotted_grows (first ∷ labels) more = simp length-append (omega (arith, dots_grow labels more))

no_labels : (labels : List (List ℕ)) → list_all is_label labels ≡ true → length (dotted labels) ≡ 0 → labels ≡ []
no_labels [] good none = refl
no_labels ([] ∷ labels) good none = absurd cc
no_labels ((b ∷ first) ∷ labels) good none = absurd (omega arith)

some_label : (labels : List (List ℕ)) → 1 ≤ length (dotted labels) → 1 ≤ length labels
some_label [] some = absurd (omega arith)
some_label (first ∷ labels) some = omega arith

-- The labels that were read, which are the text so far; those of the place where the walk stands come after them.
pub record Reading (value : List ℕ) (from start at : ℕ) (text : List ℕ) (after : Option ℕ) : Type 0 where
  pub done : List (List ℕ)
  pub spelled : text ≡ dotted done
  pub good : list_all is_label done ≡ true
  pub short : length text ≤ 253
  pub found : (labels : List (List ℕ)) (next : ℕ) → Spells value start at labels next → Spells value from from (done ++ labels) (unwrap_or after next)
  pub only : (all : List (List ℕ)) (n : ℕ) → Spells value from from all n
      → (labels : List (List ℕ)) × (next : ℕ) × Spells value start at labels next × (all ≡ done ++ labels) × (n ≡ unwrap_or after next)

pub read_none : (value : List ℕ) (from : ℕ) → Reading value from from from [] None
read_none value from = record {
  done = [];
  spelled = refl;
  good = refl;
  short = omega arith;
  found = λ labels next s. s;
  only = λ all n s. (all, n, s, refl, refl);
}

module _ (value : List ℕ) (from start at : ℕ) (text : List ℕ) (after : Option ℕ) (r : Reading value from start at text after) where
  pub read_label : (n : ℕ) (label : List ℕ) → piece_of value start at ≡ Label n → label ≡ take n (drop (at + 1) value) → is_label label ≡ true
      → length (with_label text label) ≤ 253 → Reading value from start (at + 1 + n) (with_label text label) after
  read_label n label e label_is good short = record {
    done = r.done ++ label ∷ [];
    spelled = ap (λ (t : List ℕ). with_label t label) r.spelled ∙ dotted_more r.done label r.good;
    good = list_all-append is_label r.done (label ∷ []) ∙ rw (r.good, good) refl;
    short = short;
    found = λ labels next s. rw (append_assoc r.done (label ∷ []) labels, label_is) (r.found (take n (drop (at + 1) value) ∷ labels) next (goes_on e s));
    only = λ all m s.
        let before = r.only all m s in
        let by = spelled_by (Label n) e before.2 in (
          by.0,
          before.1,
          by.1,
          before.3 ∙ ap (λ (ls : List (List ℕ)). r.done ++ ls) (by.2 ∙ ap (λ (l : List ℕ). l ∷ by.0) (sym label_is))
              ∙ sym (append_assoc r.done (label ∷ []) by.0),
          before.4,
        );
  }

  pub read_pointer : (target : ℕ) → piece_of value start at ≡ Pointer target → Reading value from target target text (Some (unwrap_or after (at + 2)))
  read_pointer target e = record {
    done = r.done;
    spelled = r.spelled;
    good = r.good;
    short = r.short;
    found = λ labels next s. r.found labels (at + 2) (points e s);
    only = λ all m s.
        let before = r.only all m s in
        let by = spelled_by (Pointer target) e before.2 in
        (before.0, by.0, by.1, before.3, before.4 ∙ ap (λ (n : ℕ). unwrap_or after n) by.2);
  }

  -- what any name there would be
  name_there : (all : List ℕ) (n : ℕ) → IsNameAt value from all n
      → (labels : List (List ℕ)) × (next : ℕ) × Spells value start at labels next × (name_of (r.done ++ labels) ≡ Some all)
  name_there all n is =
      let before = r.only is.labels n is.spelled in
      (before.0, before.1, before.2, ap name_of (sym before.3) ∙ is.named)

  pub read_end : piece_of value start at ≡ End → 1 ≤ length text → IsNameAt value from text (unwrap_or after (at + 1))
  read_end e some =
      let spelled : length text ≡ length (dotted r.done) = ap (λ (t : List ℕ). length t) r.spelled in
      record {
        labels = r.done ++ [];
        spelled = r.found [] (at + 1) (ends e);
        named =
            rw (
              append-nil r.done,
              le-leb 1 (length r.done) (some_label r.done (omega arith)),
              r.good,
              le-leb (length (dotted r.done)) 253 (omega (arith, r.short)),
              ← r.spelled,
            )
            refl;
      }

  pub refuses_label : (n : ℕ) → piece_of value start at ≡ Label n → is_label (take n (drop (at + 1) value)) ≡ false → NoNameAt value from
  refuses_label n e bad all m is =
      let there = name_there all m is in
      let by = spelled_by (Label n) e there.2 in
      let parts = name_parts (r.done ++ there.0) all there.3 in
      let labels : (list_all is_label r.done && list_all is_label there.0) ≡ true = sym (list_all-append is_label r.done there.0) ∙ parts.1 in
      let second = (both (list_all is_label r.done) (list_all is_label there.0) labels).1 in
      let first : (is_label (take n (drop (at + 1) value)) && list_all is_label by.0) ≡ true =
      ap (λ (ls : List (List ℕ)). list_all is_label ls) (sym by.2) ∙ second in
      let good = (both (is_label (take n (drop (at + 1) value))) (list_all is_label by.0) first).0 in
      absurd cc

  pub refuses_long : (n : ℕ) → piece_of value start at ≡ Label n → 253 < length (with_label text (take n (drop (at + 1) value))) → NoNameAt value from
  refuses_long n e long all m is =
      let label = take n (drop (at + 1) value) in
      let there = name_there all m is in
      let by = spelled_by (Label n) e there.2 in
      let parts = name_parts (r.done ++ there.0) all there.3 in
      let split : r.done ++ there.0 ≡ (r.done ++ label ∷ []) ++ by.0 =
      ap (λ (ls : List (List ℕ)). r.done ++ ls) by.2 ∙ sym (append_assoc r.done (label ∷ []) by.0) in
      let grown = dotted_grows (r.done ++ label ∷ []) by.0 in
      let text_is : with_label text label ≡ dotted (r.done ++ label ∷ []) =
      ap (λ (t : List ℕ). with_label t label) r.spelled ∙ dotted_more r.done label r.good in
      let short : length (dotted ((r.done ++ label ∷ []) ++ by.0)) ≤ 253 = rw split at parts.2 in
      absurd (omega (arith, long, ap (λ (t : List ℕ). length t) text_is, grown, short))
