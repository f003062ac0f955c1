-- The labels of a text, joined by dots, are the text again.
use Rattle.std.proofs.Common.{◌≡◌, ℕ, zero, suc, ◌+◌, ◌<◌, ◌≤◌, ◌⊎◌, inl, inr, Bool, true, false, cond, List, [], ◌∷◌, ◌++◌, length, Option, Some, None, refl, sym, ap, ◌∙◌, append_assoc, arith, eqb, ltb, leb}
use Rattle.std.specs.Prelude.{◌&&◌, is_some}
use Rattle.std.specs.List.{flat_map, list_all}
use Rattle.std.proofs.lemmas.Bool.{le-leb, lt-leb, eqb-true, cases_lt}
use Rattle.std.proofs.lemmas.List.{length-append}
use Rattle.std.proofs.lemmas.List.Folds.{list_all-append}
use Rattle.domain_names.specs.DomainName.{is_name_byte, is_label, dotted, name_of}
use Rattle.domain_names.specs.NameText.{labels_after, labels_of, is_name}
use Rattle.domain_names.specs.LabelSteps.{labels_fit}

abbrev with_dots : List (List ℕ) → List ℕ
with_dots labels = flat_map (λ label. 46 ∷ label) labels

pub cases_bool : (b : Bool) → (b ≡ true) ⊎ (b ≡ false)
cases_bool true = inl refl
cases_bool false = inr refl

pub some_labels : (label rest : List ℕ) → 1 ≤ length (labels_after label rest)
some_labels label [] = omega arith
some_labels label (byte ∷ rest) =
    elim (cases_bool (eqb byte 46)) [
      | inl e ↦ rw e (omega arith)
      | inr e ↦ rw e (some_labels (label ++ byte ∷ []) rest)
    ]

pub dot_first : (labels : List (List ℕ)) → 1 ≤ length labels → with_dots labels ≡ 46 ∷ dotted labels
dot_first [] some = absurd (omega arith)
dot_first (label ∷ labels) some = refl

pub labels_joined : (label rest : List ℕ) → dotted (labels_after label rest) ≡ label ++ rest
labels_joined label [] = refl
labels_joined label (byte ∷ rest) =
    elim (cases_bool (eqb byte 46)) [
      | inl e ↦ rw e (
          ap (λ (more : List ℕ). label ++ more)
          (dot_first (labels_after [] rest) (some_labels [] rest) ∙ ap (λ (more : List ℕ). 46 ∷ more) (labels_joined [] rest))
          ∙ ap (λ (b : ℕ). label ++ b ∷ rest) (sym (eqb-true byte 46 e)))
      | inr e ↦ rw e (labels_joined (label ++ byte ∷ []) rest ∙ append_assoc label (byte ∷ []) rest)
    ]

-- ---- the test of one byte after another

-- a test that fails in the middle
no_mid : (a b : Bool) → (a && false && b) ≡ false
no_mid true b = refl
no_mid false b = refl

-- a label that no more bytes mend
abbrev IsBad : List ℕ → Type 0
IsBad label = (list_all is_name_byte label ≡ false) ⊎ (63 < length label)

bad_more : (label more : List ℕ) → IsBad label → IsBad (label ++ more)
bad_more label more (inl byte) = inl (list_all-append is_name_byte label more ∙ rw byte refl)
bad_more label more (inr long) = inr (omega (arith, length-append label more))

bad_label : (label : List ℕ) → IsBad label → is_label label ≡ false
bad_label label (inl byte) = rw byte (no_end (leb 1 (length label) && leb (length label) 63))
  where
    no_end : (b : Bool) → (b && false) ≡ false
    no_end true = refl
    no_end false = refl
bad_label label (inr long) = rw (lt-leb (length label) 63 long) (no_mid (leb 1 (length label)) (list_all is_name_byte label))

is_lt : (a b : ℕ) → a < b → ltb a b ≡ true
is_lt a b h = grind arith

is_not_lt : (a b : ℕ) → b ≤ a → ltb a b ≡ false
is_not_lt a b h = grind arith

bad_stays : (label rest : List ℕ) → IsBad label → list_all is_label (labels_after label rest) ≡ false
bad_stays label [] bad = rw (bad_label label bad) refl
bad_stays label (byte ∷ rest) bad =
    elim (cases_bool (eqb byte 46)) [
      | inl e ↦ rw (e, bad_label label bad) refl
      | inr e ↦ rw e (bad_stays (label ++ byte ∷ []) rest (bad_more label (byte ∷ []) bad))
    ]

good_label : (label : List ℕ) → list_all is_name_byte label ≡ true → length label ≤ 63 → is_label label ≡ ltb 0 (length label)
good_label label bytes short = rw (bytes, le-leb (length label) 63 short) (tests (length label))
  where
    tests : (n : ℕ) → (leb 1 n && true && true) ≡ ltb 0 n
    tests zero = refl
    tests (suc n) = grind (arith)

pub labels_tested : (label rest : List ℕ) → list_all is_name_byte label ≡ true → length label ≤ 63
    → labels_fit (length label) rest ≡ list_all is_label (labels_after label rest)
labels_tested label [] bytes short = rw (good_label label bytes short) (with_true (ltb 0 (length label)))
  where
    with_true : (b : Bool) → b ≡ (b && true)
    with_true true = refl
    with_true false = refl
labels_tested label (byte ∷ rest) bytes short =
    elim (cases_bool (eqb byte 46)) [
      | inl dot ↦ rw (dot, good_label label bytes short) (ap (λ (more : Bool). ltb 0 (length label) && more) (labels_tested [] rest refl (omega arith)))
      | inr other ↦ rw other (elim (cases_bool (is_name_byte byte)) [
        | inr bad ↦ rw (bad, bad_stays (label ++ byte ∷ []) rest (inl (list_all-append is_name_byte label (byte ∷ []) ∙ rw (bytes, bad) refl)))
            (no_mid (ltb (length label) 63) (labels_fit (length label + 1) rest))
        | inl good ↦ elim (cases_lt (length label) 63) [
          | inr long ↦ rw
              (good, is_not_lt (length label) 63 long, bad_stays (label ++ byte ∷ []) rest (inr (omega (arith, length-append label (byte ∷ []))))) refl
          | inl room ↦
              let one : length (label ++ byte ∷ []) ≡ length label + 1 = length-append label (byte ∷ []) in
              let fit : list_all is_name_byte (label ++ byte ∷ []) ≡ true = list_all-append is_name_byte label (byte ∷ []) ∙ rw (bytes, good) refl in
              rw (good, is_lt (length label) 63 room, ← one) (labels_tested (label ++ byte ∷ []) rest fit (omega arith))
        ]
      ])
    ]

-- ---- names

pub name_tested : (text : List ℕ) → length text ≤ 253 → labels_fit 0 text ≡ is_name text
name_tested text short =
    rw (
      le-leb 1 (length (labels_of text)) (some_labels [] text),
      labels_joined [] text,
      le-leb (length text) 253 short,
      labels_tested [] text refl (omega arith),
    )
    (chosen (list_all is_label (labels_of text)))
  where
    chosen : (b : Bool) → b ≡ is_some (cond (true && b && true) (Some text) None)
    chosen true = refl
    chosen false = refl

pub name_long : (text : List ℕ) → 253 < length text → is_name text ≡ false
name_long text long =
    rw (labels_joined [] text, lt-leb (length text) 253 long) (chosen (leb 1 (length (labels_of text))) (list_all is_label (labels_of text)))
  where
    chosen : (a b : Bool) → is_some (cond (a && b && false) (Some text) None) ≡ false
    chosen true true = refl
    chosen true false = refl
    chosen false b = refl

-- a name is its labels' name
pub name_kept : (text : List ℕ) → is_name text ≡ true → name_of (labels_of text) ≡ Some text
name_kept text good =
    rw (labels_joined [] text)
    (chosen (leb 1 (length (labels_of text)) && list_all is_label (labels_of text) && leb (length text) 253) (rw (labels_joined [] text) at good))
  where
    chosen : (b : Bool) → is_some (cond b (Some text) None) ≡ true → cond b (Some text) None ≡ Some text
    chosen true e = refl
    chosen false e = absurd cc

pub name_refused : (text : List ℕ) → is_name text ≡ false → name_of (labels_of text) ≡ None
name_refused text bad = chosen (name_of (labels_of text)) bad
  where
    chosen : (o : Option (List ℕ)) → is_some o ≡ false → o ≡ None
    chosen None e = refl
    chosen (Some x) e = absurd cc
