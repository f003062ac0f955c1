-- A name is ASCII, and so it is text.
use Rattle.std.proofs.Common.{◌≡◌, ℕ, zero, suc, ◌<◌, ◌≤◌, Bool, true, false, cond, List, [], ◌∷◌, ◌++◌, length, get_or, Some, None, refl, sym, ap, subst, ◌∙◌, append_assoc, arith, ltb, leb, eqb}
use Rattle.std.specs.Prelude.{◌&&◌}
use Rattle.std.specs.Str.{IsUtf8}
use Rattle.std.specs.List.{flat_map, list_all}
use Rattle.std.proofs.lemmas.Bool.{leb-true}
use Rattle.std.proofs.lemmas.Str.{IsUtf8-from_ascii}
use Rattle.std.proofs.lemmas.List.{append-nil}
use Rattle.domain_names.specs.NameText.{labels_after, labels_of}
use Rattle.std.proofs.lemmas.List.Folds.{list_all-append}
use Rattle.domain_names.specs.DomainName.{is_name_byte, is_label, dotted, name_of}

abbrev is_ascii : List ℕ → Bool
is_ascii bytes = list_all (λ b. ltb b 128) bytes

pub both : (a b : Bool) → (a && b) ≡ true → (a ≡ true) × (b ≡ true)
both true true e = (refl, refl)
both true false e = absurd cc
both false b e = absurd cc

byte_ascii : (b : ℕ) → is_name_byte b ≡ true → ltb b 128 ≡ true
byte_ascii b e = grind arith

bytes_ascii : (bytes : List ℕ) → list_all is_name_byte bytes ≡ true → is_ascii bytes ≡ true
bytes_ascii [] e = refl
bytes_ascii (b ∷ bytes) e =
    let parts = both (is_name_byte b) (list_all is_name_byte bytes) e in
    rw (byte_ascii b parts.0, bytes_ascii bytes parts.1) refl

label_ascii : (label : List ℕ) → is_label label ≡ true → is_ascii label ≡ true
label_ascii label e = bytes_ascii label (both (leb 1 (length label) && leb (length label) 63) (list_all is_name_byte label) e).1

with_dots_ascii : (labels : List (List ℕ)) → list_all is_label labels ≡ true → is_ascii (flat_map (λ label. 46 ∷ label) labels) ≡ true
with_dots_ascii [] e = refl
with_dots_ascii (label ∷ labels) e =
    let parts = both (is_label label) (list_all is_label labels) e in
    list_all-append (λ b. ltb b 128) (46 ∷ label) (flat_map (λ label. 46 ∷ label) labels)
    ∙ rw (label_ascii label parts.0, with_dots_ascii labels parts.1) refl

pub dotted_ascii : (labels : List (List ℕ)) → list_all is_label labels ≡ true → is_ascii (dotted labels) ≡ true
dotted_ascii [] e = refl
dotted_ascii (label ∷ labels) e =
    let parts = both (is_label label) (list_all is_label labels) e in
    list_all-append (λ b. ltb b 128) label (flat_map (λ label. 46 ∷ label) labels)
    ∙ rw (label_ascii label parts.0, with_dots_ascii labels parts.1) refl

ascii_at : (bytes : List ℕ) → is_ascii bytes ≡ true → (i : ℕ) → get_or bytes i 0 < 128
ascii_at [] e i = omega arith
ascii_at (b ∷ bytes) e zero = grind arith
ascii_at (b ∷ bytes) e (suc i) = ascii_at bytes (both (ltb b 128) (is_ascii bytes) e).1 i

pub labels_utf8 : (labels : List (List ℕ)) → list_all is_label labels ≡ true → IsUtf8 (dotted labels)
labels_utf8 labels e = IsUtf8-from_ascii (dotted labels) (ascii_at (dotted labels) (dotted_ascii labels e))

chosen : (b : Bool) (x y : List ℕ) → cond b (Some x) None ≡ Some y → (b ≡ true) × (x ≡ y)
chosen true x y e = (refl, cc)
chosen false x y e = absurd cc

-- the name of labels says that they are labels, how long the name is, and what it is
pub name_parts : (labels : List (List ℕ)) (text : List ℕ) → name_of labels ≡ Some text
    → (1 ≤ length labels) × (list_all is_label labels ≡ true) × (length (dotted labels) ≤ 253) × (dotted labels ≡ text)
name_parts labels text e =
    let test = chosen (leb 1 (length labels) && list_all is_label labels && leb (length (dotted labels)) 253) (dotted labels) text e in
    let last = both (leb 1 (length labels) && list_all is_label labels) (leb (length (dotted labels)) 253) test.0 in
    let first = both (leb 1 (length labels)) (list_all is_label labels) last.0 in
    (leb-true 1 (length labels) first.0, first.1, leb-true (length (dotted labels)) 253 last.1, test.1)

pub name_utf8 : (labels : List (List ℕ)) (text : List ℕ) → name_of labels ≡ Some text → IsUtf8 text
name_utf8 labels text e =
    let parts = name_parts labels text e in
    subst (λ (t : List ℕ). IsUtf8 t) parts.3 (labels_utf8 labels parts.1)

-- ---- a name's labels are the parts between its dots

no_dot : (b : ℕ) → is_name_byte b ≡ true → eqb b 46 ≡ false
no_dot b e = grind arith

label_passed : (front label rest : List ℕ) → list_all is_name_byte label ≡ true → labels_after front (label ++ rest) ≡ labels_after (front ++ label) rest
label_passed front [] rest e = ap (λ (l : List ℕ). labels_after l rest) (sym (append-nil front))
label_passed front (b ∷ label) rest e =
    let parts = both (is_name_byte b) (list_all is_name_byte label) e in
    rw (no_dot b parts.0) (label_passed (front ++ b ∷ []) label rest parts.1 ∙ ap (λ (l : List ℕ). labels_after l rest) (append_assoc front (b ∷ []) label))

label_bytes : (label : List ℕ) → is_label label ≡ true → list_all is_name_byte label ≡ true
label_bytes label e = (both (leb 1 (length label) && leb (length label) 63) (list_all is_name_byte label) e).1

labels_parted : (labels : List (List ℕ)) → 1 ≤ length labels → list_all is_label labels ≡ true → labels_of (dotted labels) ≡ labels
labels_parted [] some good = absurd (omega arith)
labels_parted (label ∷ []) some good =
    label_passed [] label [] (label_bytes label (both (is_label label) true good).0)
labels_parted (label ∷ next ∷ labels) some good =
    let parts = both (is_label label) (is_label next && list_all is_label labels) good in
    label_passed [] label (46 ∷ dotted (next ∷ labels)) (label_bytes label parts.0)
    ∙ ap (λ (ls : List (List ℕ)). label ∷ ls) (labels_parted (next ∷ labels) (omega arith) parts.1)

pub name_parted : (labels : List (List ℕ)) (text : List ℕ) → name_of labels ≡ Some text → labels_of text ≡ labels
name_parted labels text e =
    let parts = name_parts labels text e in
    ap labels_of (sym parts.3) ∙ labels_parted labels parts.0 parts.1
