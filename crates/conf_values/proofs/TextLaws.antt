-- Printable ASCII and names of domains are text.
use Rattle.std.proofs.Common.{◌≡◌, ℕ, zero, suc, ◌+◌, ◌<◌, Bool, true, false, nat_le, cond, List, [], ◌∷◌, length, take, drop, get_or, Option, Some, None, refl, sym, ap, ◌∙◌, arith}
use Rattle.std.specs.Prelude.{IfSome, option_and_then, option_map, ◌==◌}
use Rattle.std.specs.List.{list_all, position}
use Rattle.std.specs.Str.{IsUtf8}
use Rattle.std.proofs.lemmas.Bool.{and_parts, true≢false}
use Rattle.std.proofs.lemmas.List.{take-append-drop}
use Rattle.std.proofs.lemmas.List.Folds.{list_all-append, list_all_at}
use Rattle.std.proofs.lemmas.Str.{IsUtf8-from_ascii}
use Rattle.net_types.specs.Cutting.{split_at_byte}
use Rattle.net_types.specs.Marks.{is_printable}
use Rattle.domain_names.specs.NameText.{is_name, labels_of}
use Rattle.domain_names.proofs.Labels.{name_kept}
use Rattle.domain_names.proofs.NameBytes.{name_utf8}
use Rattle.conf_values.specs.Texts.{EnvContent, equals_sign, is_printed, printed, variable, variable_by, variable_of}
use Rattle.conf_values.specs.Words.{is_some_text}
use Rattle.conf_values.proofs.FoundLaws.{at_some, bound}

byte_ascii : (b : ℕ) → is_printable b ≡ true → b < 128
byte_ascii b e = grind arith

ascii_at : (text : List ℕ) → list_all is_printable text ≡ true → (i : ℕ) → get_or text i 0 < 128
ascii_at [] e i = omega arith
ascii_at (b ∷ text) e zero = byte_ascii b (and_parts (is_printable b) (list_all is_printable text) e).0
ascii_at (b ∷ text) e (suc i) = ascii_at text (and_parts (is_printable b) (list_all is_printable text) e).1 i

pub printable_text : (text : List ℕ) → list_all is_printable text ≡ true → IsUtf8 text
printable_text text e = IsUtf8-from_ascii text (ascii_at text e)

pub name_text : (text : List ℕ) → is_name text ≡ true → IsUtf8 text
name_text text e = name_utf8 (labels_of text) text (name_kept text e)

-- each of several that are names
pub names_text : {A : Type 0} (view : A → List ℕ) (xs : List A) (i : ℕ) (d : A) → i < length xs → list_all (λ x. is_name (view x)) xs ≡ true
    → IsUtf8 (view (get_or xs i d))
names_text {A = A} view xs i d within all = by (is_name (view (get_or xs i d))) refl
  where
    by : (b : Bool) → is_name (view (get_or xs i d)) ≡ b → IsUtf8 (view (get_or xs i d))
    by true e = name_text (view (get_or xs i d)) e
    by false e = absurd (true≢false (sym all ∙ list_all_at (λ (x : A). is_name (view x)) xs i d within e))

-- ---- variables

record AreText (parts : List ℕ × List ℕ) : Type 0 where
  first : IsUtf8 parts.0
  second : IsUtf8 parts.1

cut_at : (i j : ℕ) (text : List ℕ) → list_all is_printable text ≡ true → AreText (take i text, drop j text)
cut_at i j text e =
    let front = sym (list_all-append is_printable (take i text) (drop i text)) ∙ ap (list_all is_printable) (take-append-drop i text) ∙ e in
    let rest = sym (list_all-append is_printable (take j text) (drop j text)) ∙ ap (list_all is_printable) (take-append-drop j text) ∙ e in
    record {
      first = printable_text (take i text) (and_parts (list_all is_printable (take i text)) (list_all is_printable (drop i text)) front).0;
      second = printable_text (drop j text) (and_parts (list_all is_printable (take j text)) (list_all is_printable (drop j text)) rest).1;
    }

cut_text : (text : List ℕ) → list_all is_printable text ≡ true → IfSome (split_at_byte equals_sign text) AreText
unfolding split_at_byte
cut_text text e = by (position (λ b. b == equals_sign) text)
  where
    by : (o : Option ℕ) → IfSome (option_map (λ i. (take i text, drop (i + 1) text)) o) AreText
    by None = tt
    by (Some i) = cut_at i (i + 1) text e

pub record IsText (env : EnvContent) : Type 0 where
  pub name : IsUtf8 env.name
  pub value : IsUtf8 env.value

by_text : (parts : List ℕ × List ℕ) → AreText parts → IfSome (variable_by parts) IsText
by_text parts text = by (is_some_text parts.0)
  where
    by : (b : Bool) → IfSome (cond b (Some (variable_of parts)) None) IsText
    by true = record { name = text.first; value = text.second }
    by false = tt

if_printed : (text : List ℕ) → IfSome (printed 255 text) (λ whole. list_all is_printable whole ≡ true)
if_printed text = by (is_printed 255 text) refl
  where
    by : (b : Bool) → is_printed 255 text ≡ b → IfSome (cond b (Some text) None) (λ whole. list_all is_printable whole ≡ true)
    by true e = (and_parts (nat_le (length text) 255) (list_all is_printable text) e).1
    by false e = tt

pub variable_text : (text : List ℕ) → IfSome (variable text) IsText
variable_text text =
    bound IsText (printed 255 text) (λ whole. option_and_then variable_by (split_at_byte equals_sign whole))
    (λ whole e. bound IsText (split_at_byte equals_sign whole) variable_by
    (λ parts f. by_text parts (at_some AreText (split_at_byte equals_sign whole) parts f
    (cut_text whole (at_some (λ w. list_all is_printable w ≡ true) (printed 255 text) whole e (if_printed text))))))

pub parts_text : {A : Type 0} (view : A → List ℕ × List ℕ) (found : Option A) (one : A) (text : List ℕ)
    → option_map (λ x. variable_of (view x)) found ≡ variable text → found ≡ Some one → IsText (variable_of (view one))
parts_text {A = A} view found one text e is =
    at_some IsText (variable text) (variable_of (view one)) (sym e ∙ ap (option_map (λ (x : A). variable_of (view x))) is) (variable_text text)
