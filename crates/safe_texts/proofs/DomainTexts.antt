-- The names that values give are names of domains.
use Rattle.std.proofs.Common.{◌≡◌, ◌≢◌, ℕ, zero, suc, ◌+◌, ◌*◌, ◌<◌, true, List, [], ◌∷◌, length, Option, Some, None, refl, ap, ◌∙◌, arith, eqb, ltb}
use Rattle.std.proofs.lemmas.Bool.{eqb-true, ltb-true}
use Rattle.std.specs.Prelude.{IfSome, IsTrue, is_some}
use Rattle.std.specs.List.{AllByRecursion}
use Rattle.std.specs.Option.{option_and_then, option_map}
use Rattle.net_types.proofs.CaseLaws.{gated}
use Rattle.domain_names.proofs.NameBytes.{name_parted}
use Rattle.domain_names.specs.DomainName.{name_of}
use Rattle.domain_names.specs.NameText.{is_name, labels_of, text_in, trimmed}
use Rattle.domain_names.specs.SearchList.{Labels, labels_within, name_in, names_within, search_in}
use Rattle.v6_options.specs.Readers.{pointer_after, search6_in}
use Rattle.safe_texts.proofs.NumberTexts.{chosen_by}

abbrev pub IsName : List ℕ → Type 0
IsName text = IsTrue (is_name text)

name_again : (labels : List (List ℕ)) (text : List ℕ) → name_of labels ≡ Some text → IsName text
name_again labels text e =
    let found : name_of (labels_of text) ≡ Some text = ap name_of (name_parted labels text e) ∙ e in
    ap is_some found

pub labels_named : (labels : List (List ℕ)) → IfSome (name_of labels) IsName
labels_named labels = by_case (name_of labels) refl
  where
    by_case : (found : Option (List ℕ)) → name_of labels ≡ found → IfSome found IsName
    by_case None e = tt
    by_case (Some text) e = name_again labels text e

pub text_named : (value : List ℕ) → IfSome (text_in value) IsName
text_named value = labels_named (labels_of (trimmed value))

-- ---- search lists

with_end : (next : ℕ) (found : Option (List ℕ)) → IfSome found IsName → IfSome (option_map (λ text. (text, next)) found) (λ (m : List ℕ × ℕ). IsName m.0)
with_end next None h = tt
with_end next (Some text) h = h

by_labels : (found : Option Labels) → IfSome (option_and_then (λ m. option_map (λ text. (text, m.1)) (name_of m.0)) found) (λ (m : List ℕ × ℕ). IsName m.0)
by_labels None = tt
by_labels (Some labels) = with_end labels.1 (name_of labels.0) (labels_named labels.0)

one_named : (value : List ℕ) (at : ℕ) → IfSome (name_in value at) (λ (m : List ℕ × ℕ). IsName m.0)
unfolding name_in
one_named value at = by_labels (labels_within ((at + 1) * (length value + 1)) value at at)

abbrev pub AreNames : List (List ℕ) → Type 0
AreNames names = AllByRecursion IsName names

one_more : (name : List ℕ) → IsName name → (found : Option (List (List ℕ))) → IfSome found AreNames → IfSome (option_map (λ texts. name ∷ texts) found) AreNames
one_more name is None h = tt
one_more name is (Some names) h = (is, h)

first_some : (found : Option (List (List ℕ))) (name : List ℕ) → IfSome (option_map (λ texts. name ∷ texts) found) (λ (names : List (List ℕ)). names ≢ [])
first_some None name = tt
first_some (Some names) name = λ e. absurd cc

names_after : (first : Option (List ℕ × ℕ)) (rest : ℕ → Option (List (List ℕ))) → IfSome first (λ (m : List ℕ × ℕ). IsName m.0)
    → ((at : ℕ) → IfSome (rest at) AreNames)
    → IfSome (option_and_then (λ m. option_map (λ texts. m.0 ∷ texts) (rest m.1)) first) AreNames
names_after None rest is later = tt
names_after (Some m) rest is later = one_more m.0 is (rest m.1) (later m.1)

names_named : (more : ℕ) (value : List ℕ) (at : ℕ) → IfSome (names_within more value at) AreNames
unfolding names_within
names_named zero value at = gated (λ (o : Option (List (List ℕ))). IfSome o AreNames) (eqb at (length value)) (Some []) None tt tt
names_named (suc more) value at =
    gated (λ (o : Option (List (List ℕ))). IfSome o AreNames) (eqb at (length value)) (Some []) _ tt
    (names_after (name_in value at) (names_within more value) (one_named value at) (λ next. names_named more value next))

abbrev AreSome : List (List ℕ) → Type 0
AreSome names = names ≢ []

after_some : (first : Option (List ℕ × ℕ)) (rest : ℕ → Option (List (List ℕ)))
    → IfSome (option_and_then (λ m. option_map (λ texts. m.0 ∷ texts) (rest m.1)) first) AreSome
after_some None rest = tt
after_some (Some m) rest = first_some (rest m.1) m.0

-- where the value has a byte, the names don't end before the first
not_empty : (n : ℕ) → eqb 0 n ≡ true → ltb 0 n ≡ true → ⊥
not_empty n e filled = let none : 0 ≡ n = eqb-true 0 n e in let some : 0 < n = ltb-true 0 n filled in omega arith

abbrev SomeIf : Option (List (List ℕ)) → Type 0
SomeIf found = IfSome found AreSome

names_some : (more : ℕ) (value : List ℕ) → ltb 0 (length value) ≡ true → SomeIf (names_within more value 0)
unfolding names_within
names_some zero value filled = chosen_by SomeIf (eqb 0 (length value)) (Some []) None (λ e. absurd (not_empty (length value) e filled)) (λ e. tt)
names_some (suc more) value filled =
    chosen_by SomeIf (eqb 0 (length value)) (Some []) _ (λ e. absurd (not_empty (length value) e filled))
    (λ e. after_some (name_in value 0) (names_within more value))

pub record AreSomeNames (names : List (List ℕ)) : Type 0 where
  pub some : names ≢ []
  pub each : AreNames names

both : (found : Option (List (List ℕ))) → IfSome found AreSome → IfSome found AreNames → IfSome found AreSomeNames
both None some each = tt
both (Some names) some each = record { some = some; each = each }

pub search_named : (value : List ℕ) → IfSome (search_in value) AreSomeNames
search_named value =
    chosen_by (λ (o : Option (List (List ℕ))). IfSome o AreSomeNames) (ltb 0 (length value)) (names_within (length value) value 0) None
    (λ e. both (names_within (length value) value 0) (names_some (length value) value e) (names_named (length value) value 0)) (λ e. tt)

pub search6_named : (value : List ℕ) → IfSome (search6_in value) AreSomeNames
search6_named value = gated (λ (o : Option (List (List ℕ))). IfSome o AreSomeNames) (pointer_after 0 value) None (search_in value) tt (search_named value)
