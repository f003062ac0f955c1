-- Options that are spelled one after another are found again.
use Rattle.std.proofs.Common.{◌≡◌, ℕ, ◌+◌, ◌<◌, ◌^◌, true, List, [], ◌∷◌, ◌++◌, length, Option, Some, None, refl, sym, ap, ◌∙◌, append_assoc, arith, ltb}
use Rattle.std.proofs.lemmas.Bool.{le-ltb}
use Rattle.std.proofs.lemmas.Nat.{from_be_bytes-to_be_bytes_2}
use Rattle.std.proofs.lemmas.List.{length-append, take_at, drop_at, append-nil}
use Rattle.v6_options.specs.declared.area.Front.TheVariants.{End, Bad, Whole}
use Rattle.v6_options.specs.OptionArea.{Instance, front_of, instances_in}
use Rattle.v6_options.specs.Nesting.{fields_len, or_else, malformed_held, malformed_in}
use Rattle.v6_options.specs.OptionGrammar.{word_text, option_text, FitsOption, OptionTree, nothing, plain, holder, tree_text, FitsTree, tree_instances, Breaks, no_header, too_long, no_form, within, behind}
use Rattle.v6_options.proofs.Fronts.{front_by, front_cells, instances_front, malformed_front, front_nothing, short_front}
use Rattle.v6_options.proofs.WholeAreas.{none_at_end}

-- a header is read as its code and its length
header_front : (code len : ℕ) (more : List ℕ) → code < 2 ^ 16 → len < 2 ^ 16 → front_of (word_text code ++ word_text len ++ more) ≡ front_by code len more
header_front code len more code_fits len_fits =
    front_cells _ _ _ _ more
    ∙ (λ i. front_by (from_be_bytes-to_be_bytes_2 code code_fits i) (from_be_bytes-to_be_bytes_2 len len_fits i) more)

option_front : (code : ℕ) (value more : List ℕ) → FitsOption code value → front_of (option_text code value ++ more) ≡ Whole code (length value)
option_front code value more fits =
    header_front code (length value) (value ++ more) fits.0 fits.1
    ∙ rw (le-ltb (length (value ++ more)) (length value) (omega (arith, length-append value more)), take_at value more (length value) refl, fits.2) refl

pub option_instances : (code : ℕ) (value more : List ℕ) → FitsOption code value
    → instances_in (option_text code value ++ more) ≡ (code, value) ∷ instances_in more
option_instances code value more fits =
    instances_front (option_text code value ++ more) (Whole code (length value)) (option_front code value more fits)
    ∙ (λ i. (code, take_at value more (length value) refl i) ∷ instances_in (drop_at value more (length value) refl i))

pub option_malformed : (at code : ℕ) (value more : List ℕ) → FitsOption code value
    → malformed_in at (option_text code value ++ more)
    ≡ or_else (malformed_held (fields_len code) at value malformed_in) (malformed_in (at + 4 + length value) more)
option_malformed at code value more fits =
    malformed_front at (option_text code value ++ more) (Whole code (length value)) (option_front code value more fits)
    ∙ (λ i. or_else (malformed_held (fields_len code) at (take_at value more (length value) refl i) malformed_in)
    (malformed_in (at + 4 + length value) (drop_at value more (length value) refl i)))

-- ---- trees

pub tree_found : (tree : OptionTree) (rest : List ℕ) → FitsTree tree → instances_in (tree_text tree ++ rest) ≡ tree_instances tree ++ instances_in rest
tree_found nothing rest fit = refl
tree_found (plain code value others) rest fit =
    ap instances_in (append_assoc (option_text code value) (tree_text others) rest)
    ∙ option_instances code value (tree_text others ++ rest) fit.0
    ∙ ap (λ (is : List Instance). (code, value) ∷ is) (tree_found others rest fit.2)
tree_found (holder code fields held others) rest fit =
    let value = fields ++ tree_text held in
    ap instances_in (append_assoc (option_text code value) (tree_text others) rest)
    ∙ option_instances code value (tree_text others ++ rest) fit.0
    ∙ ap (λ (is : List Instance). (code, value) ∷ is) (tree_found others rest fit.3)

-- what an option holds is judged behind its fixed fields
held_is : (code at : ℕ) (fields held : List ℕ) → fields_len code ≡ Some (length fields)
    → malformed_held (fields_len code) at (fields ++ held) malformed_in ≡ malformed_in (at + 4 + length fields) held
held_is code at fields held e =
    ap (λ (f : Option ℕ). malformed_held f at (fields ++ held) malformed_in) e
    ∙ ap (malformed_in (at + 4 + length fields)) (drop_at fields held (length fields) refl)

pub tree_passed : (at : ℕ) (tree : OptionTree) (rest : List ℕ) → FitsTree tree
    → malformed_in at (tree_text tree ++ rest) ≡ malformed_in (at + length (tree_text tree)) rest
tree_passed at nothing rest fit = ap (λ (n : ℕ). malformed_in n rest) (omega arith)
tree_passed at (plain code value others) rest fit =
    let places : at + 4 + length value + length (tree_text others) ≡ at + length (option_text code value ++ tree_text others) =
    omega (arith, length-append value (tree_text others)) in
    ap (malformed_in at) (append_assoc (option_text code value) (tree_text others) rest)
    ∙ option_malformed at code value (tree_text others ++ rest) fit.0
    ∙ ap (λ (f : Option ℕ). or_else (malformed_held f at value malformed_in) (malformed_in (at + 4 + length value) (tree_text others ++ rest))) fit.1
    ∙ tree_passed (at + 4 + length value) others rest fit.2
    ∙ ap (λ (n : ℕ). malformed_in n rest) places
tree_passed at (holder code fields held others) rest fit =
    let value = fields ++ tree_text held in
    let places : at + 4 + length value + length (tree_text others) ≡ at + length (option_text code value ++ tree_text others) =
    omega (arith, length-append value (tree_text others)) in
    let inside : malformed_held (fields_len code) at value malformed_in ≡ None =
    held_is code at fields (tree_text held) fit.1
    ∙ ap (malformed_in (at + 4 + length fields)) (sym (append-nil (tree_text held)))
    ∙ tree_passed (at + 4 + length fields) held [] fit.2
    ∙ none_at_end (at + 4 + length fields + length (tree_text held)) in
    ap (malformed_in at) (append_assoc (option_text code value) (tree_text others) rest)
    ∙ option_malformed at code value (tree_text others ++ rest) fit.0
    ∙ ap (λ (o : Option ℕ). or_else o (malformed_in (at + 4 + length value) (tree_text others ++ rest))) inside
    ∙ tree_passed (at + 4 + length value) others rest fit.3
    ∙ ap (λ (n : ℕ). malformed_in n rest) places

pub tree_instances_are : (tree : OptionTree) → FitsTree tree → instances_in (tree_text tree) ≡ tree_instances tree
tree_instances_are tree fit =
    ap instances_in (sym (append-nil (tree_text tree))) ∙ tree_found tree [] fit
    ∙ ap (λ (is : List Instance). tree_instances tree ++ is) (instances_front [] End front_nothing)
    ∙ append-nil (tree_instances tree)

pub tree_whole : (at : ℕ) (tree : OptionTree) → FitsTree tree → malformed_in at (tree_text tree) ≡ None
tree_whole at tree fit =
    ap (malformed_in at) (sym (append-nil (tree_text tree))) ∙ tree_passed at tree [] fit ∙ none_at_end (at + length (tree_text tree))

-- ---- the first that breaks the rule

at_front : (at : ℕ) (area : List ℕ) → front_of area ≡ Bad → malformed_in at area ≡ Some (at + 0)
at_front at area e = malformed_front at area Bad e ∙ ap (λ (n : ℕ). Some n) (omega arith)

is_less : (a b : ℕ) → a < b → ltb a b ≡ true
is_less a b h = grind arith

pub broken_found : (at : ℕ) {area : List ℕ} {place : ℕ} → Breaks area place → malformed_in at area ≡ Some (at + place)
broken_found at {area} (no_header some short) = at_front at area (short_front area some short)
broken_found at (too_long code len rest code_fits len_fits long) =
    at_front at (word_text code ++ word_text len ++ rest)
    (header_front code len rest code_fits len_fits ∙ rw (is_less (length rest) len long) refl)
broken_found at (no_form code value rest code_fits value_fits bad) =
    at_front at (option_text code value ++ rest)
    (header_front code (length value) (value ++ rest) code_fits value_fits
    ∙ rw (le-ltb (length (value ++ rest)) (length value) (omega (arith, length-append value rest)), take_at value rest (length value) refl, bad) refl)
broken_found at (within {place} code fields held rest fits e inner) =
    let value = fields ++ held in
    let after = malformed_in (at + 4 + length value) rest in
    let places : at + 4 + length fields + place ≡ at + (4 + length fields + place) = omega arith in
    option_malformed at code value rest fits
    ∙ ap (λ (o : Option ℕ). or_else o after) (held_is code at fields held e ∙ broken_found (at + 4 + length fields) inner)
    ∙ ap (λ (n : ℕ). Some n) places
broken_found at (behind {rest} {place} tree fit later) =
    let places : at + length (tree_text tree) + place ≡ at + (length (tree_text tree) + place) = omega arith in
    tree_passed at tree rest fit ∙ broken_found (at + length (tree_text tree)) later ∙ ap (λ (n : ℕ). Some n) places
