-- A text is a listing of one list of rows at most.
use Rattle.std.proofs.Common.{◌≡◌, ℕ, true, false, Bool, ◌||◌, List, [], ◌∷◌, ◌++◌, All, refl, sym, ap, ◌∙◌, subst}
use Rattle.std.specs.List.{AllByRecursion}
use Rattle.std.specs.Ordering.{is_eq}
use Rattle.std.proofs.lemmas.Bool.{or_left}
use Rattle.std.proofs.lemmas.List.Elements.{recursion_from_All}
use Rattle.std.specs.Cmp.{tied_itself, Equal-is}
use Rattle.net_types.specs.Cutting.{split_at_byte}
use Rattle.net_types.specs.Marks.{Lacks}
use Rattle.net_types.proofs.ReadsLaws.{split_whole, some_same}
use Rattle.world.specs.declared.rows.HostRow.{HostRow}
use Rattle.world.specs.RowOrder.{row_cmp, row_cmp_total, has_row, in_row_order}
use Rattle.world.specs.Rows.{IsRow}
use Rattle.world.proofs.ExactRows.{row_cmp_exact}
use Rattle.world.proofs.RowLists.{in_order_has}
use Rattle.script_model.specs.RowSpellings.{SpellsRow}
use Rattle.script_model.proofs.SpelledRows.{spelled_line}
use Rattle.row_texts.proofs.RowLaws.{row_finds}
use Rattle.row_texts.proofs.SpellingLaws.{one_value}
use Rattle.child_devices.specs.Listings.{lines_text, SpellRows, IsListing}

-- ---- each row of a line is one of the rows kept

has_so : (P : HostRow → Type 0) (rows : List HostRow) → AllByRecursion P rows → (row : HostRow) → has_row rows row ≡ true → P row
has_so P [] all row has = cc
has_so P (x ∷ rows) all row has = by (is_eq (row_cmp row x)) refl has (has_so P rows all.1 row)
  where
    by : (b : Bool) → is_eq (row_cmp row x) ≡ b → (b || has_row rows row) ≡ true → (has_row rows row ≡ true → P row) → P row
    by true same has rest = subst P (sym (row_cmp_exact row x ((Equal-is (row_cmp row x)).0 same))) all.0
    by false apart has rest = rest has

all_so : (P : HostRow → Type 0) (rows : List HostRow) → ((row : HostRow) → has_row rows row ≡ true → P row) → AllByRecursion P rows
all_so P [] each = tt
all_so P (x ∷ rows) each = (
  each x (or_left (is_eq (row_cmp x x)) (has_row rows x) (ap is_eq (tied_itself row_cmp_total x))),
  all_so P rows (λ row has. each row (ap (λ b. is_eq (row_cmp row x) || b) has ∙ or_true (is_eq (row_cmp row x)))),
)
  where
    or_true : (b : Bool) → (b || true) ≡ true
    or_true true = refl
    or_true false = refl

rows_of_lines : (kept rows : List HostRow) → kept ≡ in_row_order rows → All IsRow kept → AllByRecursion IsRow rows
rows_of_lines kept rows is all =
    all_so IsRow rows
    (λ row has. has_so IsRow kept (recursion_from_All IsRow kept all) row (ap (λ xs. has_row xs row) is ∙ in_order_has rows row ∙ has))

-- ---- line by line

both_lines : (line other : List ℕ) (rest more : List ℕ) → Lacks 10 line → Lacks 10 other → line ++ 10 ∷ rest ≡ other ++ 10 ∷ more
    → (line ≡ other) × (rest ≡ more)
both_lines line other rest more lacks lack e =
    let same = some_same (sym (split_whole 10 line rest lacks) ∙ ap (split_at_byte 10) e ∙ split_whole 10 other more lack) in
    (ap (λ p. p.0) same, ap (λ p. p.1) same)

no_line : (line rest : List ℕ) → line ++ 10 ∷ rest ≡ [] → ⊥
no_line [] rest e = cc
no_line (b ∷ line) rest e = cc

same_rows : (lines others : List (List ℕ)) (rows more : List HostRow) → SpellRows lines rows → SpellRows others more → AllByRecursion IsRow rows
    → AllByRecursion IsRow more → lines_text lines ≡ lines_text others → rows ≡ more
same_rows [] [] [] [] spelled said all each e = refl
same_rows [] (other ∷ others) [] (x ∷ more) spelled said all each e = absurd (no_line other (lines_text others) (sym e))
same_rows (line ∷ lines) [] (row ∷ rows) [] spelled said all each e = absurd (no_line line (lines_text lines) e)
same_rows (line ∷ lines) (other ∷ others) (row ∷ rows) (x ∷ more) spelled said all each e =
    let both = both_lines line other (lines_text lines) (lines_text others) (spelled_line line row all.0 spelled.0) (spelled_line other x each.0 said.0) e in
    let first : row ≡ x = one_value line row x row_finds (spelled.0, all.0) (subst (λ text. SpellsRow text x) (sym both.0) said.0, each.0) in
    let later : rows ≡ more = same_rows lines others rows more spelled.1 said.1 all.1 each.1 both.1 in
    λ i. first i ∷ later i
same_rows [] others (row ∷ rows) more spelled said all each e = absurd spelled
same_rows lines [] rows (x ∷ more) spelled said all each e = absurd said
same_rows (line ∷ lines) others [] more spelled said all each e = absurd spelled
same_rows lines (other ∷ others) rows [] spelled said all each e = absurd said

pub one_listing : (text : List ℕ) (kept other : List HostRow) → IsListing text kept → IsListing text other → All IsRow kept → All IsRow other → kept ≡ other
one_listing text kept other one two all each =
    one.in_order
    ∙ ap in_row_order (same_rows one.lines two.lines one.rows two.rows one.spelled two.spelled (rows_of_lines kept one.rows one.in_order all)
    (rows_of_lines other two.rows two.in_order each) (sym one.all ∙ two.all))
    ∙ sym two.in_order
