-- The rows of a listing, one line after another.
use Rattle.std.proofs.Common.{arith, true, if◌then◌else◌, ◌≡◌, ◌+◌, ℕ, List, [], ◌∷◌, ◌++◌, length, refl, ap, ◌∙◌}
use Rattle.world.specs.declared.rows.HostRow.{HostRow}
use Rattle.world.specs.RowOrder.{with_row, put_in_order, in_row_order}
use Rattle.script_model.specs.RowSpellings.{SpellsRow}
use Rattle.child_devices.specs.Listings.{lines_text, SpellRows, IsListing}

-- with these rows behind what was read
pub record Whole (text : List ℕ) (kept rows : List HostRow) : Type 0 where
  pub lines : List (List ℕ)
  pub read : List HostRow
  pub all : text ≡ lines_text lines
  pub spelled : SpellRows lines read
  pub in_order : put_in_order kept rows ≡ in_row_order read
  pub once : length read ≡ length kept + length rows

-- what the rest says, and what was kept before it, is what all says
abbrev pub GoesOn : (text rest : List ℕ) → (kept : List HostRow) → Type 0
GoesOn text rest kept = (lines : List (List ℕ)) (rows : List HostRow) → SpellRows lines rows → rest ≡ lines_text lines → Whole text kept rows

pub listing_begins : (text : List ℕ) → GoesOn text text []
listing_begins text = λ lines rows spelled all. record { lines = lines; read = rows; all = all; spelled = spelled; in_order = refl; once = omega arith }

pub one_row : (text rest others line : List ℕ) (kept more : List HostRow) (row : HostRow) → rest ≡ line ++ 10 ∷ others → SpellsRow line row
    → more ≡ with_row row kept → length more ≡ length kept + (if true then 1 else 0)
    → GoesOn text rest kept → GoesOn text others more
one_row text rest others line kept more row is spells put new h = λ lines rows spelled all.
    let whole = h (line ∷ lines) (row ∷ rows) (spells, spelled) (is ∙ ap (λ xs. line ++ 10 ∷ xs) all) in
    record {
      lines = whole.lines;
      read = whole.read;
      all = whole.all;
      spelled = whole.spelled;
      in_order = ap (λ kept. put_in_order kept rows) put ∙ whole.in_order;
      once = let once = whole.once in omega arith;
    }

nothing_left : (rest : List ℕ) → length rest ≡ 0 → rest ≡ []
nothing_left [] e = refl
nothing_left (b ∷ rest) e = cc

pub listing_ends : (text rest : List ℕ) (kept : List HostRow) → length rest ≡ 0 → GoesOn text rest kept → IsListing text kept
listing_ends text rest kept none h =
    let whole = h [] [] tt (nothing_left rest none) in
    record {
      lines = whole.lines;
      rows = whole.read;
      all = whole.all;
      spelled = whole.spelled;
      in_order = whole.in_order;
      once = let once = whole.once in omega arith;
    }
