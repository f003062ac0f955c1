-- Rows that rise leave room for those after them; and where there is room, the greatest rows there are can come.
use Rattle.std.proofs.Common.{◌≡◌, ℕ, zero, suc, ◌-◌, ◌<◌, ◌≤◌, ◌^◌, true, false, cond, List, [], ◌∷◌, length, Option, Some, None, refl, sym, ap, ◌∙◌, arith}
use Rattle.std.specs.List.{AllByRecursion}
use Rattle.std.specs.declared.cmp.Ordering.{Ordering}
use Rattle.std.specs.declared.cmp.Ordering.TheVariants.{Less, Equal, Greater}
use Rattle.std.specs.Ordering.{is_le, is_lt, nat_cmp, ordering_then}
use Rattle.std.proofs.lemmas.Bool.{ne_eqb}
use Rattle.std.proofs.lemmas.Bool.Decides.{nat_tests}
use Rattle.net_types.specs.declared.address.Net.TheVariants.{V4, V6}
use Rattle.world.specs.declared.rows.HostRow.{HostRow}
use Rattle.world.specs.declared.rows.HostRow.TheVariants.{Addr, Route}
use Rattle.world.specs.declared.rows.Via.TheVariants.{Gate4, Gate6, OnLink, Reject}
use Rattle.world.specs.RowOrder.{family, net_len, net_number, row_cmp, row_cmp_total, row_gate, row_iface, row_metric, row_net, row_rank}
use Rattle.world.specs.Rows.{IsRow}
use Rattle.world.proofs.ExactRows.{row_cmp_exact}
use Rattle.transcript_model.specs.LifeShapes.{Rise, comes_after}
use Rattle.transcript_read.specs.Places.{leaves_room, top_row}

-- ---- orders

le_numbers : (m n : ℕ) → m ≤ n → is_le (nat_cmp m n) ≡ true
le_numbers m n h = grind (arith, nat_tests)

lt_numbers : (m n : ℕ) → m < n → is_lt (nat_cmp m n) ≡ true
lt_numbers m n h = grind (arith, nat_tests)

less_numbers : (m n : ℕ) → is_lt (nat_cmp m n) ≡ true → m < n
less_numbers m n e = grind (arith, nat_tests)

le_then : (r s : Ordering) → is_le r ≡ true → is_le s ≡ true → is_le (ordering_then r s) ≡ true
le_then Less s first second = refl
le_then Equal s first second = second
le_then Greater s first second = cc

lt_le_then : (r s t : Ordering) → (is_lt s ≡ true → is_le t ≡ true) → is_lt (ordering_then r s) ≡ true → is_le (ordering_then r t) ≡ true
lt_le_then Less s t step e = refl
lt_le_then Equal s t step e = step e
lt_le_then Greater s t step e = cc

is_less : (r : Ordering) → is_lt r ≡ true → r ≡ Less
is_less Less e = refl
is_less Equal e = cc
is_less Greater e = cc

-- a row below one that is at most another
lt_le : (a b c : HostRow) → is_lt (row_cmp a b) ≡ true → is_le (row_cmp b c) ≡ true → is_lt (row_cmp a c) ≡ true
lt_le a b c first next =
    elim (row_cmp b c) as (λ o. row_cmp b c ≡ o → is_le o ≡ true → is_lt (row_cmp a c) ≡ true) [
      | Less ↦ λ is q. ap is_lt (row_cmp_total.trans a b c (is_less (row_cmp a b) first) is)
      | Equal ↦ λ is q. ap (λ r. is_lt (row_cmp a r)) (sym (row_cmp_exact b c is)) ∙ first
      | Greater ↦ λ is q. let never : false ≡ true = q in cc
    ] refl next

-- ---- the greatest rows

-- how a row is to one of the greatest, by how their gateways are
abbrev to_top : HostRow → Ordering → Ordering
to_top row gates =
    ordering_then (nat_cmp (row_rank row) 4)
    (ordering_then (nat_cmp (family (row_net row)) 1)
    (ordering_then (nat_cmp (row_iface row) 64)
    (ordering_then (nat_cmp (net_number (row_net row)) (2 ^ 128 - 1))
    (ordering_then (nat_cmp (net_len (row_net row)) 128) (ordering_then (nat_cmp (row_metric row) (2 ^ 32 - 1)) gates)))))

top_cmp : (row : HostRow) (above : ℕ) → row_cmp row (top_row above) ≡ to_top row (nat_cmp (row_gate row) (2 ^ 128 - 1 - above))
unfolding top_row
top_cmp row above = refl

gate_below : (gate above : ℕ) → is_lt (nat_cmp gate (2 ^ 128 - 1 - above)) ≡ true → is_le (nat_cmp gate (2 ^ 128 - 1 - suc above)) ≡ true
gate_below gate above e =
    let less = less_numbers gate (2 ^ 128 - 1 - above) e in le_numbers gate (2 ^ 128 - 1 - suc above) (omega (arith, less))

-- what is below a row is at most the one before it
at_most : (row : HostRow) (above : ℕ) → is_lt (row_cmp row (top_row above)) ≡ true → is_le (row_cmp row (top_row (suc above))) ≡ true
at_most row above e =
    let here : is_lt (to_top row (nat_cmp (row_gate row) (2 ^ 128 - 1 - above))) ≡ true = sym (ap is_lt (top_cmp row above)) ∙ e in
    let last = nat_cmp (row_gate row) (2 ^ 128 - 1 - above) in
    let next = nat_cmp (row_gate row) (2 ^ 128 - 1 - suc above) in
    ap is_le (top_cmp row (suc above))
    ∙ lt_le_then (nat_cmp (row_rank row) 4) _ _
    (lt_le_then (nat_cmp (family (row_net row)) 1) _ _
    (lt_le_then (nat_cmp (row_iface row) 64) _ _
    (lt_le_then (nat_cmp (net_number (row_net row)) (2 ^ 128 - 1)) _ _
    (lt_le_then (nat_cmp (net_len (row_net row)) 128) _ _
    (lt_le_then (nat_cmp (row_metric row) (2 ^ 32 - 1)) last next (gate_below (row_gate row) above))))))
    here

record Bounds (row : HostRow) : Type 0 where
  rank : row_rank row ≤ 4
  family_is : family (row_net row) ≤ 1
  iface : row_iface row ≤ 64
  number : net_number (row_net row) ≤ 2 ^ 128 - 1
  len : net_len (row_net row) ≤ 128
  metric : row_metric row ≤ 2 ^ 32 - 1
  gate : row_gate row ≤ 2 ^ 128 - 1 - 0

addr_bounds : (number len : ℕ) → number < 2 ^ 32 → len ≤ 32 → (number ≤ 2 ^ 128 - 1) × (len ≤ 128)
addr_bounds number len a b = (omega (arith, a), omega (arith, b))

bounds : (row : HostRow) → IsRow row → Bounds row
bounds (Addr iface (V4 net)) fits =
    let number = fits.1.0 in
    let len = fits.1.1 in
    record {
      rank = omega arith;
      family_is = omega arith;
      iface = fits.0.1;
      number = omega (arith, number);
      len = omega (arith, len);
      metric = omega arith;
      gate = omega arith;
    }
bounds (Addr iface (V6 net)) fits =
    let number = fits.1.0 in
    record {
      rank = omega arith;
      family_is = omega arith;
      iface = fits.0.1;
      number = omega (arith, number);
      len = fits.1.1;
      metric = omega arith;
      gate = omega arith;
    }
bounds (Route iface (V4 net) OnLink metric) fits =
    let number = fits.1.0 in
    let len = fits.1.1 in
    let last = fits.4 in
    record {
      rank = omega arith;
      family_is = omega arith;
      iface = fits.0.1;
      number = omega (arith, number);
      len = omega (arith, len);
      metric = omega (arith, last);
      gate = omega arith;
    }
bounds (Route iface (V4 net) Reject metric) fits =
    let number = fits.1.0 in
    let len = fits.1.1 in
    let last = fits.4 in
    record {
      rank = omega arith;
      family_is = omega arith;
      iface = fits.0.1;
      number = omega (arith, number);
      len = omega (arith, len);
      metric = omega (arith, last);
      gate = omega arith;
    }
bounds (Route iface (V4 net) (Gate4 gate) metric) fits =
    let number = fits.1.0 in
    let len = fits.1.1 in
    let way = fits.3 in
    let last = fits.4 in
    record {
      rank = omega arith;
      family_is = omega arith;
      iface = fits.0.1;
      number = omega (arith, number);
      len = omega (arith, len);
      metric = omega (arith, last);
      gate = omega (arith, way);
    }
bounds (Route iface (V4 net) (Gate6 gate) metric) fits = absurd fits.3
bounds (Route iface (V6 net) OnLink metric) fits =
    let number = fits.1.0 in
    let last = fits.4 in
    record {
      rank = omega arith;
      family_is = omega arith;
      iface = fits.0.1;
      number = omega (arith, number);
      len = fits.1.1;
      metric = omega (arith, last);
      gate = omega arith;
    }
bounds (Route iface (V6 net) Reject metric) fits =
    let number = fits.1.0 in
    let last = fits.4 in
    record {
      rank = omega arith;
      family_is = omega arith;
      iface = fits.0.1;
      number = omega (arith, number);
      len = fits.1.1;
      metric = omega (arith, last);
      gate = omega arith;
    }
bounds (Route iface (V6 net) (Gate4 gate) metric) fits = absurd fits.3
bounds (Route iface (V6 net) (Gate6 gate) metric) fits =
    let number = fits.1.0 in
    let way = fits.3 in
    let last = fits.4 in
    record {
      rank = omega arith;
      family_is = omega arith;
      iface = fits.0.1;
      number = omega (arith, number);
      len = fits.1.1;
      metric = omega (arith, last);
      gate = omega (arith, way);
    }

-- no row is above the greatest
top_most : (row : HostRow) → IsRow row → is_le (row_cmp row (top_row 0)) ≡ true
top_most row fits =
    let b = bounds row fits in
    ap is_le (top_cmp row 0)
    ∙ le_then (nat_cmp (row_rank row) 4) _ (le_numbers (row_rank row) 4 b.rank)
    (le_then (nat_cmp (family (row_net row)) 1) _ (le_numbers (family (row_net row)) 1 b.family_is)
    (le_then (nat_cmp (row_iface row) 64) _ (le_numbers (row_iface row) 64 b.iface)
    (le_then (nat_cmp (net_number (row_net row)) (2 ^ 128 - 1)) _ (le_numbers (net_number (row_net row)) (2 ^ 128 - 1) b.number)
    (le_then (nat_cmp (net_len (row_net row)) 128) _ (le_numbers (net_len (row_net row)) 128 b.len)
    (le_then (nat_cmp (row_metric row) (2 ^ 32 - 1)) _ (le_numbers (row_metric row) (2 ^ 32 - 1) b.metric)
    (le_numbers (row_gate row) (2 ^ 128 - 1 - 0) b.gate))))))

-- each of the greatest rows is below the one before it
tops_rise : (above : ℕ) → suc above ≤ 2 ^ 128 - 1 → is_lt (row_cmp (top_row (suc above)) (top_row above)) ≡ true
unfolding top_row
tops_rise above small = lt_numbers (2 ^ 128 - 1 - suc above) (2 ^ 128 - 1 - above) (omega (arith, small))

top_is_row : (above : ℕ) → IsRow (top_row above)
unfolding top_row
top_is_row above =
    ((omega arith, omega arith), (omega arith, omega arith), refl, omega arith, omega arith)

-- ---- room

leaves_some : (left : ℕ) (row : HostRow) → is_lt (row_cmp row (top_row left)) ≡ true → leaves_room (suc left) row ≡ true
leaves_some left row e =
    let one_less : suc left - 1 ≡ left = omega arith in
    ap (λ b. cond b true (is_lt (row_cmp row (top_row (suc left - 1))))) (ne_eqb (suc left) 0 (λ z. absurd (omega (arith, z))))
    ∙ ap (λ n. is_lt (row_cmp row (top_row n))) one_less ∙ e

some_left : (left : ℕ) (row : HostRow) → leaves_room (suc left) row ≡ true → is_lt (row_cmp row (top_row left)) ≡ true
some_left left row e =
    let one_less : suc left - 1 ≡ left = omega arith in
    sym
    (ap (λ b. cond b true (is_lt (row_cmp row (top_row (suc left - 1))))) (ne_eqb (suc left) 0 (λ z. absurd (omega (arith, z))))
    ∙ ap (λ n. is_lt (row_cmp row (top_row n))) one_less)
    ∙ e

below_top : (row first : HostRow) (rows : List HostRow) → AllByRecursion IsRow (first ∷ rows) → Rise (Some row) (first ∷ rows)
    → is_lt (row_cmp row (top_row (length rows))) ≡ true
below_top row first [] fits rise = lt_le row first (top_row 0) rise.0 (top_most first fits.0)
below_top row first (next ∷ rows) fits rise =
    lt_le row first (top_row (suc (length rows))) rise.0 (at_most first (length rows) (below_top first next rows fits.1 rise.1))

-- rows that rise leave room for those after them
pub room_left : (row : HostRow) (rows : List HostRow) → AllByRecursion IsRow rows → Rise (Some row) rows → leaves_room (length rows) row ≡ true
room_left row [] fits rise = refl
room_left row (first ∷ rows) fits rise = leaves_some (length rows) row (below_top row first rows fits rise)

-- the greatest rows, rising
abbrev pub tops : ℕ → List HostRow
tops zero = []
tops (suc n) = top_row n ∷ tops n

pub tops_length : (n : ℕ) → length (tops n) ≡ n
tops_length zero = refl
tops_length (suc n) = ap suc (tops_length n)

pub tops_are : (n : ℕ) → AllByRecursion IsRow (tops n)
tops_are zero = tt
tops_are (suc n) = (top_is_row n, tops_are n)

-- so many rows can come after the last one
abbrev pub HasRoom : Option HostRow → ℕ → Type 0
HasRoom None left = Unit {0}
HasRoom (Some last) left = leaves_room left last ≡ true

first_top : (last : Option HostRow) (n : ℕ) → HasRoom last (suc n) → comes_after last (top_row n) ≡ true
first_top None n room = refl
first_top (Some last) n room = some_left n last room

top_room : (n : ℕ) → n ≤ 2 ^ 128 - 1 → HasRoom (Some (top_row n)) n
top_room zero small = refl
top_room (suc n) small = leaves_some n (top_row (suc n)) (tops_rise n small)

pub tops_come : (last : Option HostRow) (n : ℕ) → n ≤ 2 ^ 64 → HasRoom last n → Rise last (tops n)
tops_come last zero small room = tt
tops_come last (suc n) small room =
    (first_top last n room, tops_come (Some (top_row n)) n (omega (arith, small)) (top_room n (omega (arith, small))))
