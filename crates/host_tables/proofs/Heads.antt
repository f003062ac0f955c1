-- The first of the bringings at or after a target's beginning stands for the target, or nothing does.
use Rattle.std.proofs.Common.{ℕ, ◌≡◌, Bool, true, false, not, ◌||◌, ◌&&◌, List, [], ◌∷◌, nat_eq, refl, sym, ap, subst, ◌∙◌, arith}
use Rattle.std.proofs.lemmas.Bool.Decides.{nat_tests}
use Rattle.std.proofs.lemmas.Bool.{false≢true, and_parts}
use Rattle.std.specs.List.{list_any}
use Rattle.std.specs.declared.cmp.Ordering.{Ordering}
use Rattle.std.specs.declared.cmp.Ordering.TheVariants.{Less, Equal, Greater}
use Rattle.std.specs.Ordering.{nat_cmp, ordering_then, ordering_reverse, is_eq, is_lt, is_gt}
use Rattle.std.specs.Cmp.{Equal-is, tied_itself, tied_then, nat_cmp_total}
use Rattle.std.specs.BTreeMap.{is_at}
use Rattle.std.specs.BTreeMap.Range.{IsLeBy}
use Rattle.net_types.proofs.CaseLaws.{split}
use Rattle.world.specs.declared.rows.HostRow.{HostRow}
use Rattle.world.specs.declared.rows.HostRow.TheVariants.{Addr, Route}
use Rattle.world.specs.declared.rows.Via.TheVariants as Ways
use Rattle.world.specs.RowOrder.{row_iface, row_cmp, row_cmp_total, has_row}
use Rattle.host_tables.specs.declared.bringing.Bringing.{Bringing}
use Rattle.host_model.specs.Precedence.{goes_before, outranks, is_kept}
use Rattle.host_tables.specs.Bringings.{target_of, contends, stands, bringing_cmp, bringing_cmp_total, has_bringing, rows_in}
use Rattle.host_tables.proofs.Contending.{same_reversed, or_is, or_more, off_where, off_last, on_both, row_is, row_itself, passed_among, passed_by_none, before_cmp, before_cmp_total, goes_before_is, one_target, contending, outranks_is, eq_numbers}

-- ---- answers one after another

first_not : (r s : Ordering) → is_gt (ordering_then r s) ≡ false → is_gt r ≡ false
first_not Less s e = refl
first_not Equal s e = refl
first_not Greater s e = e

rest_not : (r s : Ordering) → r ≡ Equal → is_gt (ordering_then r s) ≡ false → is_gt s ≡ false
rest_not Less s e f = cc
rest_not Equal s e f = f
rest_not Greater s e f = cc

front_not : (i r n : Ordering) → is_gt (ordering_then i (ordering_then r n)) ≡ false → is_gt (ordering_then i r) ≡ false
front_not Less r n e = refl
front_not Equal r n e = first_not r n e
front_not Greater r n e = e

not_above : (r s : Ordering) → is_gt r ≡ false → (r ≡ Equal → is_gt s ≡ false) → is_gt (ordering_then r s) ≡ false
not_above Less s low more = refl
not_above Equal s low more = more refl
not_above Greater s low more = low

neither_above : (r : Ordering) → is_gt r ≡ false → is_gt (ordering_reverse r) ≡ false → r ≡ Equal
neither_above Less low high = let never : true ≡ false = high in cc
neither_above Equal low high = refl
neither_above Greater low high = let never : true ≡ false = low in cc

must_be_below : (r : Ordering) → is_gt r ≡ false → is_eq r ≡ false → is_lt r ≡ true
must_be_below Less a b = refl
must_be_below Equal a b = let never : true ≡ false = b in cc
must_be_below Greater a b = let never : true ≡ false = a in cc

turned_below : (r : Ordering) → is_gt r ≡ false → is_lt (ordering_reverse r) ≡ false
turned_below Less e = refl
turned_below Equal e = refl
turned_below Greater e = let never : true ≡ false = e in cc

-- ---- the beginning of a target

target_twice : (row : HostRow) → target_of (target_of row) ≡ target_of row
target_twice (Addr i a) = refl
target_twice (Route i a v m) = refl

none_below_zero : (n : ℕ) → is_gt (nat_cmp 0 n) ≡ false
none_below_zero n = grind (arith, nat_tests)

same_number : (m n : ℕ) → nat_cmp m n ≡ Equal → m ≡ n
same_number m n e = grind (arith, nat_tests)

not_gt : (r : Ordering) → r ≡ Equal → is_gt r ≡ false
not_gt r e = ap is_gt e

-- its interface and way are the lowest
least_of_own : (row : HostRow) (place : ℕ)
    → is_gt (ordering_then (nat_cmp (row_iface (target_of row)) (row_iface row)) (ordering_then (row_cmp (target_of row) row) (nat_cmp 0 place))) ≡ false
least_of_own (Addr i a) place =
    not_above _ _ (not_gt _ (tied_itself nat_cmp_total i.number))
    (λ _. not_above _ _ (not_gt _ (tied_itself row_cmp_total (Addr i a))) (λ _. none_below_zero place))
least_of_own (Route i a Ways.OnLink m) place =
    not_above (nat_cmp 0 i.number) _ (none_below_zero i.number)
    (λ same. not_above _ _
    (not_gt _
    (ap (λ (n : ℕ). row_cmp (Route (record { number = n }) a Ways.OnLink m) (Route i a Ways.OnLink m)) (same_number 0 i.number same)
    ∙ tied_itself row_cmp_total (Route i a Ways.OnLink m)))
    (λ _. none_below_zero place))
least_of_own (Route i a Ways.Reject m) place = not_above (nat_cmp 0 i.number) _ (none_below_zero i.number) (λ _. refl)
least_of_own (Route i a (Ways.Gate4 g) m) place = not_above (nat_cmp 0 i.number) _ (none_below_zero i.number) (λ _. refl)
least_of_own (Route i a (Ways.Gate6 g) m) place = not_above (nat_cmp 0 i.number) _ (none_below_zero i.number) (λ _. refl)

abbrev beginning : HostRow → Bringing
beginning row = record { row = target_of row; place = 0 }

abbrev bringing : HostRow → ℕ → Bringing
bringing row place = record { row = row; place = place }

own_beginning : (row : HostRow) (place : ℕ) → IsLeBy bringing_cmp (beginning row) (bringing row place)
own_beginning row place =
    not_above _ _ (not_gt _ (ap (λ (t : HostRow). row_cmp t (target_of row)) (target_twice row) ∙ tied_itself row_cmp_total (target_of row)))
    (λ _. least_of_own row place)

-- what has the target is at or after it
at_beginning : (row q : HostRow) (place : ℕ) → contends q row ≡ true → IsLeBy bringing_cmp (beginning row) (bringing q place)
at_beginning row q place same =
    subst (λ (t : HostRow). IsLeBy bringing_cmp (record { row = t; place = 0 }) (bringing q place)) (one_target q row same) (own_beginning q place)

-- what stands between the beginning of a target and what has it, has it too
between : (row q : HostRow) (k : Bringing) (place : ℕ) → contends q row ≡ true → IsLeBy bringing_cmp (beginning row) k
    → IsLeBy bringing_cmp k (bringing q place)
    → contends k.row row ≡ true
between row q k place same low high =
    let above : is_gt (row_cmp (target_of row) (target_of k.row)) ≡ false =
    ap (λ (t : HostRow). is_gt (row_cmp t (target_of k.row))) (sym (target_twice row)) ∙ first_not _ _ low in
    let below : is_gt (row_cmp (target_of k.row) (target_of row)) ≡ false =
    ap (λ (t : HostRow). is_gt (row_cmp (target_of k.row) t)) (sym (one_target q row same)) ∙ first_not _ _ high in
    ap is_eq (neither_above (row_cmp (target_of k.row) (target_of row)) below
    (ap is_gt (sym (row_cmp_total.antisymm (target_of row) (target_of k.row))) ∙ above))

-- what comes no later, of one target, goes no later
no_later : (k : Bringing) (q : HostRow) (place : ℕ) → contends k.row q ≡ true → IsLeBy bringing_cmp k (bringing q place) → is_gt (before_cmp k.row q) ≡ false
no_later k q place same le = front_not _ _ (nat_cmp k.place place) (rest_not _ _ ((Equal-is (row_cmp (target_of k.row) (target_of q))).0 same) le)

-- ---- bringings and their rows

third_tied : (t i r n : Ordering) → is_eq (ordering_then t (ordering_then i (ordering_then r n))) ≡ true → is_eq r ≡ true
third_tied t i r n e =
    let one = and_parts (is_eq t) _ (tied_then t _ ∙ e) in
    let two = and_parts (is_eq i) _ (tied_then i _ ∙ one.1) in
    (and_parts (is_eq r) _ (tied_then r n ∙ two.1)).0

pub row_brought : (bs : List Bringing) (row : HostRow) (place : ℕ) → has_bringing bs row place ≡ true → has_row (rows_in bs) row ≡ true
row_brought [] row place has = has
row_brought (b ∷ bs) row place has =
    split (is_eq (bringing_cmp (bringing row place) b))
    (λ here. or_is _ (has_row (rows_in bs) row) (third_tied _ _ (row_cmp row b.row) (nat_cmp place b.place) here))
    (λ there. or_more (is_eq (row_cmp row b.row)) _ (row_brought bs row place (sym (ap (λ (e : Bool). e || has_bringing bs row place) there) ∙ has)))

pub record Brought (bs : List Bringing) (row : HostRow) : Type 0 where
  pub place : ℕ
  pub has : has_bringing bs row place ≡ true

pub bringer : (bs : List Bringing) (row : HostRow) → has_row (rows_in bs) row ≡ true → Brought bs row
bringer [] row has = absurd (false≢true has)
bringer (b ∷ bs) row has =
    split (is_eq (row_cmp row b.row))
    (λ here. record {
      place = b.place;
      has = or_is _ (has_bringing bs row b.place)
          (ap (λ (r : HostRow). is_eq (bringing_cmp (bringing r b.place) b)) (row_is row b.row here) ∙ ap is_eq (tied_itself bringing_cmp_total b));
    })
    (λ there. let more : Brought bs row = bringer bs row (sym (ap (λ (e : Bool). e || has_row (rows_in bs) row) there) ∙ has) in
    record { place = more.place; has = or_more (is_eq (bringing_cmp (bringing row more.place) b)) _ more.has })

-- a bringing of this row at this place, told apart by both
bringing_is : (x row : HostRow) (place at : ℕ) → is_eq (bringing_cmp (bringing x place) (bringing row at)) ≡ (nat_eq at place && is_eq (row_cmp row x))
bringing_is x row place at =
    split (is_eq (row_cmp row x))
    (λ same. ap (λ (r : HostRow). is_eq (bringing_cmp (bringing r place) (bringing row at))) (sym (row_is row x same)) ∙ own row
    ∙ sym (ap (λ (b : Bool). nat_eq at place && b) same ∙ and_on (nat_eq at place)))
    (λ apart. split (is_eq (bringing_cmp (bringing x place) (bringing row at)))
    (λ tied. absurd
    (false≢true
    (sym apart ∙ ap (λ (r : HostRow). is_eq (row_cmp r x)) (sym (row_is x row (third_tied _ _ (row_cmp x row) (nat_cmp place at) tied)))
    ∙ row_itself x)))
    (λ no. no ∙ sym (ap (λ (b : Bool). nat_eq at place && b) apart ∙ off_last (nat_eq at place) false refl)))
  where
    and_on : (a : Bool) → (a && true) ≡ a
    and_on true = refl
    and_on false = refl

    all_tied : (t i r n : Ordering) → t ≡ Equal → i ≡ Equal → r ≡ Equal → is_eq (ordering_then t (ordering_then i (ordering_then r n))) ≡ is_eq n
    all_tied t i r n a b c =
        ap (λ (o : Ordering). is_eq (ordering_then o (ordering_then i (ordering_then r n)))) a
        ∙ ap (λ (o : Ordering). is_eq (ordering_then o (ordering_then r n))) b
        ∙ ap (λ (o : Ordering). is_eq (ordering_then o n)) c

    number_turned : (m n : ℕ) → nat_eq m n ≡ nat_eq n m
    number_turned m n = grind (arith, nat_tests)

    own : (r : HostRow) → is_eq (bringing_cmp (bringing r place) (bringing r at)) ≡ nat_eq at place
    own r =
        all_tied _ _ _ (nat_cmp place at) (tied_itself row_cmp_total (target_of r)) (tied_itself nat_cmp_total (row_iface r)) (tied_itself row_cmp_total r)
        ∙ eq_numbers place at ∙ number_turned place at

-- the other way about
pub bringing_at : (row x : HostRow) (at place : ℕ) → is_eq (bringing_cmp (bringing row at) (bringing x place)) ≡ (nat_eq at place && is_eq (row_cmp row x))
bringing_at row x at place =
    ap is_eq (bringing_cmp_total.antisymm (bringing row at) (bringing x place)) ∙ same_reversed (bringing_cmp (bringing x place) (bringing row at))
    ∙ bringing_is x row place at

-- ---- what the search finds

module _ (bs : List Bringing) (row : HostRow) where
  abbrev rows : List HostRow
  rows = rows_in bs

  -- a row with the target that isn't brought doesn't stand
  absent : (q : HostRow) → ((place : ℕ) → has_bringing bs q place ≡ true → false ≡ true) → stands rows q ≡ false
  absent q none =
      off_last (is_kept rows q) (has_row rows q)
      (split (has_row rows q) (λ has. let by : Brought bs q = bringer bs q has in absurd (false≢true (none by.place by.has))) (λ no. no))

  -- nothing is at or after the beginning
  pub none_stands : ((k : Bringing) → IsLeBy bringing_cmp (beginning row) k → list_any (is_at (bringing_cmp k)) bs ≡ false)
      → (q : HostRow) → (contends q row && stands rows q) ≡ false
  none_stands none q =
      off_where (contends q row) (stands rows q)
      (λ same. absent q (λ place has. sym (none (bringing q place) (at_beginning row q place same)) ∙ has))

  module _ (k : Bringing) (low : IsLeBy bringing_cmp (beginning row) k)
      (least : (b : Bringing) → IsLeBy bringing_cmp (beginning row) b → list_any (is_at (bringing_cmp b)) bs ≡ true → IsLeBy bringing_cmp k b) where
    comes_first : (q : HostRow) (place : ℕ) → contends q row ≡ true → has_bringing bs q place ≡ true → IsLeBy bringing_cmp k (bringing q place)
    comes_first q place same has = least (bringing q place) (at_beginning row q place same) has

    -- the first has another target
    pub other_stands : contends k.row row ≡ false → (q : HostRow) → (contends q row && stands rows q) ≡ false
    other_stands apart q =
        off_where (contends q row) (stands rows q)
        (λ same. absent q (λ place has. sym apart ∙ between row q k place same low (comes_first q place same has)))

    -- the first has the target: it is the one that stands
    pub first_stands : list_any (is_at (bringing_cmp k)) bs ≡ true → contends k.row row ≡ true → (q : HostRow)
        → (contends q row && stands rows q) ≡ is_eq (row_cmp k.row q)
    first_stands has here q =
        split (is_eq (row_cmp k.row q))
        (λ same. subst (λ (r : HostRow). (contends r row && stands rows r) ≡ is_eq (row_cmp k.row r)) (row_is k.row q same)
        (on_both _ _ here
        (on_both _ _ (ap not (passed_by_none (λ other. outranks other k.row) rows (λ o among. not_outranked o among))) (row_brought bs k.row k.place has))
        ∙ sym (row_itself k.row)))
        (λ apart. off_where (contends q row) (stands rows q) (λ same. later q same apart) ∙ sym apart)
      where
        not_outranked : (o : HostRow) → has_row rows o ≡ true → outranks o k.row ≡ false
        not_outranked o among =
            outranks_is o k.row
            ∙ off_where (contends o k.row) (goes_before o k.row)
            (λ same.
            let by : Brought bs o = bringer bs o among in
            let one : target_of k.row ≡ target_of o = sym (one_target o k.row same) in
            let le : IsLeBy bringing_cmp k (bringing o by.place) = comes_first o by.place (contending o row (sym one ∙ one_target k.row row here)) by.has in
            goes_before_is o k.row ∙ ap is_lt (before_cmp_total.antisymm o k.row)
            ∙ turned_below (before_cmp k.row o) (no_later k o by.place (contending k.row o one) le))

        later : (o : HostRow) → contends o row ≡ true → is_eq (row_cmp k.row o) ≡ false → stands rows o ≡ false
        later o same apart =
            split (has_row rows o)
            (λ among.
            let by : Brought bs o = bringer bs o among in
            let one : contends k.row o ≡ true = contending k.row o (one_target k.row row here ∙ sym (one_target o row same)) in
            let below : is_lt (before_cmp k.row o) ≡ true =
            must_be_below (before_cmp k.row o) (no_later k o by.place one (comes_first o by.place same by.has))
            (sym (tied_then (nat_cmp (row_iface k.row) (row_iface o)) (row_cmp k.row o)) ∙ off_last (is_eq (nat_cmp (row_iface k.row) (row_iface o))) _ apart)
            in
            let above : outranks k.row o ≡ true = outranks_is k.row o ∙ on_both _ _ one (goes_before_is k.row o ∙ below) in
            ap (λ (b : Bool). not b && has_row rows o) (passed_among (λ other. outranks other o) rows k.row (row_brought bs k.row k.place has) above))
            (λ no. off_last (is_kept rows o) (has_row rows o) no)
