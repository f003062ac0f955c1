-- Of the routes with one destination, length and metric one is kept.
use Rattle.std.proofs.Common.{ℕ, ◌≡◌, Bool, true, false, not, ◌||◌, ◌&&◌, List, [], ◌∷◌, ◌⊎◌, inl, inr, nat_lt, nat_eq, refl, sym, ap, subst, ◌∙◌, arith}
use Rattle.std.proofs.lemmas.Bool.Decides.{nat_tests}
use Rattle.std.specs.Prelude.{filter, if◌then◌else◌}
use Rattle.std.specs.List.{list_any}
use Rattle.std.specs.declared.cmp.Ordering.{Ordering}
use Rattle.std.specs.declared.cmp.Ordering.TheVariants.{Less, Equal, Greater}
use Rattle.std.specs.Ordering.{ordering_reverse, is_eq, is_lt}
use Rattle.std.specs.Cmp.{Equal-is, tied_itself}
use Rattle.std.proofs.lemmas.Bool.{false≢true}
use Rattle.net_types.specs.declared.address.Net.{Net}
use Rattle.net_types.specs.declared.interface.IfIndex.{IfIndex}
use Rattle.world.specs.declared.rows.HostRow.{HostRow}
use Rattle.world.specs.declared.rows.HostRow.TheVariants.{Addr, Route}
use Rattle.world.specs.RowOrder.{family, net_number, net_len, row_iface, row_cmp, row_cmp_total, has_row}
use Rattle.world.proofs.ExactRows.{row_cmp_exact}
use Rattle.world.proofs.RowLists.{in_order_has}
use Rattle.host_model.proofs.HostTableRows.{has_filter}
use Rattle.client_model.specs.declared.interfaces.Iface.{Iface}
use Rattle.host_model.specs.Precedence.{same_target, goes_before, outranks, is_kept}
use Rattle.client_model.specs.WantedRows.{wanted_rows}
use Rattle.client_model.specs.KeptRows.{given_rows, KeptUnlike, DroppedHaveKeeper, AddressesStay}

-- ---- the order of rows by interface and row order

abbrev before : (i j : ℕ) → (less : Bool) → Bool
before i j less = nat_lt i j || (nat_eq i j && less)

before_trans : (i j k : ℕ) (p q r : Bool) → (p ≡ true → q ≡ true → r ≡ true) → before i j p ≡ true → before j k q ≡ true → before i k r ≡ true
before_trans i j k true true true f a b = grind (arith, nat_tests)
before_trans i j k true true false f a b = absurd (false≢true (f refl refl))
before_trans i j k true false true f a b = grind (arith, nat_tests)
before_trans i j k true false false f a b = grind (arith, nat_tests)
before_trans i j k false true true f a b = grind (arith, nat_tests)
before_trans i j k false true false f a b = grind (arith, nat_tests)
before_trans i j k false false true f a b = grind (arith, nat_tests)
before_trans i j k false false false f a b = grind (arith, nat_tests)

is_less : (r : Ordering) → is_lt r ≡ true → r ≡ Less
is_less Less h = refl
is_less Equal h = cc
is_less Greater h = cc

goes_trans : (a b c : HostRow) → goes_before a b ≡ true → goes_before b c ≡ true → goes_before a c ≡ true
goes_trans a b c first next =
    before_trans (row_iface a) (row_iface b) (row_iface c) (is_lt (row_cmp a b)) (is_lt (row_cmp b c)) (is_lt (row_cmp a c))
    (λ p q. ap is_lt (row_cmp_total.trans a b c (is_less (row_cmp a b) p) (is_less (row_cmp b c) q))) first next

not_itself : (i : ℕ) → before i i false ≡ false
not_itself i = grind (arith, nat_tests)

goes_not : (a : HostRow) → goes_before a a ≡ false
goes_not a = ap (λ less. before (row_iface a) (row_iface a) less) (ap is_lt (tied_itself row_cmp_total a)) ∙ not_itself (row_iface a)

-- ---- routes with one target

abbrev same_parts : (f g n m k l p q : ℕ) → Bool
same_parts f g n m k l p q = (nat_eq f g && (nat_eq n m && nat_eq k l)) && nat_eq p q

parts_trans : (f g h n m o k l j p q r : ℕ) → same_parts f g n m k l p q ≡ true → same_parts g h m o l j q r ≡ true → same_parts f h n o k j p r ≡ true
parts_trans f g h n m o k l j p q r a b = grind (arith, nat_tests)

parts_turn : (f g n m k l p q : ℕ) → same_parts f g n m k l p q ≡ true → same_parts g f m n l k q p ≡ true
parts_turn f g n m k l p q a = grind (arith, nat_tests)

target_trans : (a b c : HostRow) → same_target a b ≡ true → same_target b c ≡ true → same_target a c ≡ true
target_trans (Addr i a) b c first next = cc
target_trans (Route i a v p) (Addr j b) c first next = cc
target_trans (Route i a v p) (Route j b w q) (Addr k c) first next = cc
target_trans (Route i a v p) (Route j b w q) (Route k c x r) first next =
    parts_trans (family a) (family b) (family c) (net_number a) (net_number b) (net_number c) (net_len a) (net_len b) (net_len c) p q r first next

target_turn : (a b : HostRow) → same_target a b ≡ true → same_target b a ≡ true
target_turn (Addr i a) b same = cc
target_turn (Route i a v p) (Addr j b) same = cc
target_turn (Route i a v p) (Route j b w q) same = parts_turn (family a) (family b) (net_number a) (net_number b) (net_len a) (net_len b) p q same

both : (a b : Bool) → (a && b) ≡ true → (a ≡ true) × (b ≡ true)
both true b e = (refl, e)
both false b e = cc

and_true : (a b : Bool) → a ≡ true → b ≡ true → (a && b) ≡ true
and_true true b p q = q
and_true false b p q = cc

and_false : (a b : Bool) → b ≡ false → (a && b) ≡ false
and_false true b p = p
and_false false b p = refl

outranks_trans : (a b c : HostRow) → outranks a b ≡ true → outranks b c ≡ true → outranks a c ≡ true
unfolding outranks
outranks_trans a b c first next =
    let one = both _ _ first in
    let two = both _ _ next in
    and_true (same_target a c) (goes_before a c) (target_trans a b c one.0 two.0) (goes_trans a b c one.1 two.1)

outranks_not : (a : HostRow) → outranks a a ≡ false
unfolding outranks
outranks_not a = and_false (same_target a a) (goes_before a a) (goes_not a)

-- ---- one that no other outranks

either : (b : Bool) → (b ≡ true) ⊎ (b ≡ false)
either true = inl refl
either false = inr refl

choice : {X : Type 0} (P : X → Type 0) (b : Bool) (x y : X) → (b ≡ true → P x) → (b ≡ false → P y) → P (if b then x else y)
choice P true x y p q = p refl
choice P false x y p q = q refl

abbrev first_of : List HostRow → HostRow → HostRow
first_of [] row = row
first_of (x ∷ xs) row = first_of xs (if outranks x row then x else row)

-- it is as high as the row that it begins with
abbrev AsHigh : HostRow → HostRow → Type 0
AsHigh high row = (high ≡ row) ⊎ (outranks high row ≡ true)

higher_still : (a b c : HostRow) → AsHigh a b → AsHigh b c → AsHigh a c
higher_still a b c (inl e) (inl f) = inl (e ∙ f)
higher_still a b c (inl e) (inr f) = inr (subst (λ (x : HostRow). outranks x c ≡ true) (sym e) f)
higher_still a b c (inr e) (inl f) = inr (subst (λ (x : HostRow). outranks a x ≡ true) f e)
higher_still a b c (inr e) (inr f) = inr (outranks_trans a b c e f)

one_step : (x row : HostRow) → AsHigh (if outranks x row then x else row) row
one_step x row = choice (λ (h : HostRow). AsHigh h row) (outranks x row) x row (λ e. inr e) (λ e. inl refl)

first_high : (xs : List HostRow) (row : HostRow) → AsHigh (first_of xs row) row
first_high [] row = inl refl
first_high (x ∷ xs) row =
    let next : HostRow = if outranks x row then x else row in
    higher_still (first_of xs next) next row (first_high xs next) (one_step x row)

-- what doesn't outrank a row outranks none that is as high
not_above : (y high row : HostRow) → AsHigh high row → outranks y row ≡ false → outranks y high ≡ false
not_above y high row as_high none = by (either (outranks y high))
  where
    above : AsHigh high row → outranks y high ≡ true → outranks y row ≡ true
    above (inl e) h = subst (λ (x : HostRow). outranks y x ≡ true) e h
    above (inr e) h = outranks_trans y high row h e

    by : (outranks y high ≡ true) ⊎ (outranks y high ≡ false) → outranks y high ≡ false
    by (inl h) = absurd (false≢true (sym none ∙ above as_high h))
    by (inr h) = h

none_above : (xs : List HostRow) (row : HostRow) → list_any (λ other. outranks other (first_of xs row)) xs ≡ false
none_above [] row = refl
none_above (x ∷ xs) row =
    let next : HostRow = if outranks x row then x else row in
    let high : HostRow = first_of xs next in
    let here : outranks x next ≡ false = choice (λ (h : HostRow). outranks x h ≡ false) (outranks x row) x row (λ e. outranks_not x) (λ e. e) in
    ap (λ b. b || list_any (λ other. outranks other high) xs) (not_above x high next (first_high xs next) here) ∙ none_above xs next

-- ---- rows among others

or_left : (a b : Bool) → a ≡ true → (a || b) ≡ true
or_left true b e = refl
or_left false b e = cc

or_right : (a b : Bool) → b ≡ true → (a || b) ≡ true
or_right true b e = refl
or_right false b e = e

or_either : (a b : Bool) → (a || b) ≡ true → (a ≡ true) ⊎ (b ≡ true)
or_either true b e = inl refl
or_either false b e = inr e

same_row : (a b : HostRow) → is_eq (row_cmp a b) ≡ true → a ≡ b
same_row a b e = row_cmp_exact a b ((Equal-is (row_cmp a b)).0 e)

is_itself : (row : HostRow) → is_eq (row_cmp row row) ≡ true
is_itself row = ap is_eq (tied_itself row_cmp_total row)

-- what a row among others passes, some of them passes
some_passes : (p : HostRow → Bool) (rows : List HostRow) (row : HostRow) → has_row rows row ≡ true → p row ≡ true → list_any p rows ≡ true
some_passes p [] row has passes = cc
some_passes p (x ∷ xs) row has passes =
    elim (or_either (is_eq (row_cmp row x)) (has_row xs row) has) [
      | inl here ↦ or_left (p x) (list_any p xs) (subst (λ (y : HostRow). p y ≡ true) (same_row row x here) passes)
      | inr later ↦ or_right (p x) (list_any p xs) (some_passes p xs row later passes)
    ]

first_among : (all xs : List HostRow) (row : HostRow) → has_row all row ≡ true → ((x : HostRow) → has_row xs x ≡ true → has_row all x ≡ true)
    → has_row all (first_of xs row) ≡ true
first_among all [] row has within = has
first_among all (x ∷ xs) row has within =
    let next : HostRow = if outranks x row then x else row in
    first_among all xs next
    (choice (λ (h : HostRow). has_row all h ≡ true) (outranks x row) x row
    (λ e. within x (or_left (is_eq (row_cmp x x)) (has_row xs x) (is_itself x))) (λ e. has))
    (λ y later. within y (or_right (is_eq (row_cmp y x)) (has_row xs y) later))

wanted_is : (ifaces : List Iface) (row : HostRow) → has_row (wanted_rows ifaces) row ≡ (is_kept (given_rows ifaces) row && has_row (given_rows ifaces) row)
wanted_is ifaces row =
    in_order_has (filter (is_kept (given_rows ifaces)) (given_rows ifaces)) row ∙ has_filter (is_kept (given_rows ifaces)) (given_rows ifaces) row

not_true : (b : Bool) → not b ≡ true → b ≡ false
not_true true e = cc
not_true false e = refl

-- ---- the laws

pub dropped_have_keeper : DroppedHaveKeeper
dropped_have_keeper ifaces row given dropped =
    let rows : List HostRow = given_rows ifaces in
    let keeper : HostRow = first_of rows row in
    let kept : is_kept rows keeper ≡ true = ap not (none_above rows row) in
    let among : has_row rows keeper ≡ true = first_among rows rows row given (λ x has. has) in
    let wanted : has_row (wanted_rows ifaces) keeper ≡ true = wanted_is ifaces keeper ∙ and_true _ _ kept among in
    record { keeper = keeper; kept = wanted; outranks = above keeper wanted (first_high rows row) }
  where
    above : (keeper : HostRow) → has_row (wanted_rows ifaces) keeper ≡ true → AsHigh keeper row → outranks keeper row ≡ true
    above keeper wanted (inl e) =
        absurd (false≢true (sym dropped ∙ subst (λ (x : HostRow). has_row (wanted_rows ifaces) x ≡ true) e wanted))
    above keeper wanted (inr e) = e

between : (i j : ℕ) (p q : Bool) → before i j p ≡ false → before j i q ≡ false → (p ≡ false) × (q ≡ false)
between i j true true a b = absurd (grind (arith, nat_tests))
between i j true false a b = absurd (grind (arith, nat_tests))
between i j false true a b = absurd (grind (arith, nat_tests))
between i j false false a b = (refl, refl)

equal : (r : Ordering) → is_lt r ≡ false → is_lt (ordering_reverse r) ≡ false → r ≡ Equal
equal Less p q = cc
equal Equal p q = refl
equal Greater p q = cc

unoutranked : (a b : HostRow) → same_target a b ≡ true → outranks a b ≡ false → goes_before a b ≡ false
unfolding outranks
unoutranked a b same none = ap (λ (t : Bool). t && goes_before a b) (sym same) ∙ none

kept_none : (rows : List HostRow) (a b : HostRow) → is_kept rows b ≡ true → has_row rows a ≡ true → outranks a b ≡ false
kept_none rows a b kept has = by (either (outranks a b))
  where
    by : (outranks a b ≡ true) ⊎ (outranks a b ≡ false) → outranks a b ≡ false
    by (inl h) = absurd (false≢true (sym (not_true (list_any (λ other. outranks other b) rows) kept) ∙ some_passes (λ other. outranks other b) rows a has h))
    by (inr h) = h

pub kept_unlike : KeptUnlike
kept_unlike ifaces a b has_a has_b same =
    let rows : List HostRow = given_rows ifaces in
    let of_a = both _ _ (sym (wanted_is ifaces a) ∙ has_a) in
    let of_b = both _ _ (sym (wanted_is ifaces b) ∙ has_b) in
    let not_ab : goes_before a b ≡ false = unoutranked a b same (kept_none rows a b of_b.0 of_a.1) in
    let not_ba : goes_before b a ≡ false = unoutranked b a (target_turn a b same) (kept_none rows b a of_a.0 of_b.1) in
    let order = between (row_iface a) (row_iface b) (is_lt (row_cmp a b)) (is_lt (row_cmp b a)) not_ab not_ba in
    row_cmp_exact a b (equal (row_cmp a b) order.0 (ap is_lt (sym (row_cmp_total.antisymm b a)) ∙ order.1))

no_route : (index : IfIndex) (net : Net) (rows : List HostRow) → list_any (λ other. outranks other (Addr index net)) rows ≡ false
unfolding outranks
no_route index net [] = refl
no_route index net (Addr i a ∷ rows) = no_route index net rows
no_route index net (Route i a v p ∷ rows) = no_route index net rows

pub addresses_stay : AddressesStay
addresses_stay ifaces index net =
    wanted_is ifaces (Addr index net)
    ∙ ap (λ (b : Bool). not b && has_row (given_rows ifaces) (Addr index net)) (no_route index net (given_rows ifaces))
