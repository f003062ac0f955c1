-- Rows that contend for one target, and the one among them that stands.
use Rattle.std.proofs.Common.{ℕ, ◌≡◌, Bool, true, false, ◌||◌, ◌&&◌, List, [], ◌∷◌, nat_lt, nat_eq, refl, sym, ap, subst, ◌∙◌, arith}
use Rattle.std.proofs.lemmas.Bool.Decides.{nat_tests}
use Rattle.std.proofs.lemmas.Bool.{false≢true}
use Rattle.std.specs.List.{list_any}
use Rattle.std.specs.declared.cmp.Ordering.{Ordering}
use Rattle.std.specs.declared.cmp.Ordering.TheVariants.{Less, Equal, Greater}
use Rattle.std.specs.Ordering.{nat_cmp, on, then_cmp, ordering_then, ordering_reverse, is_eq, is_lt}
use Rattle.std.specs.Cmp.{IsTotalOrder, Equal-is, tied_itself, tied_then}
use Rattle.std.specs.Cmp.Rules.{comparing}
use Rattle.net_types.proofs.CaseLaws.{split}
use Rattle.world.specs.declared.rows.HostRow.{HostRow}
use Rattle.world.specs.declared.rows.HostRow.TheVariants.{Addr, Route}
use Rattle.world.specs.RowOrder.{family, net_number, net_len, row_iface, row_cmp, row_cmp_total, has_row}
use Rattle.world.proofs.ExactRows.{row_cmp_exact}
use Rattle.host_model.specs.Precedence.{goes_before, outranks}
use Rattle.host_tables.specs.Bringings.{target_of, contends}

-- ---- tests

pub off_where : (a b : Bool) → (a ≡ true → b ≡ false) → (a && b) ≡ false
off_where true b f = f refl
off_where false b f = refl

pub off_last : (a b : Bool) → b ≡ false → (a && b) ≡ false
off_last true b off = off
off_last false b off = refl

pub on_both : (a b : Bool) → a ≡ true → b ≡ true → (a && b) ≡ true
on_both true b p q = q
on_both false b p q = p

pub one_answer : (a b : Bool) → (a ≡ true → b ≡ true) → (b ≡ true → a ≡ true) → a ≡ b
one_answer true b f g = sym (f refl)
one_answer false true f g = g refl
one_answer false false f g = refl

-- ---- rows among others

pub row_is : (a b : HostRow) → is_eq (row_cmp a b) ≡ true → a ≡ b
row_is a b e = row_cmp_exact a b ((Equal-is (row_cmp a b)).0 e)

pub row_itself : (row : HostRow) → is_eq (row_cmp row row) ≡ true
row_itself row = ap is_eq (tied_itself row_cmp_total row)

pub same_reversed : (r : Ordering) → is_eq (ordering_reverse r) ≡ is_eq r
same_reversed Less = refl
same_reversed Equal = refl
same_reversed Greater = refl

pub equal_turned : (a b : HostRow) → is_eq (row_cmp a b) ≡ is_eq (row_cmp b a)
equal_turned a b = ap is_eq (row_cmp_total.antisymm a b) ∙ same_reversed (row_cmp b a)

pub or_is : (a b : Bool) → a ≡ true → (a || b) ≡ true
or_is true b e = refl
or_is false b e = absurd (false≢true e)

pub or_more : (a b : Bool) → b ≡ true → (a || b) ≡ true
or_more true b e = refl
or_more false b e = e

-- what a row among others passes, some of them passes
pub passed_among : (p : HostRow → Bool) (rows : List HostRow) (row : HostRow) → has_row rows row ≡ true → p row ≡ true → list_any p rows ≡ true
passed_among p [] row has passes = absurd (false≢true has)
passed_among p (x ∷ rows) row has passes =
    split (is_eq (row_cmp row x))
    (λ here. or_is (p x) (list_any p rows) (subst (λ (y : HostRow). p y ≡ true) (row_is row x here) passes))
    (λ there. or_more (p x) (list_any p rows) (passed_among p rows row (sym (ap (λ (b : Bool). b || has_row rows row) there) ∙ has) passes))

-- what none of them passes that is among them
pub passed_by_none : (p : HostRow → Bool) (rows : List HostRow) → ((row : HostRow) → has_row rows row ≡ true → p row ≡ false) → list_any p rows ≡ false
passed_by_none p [] none = refl
passed_by_none p (x ∷ rows) none =
    ap (λ (b : Bool). b || list_any p rows) (none x (or_is (is_eq (row_cmp x x)) (has_row rows x) (row_itself x)))
    ∙ passed_by_none p rows (λ row has. none row (or_more (is_eq (row_cmp row x)) (has_row rows row) has))

-- the same of two lists, where what passes in one is among the other
pub passed_alike : (p : HostRow → Bool) (xs ys : List HostRow) → ((row : HostRow) → p row ≡ true → has_row xs row ≡ has_row ys row)
    → list_any p xs ≡ list_any p ys
passed_alike p xs ys same =
    split (list_any p ys)
    (λ some. split (list_any p xs) (λ here. here ∙ sym some)
    (λ none. absurd (false≢true (sym (passed_by_none p ys (λ row has. fails xs ys same none row has)) ∙ some))))
    (λ none. passed_by_none p xs (λ row has. fails ys xs (λ r passes. sym (same r passes)) none row has) ∙ sym none)
  where
    fails : (us vs : List HostRow) → ((row : HostRow) → p row ≡ true → has_row us row ≡ has_row vs row) → list_any p us ≡ false → (row : HostRow)
        → has_row vs row ≡ true → p row ≡ false
    fails us vs alike none row has =
        split (p row) (λ passes. absurd (false≢true (sym none ∙ passed_among p us row (alike row passes ∙ has) passes))) (λ no. no)

-- ---- the order of rows with one target

abbrev pub before_cmp : HostRow → HostRow → Ordering
before_cmp = then_cmp (on row_iface nat_cmp) row_cmp

pub before_cmp_total : IsTotalOrder before_cmp
before_cmp_total = search (comparing, row_cmp_total) depth 20

pub eq_numbers : (m n : ℕ) → is_eq (nat_cmp m n) ≡ nat_eq m n
eq_numbers m n = grind (arith, nat_tests)

lt_numbers : (m n : ℕ) → is_lt (nat_cmp m n) ≡ nat_lt m n
lt_numbers m n = grind (arith, nat_tests)

lt_then : (r s : Ordering) → is_lt (ordering_then r s) ≡ (is_lt r || (is_eq r && is_lt s))
lt_then Less s = refl
lt_then Equal s = refl
lt_then Greater s = refl

pub goes_before_is : (a b : HostRow) → goes_before a b ≡ is_lt (before_cmp a b)
goes_before_is a b =
    ap (λ (l : Bool). l || (nat_eq (row_iface a) (row_iface b) && is_lt (row_cmp a b))) (sym (lt_numbers (row_iface a) (row_iface b)))
    ∙ ap (λ (e : Bool). is_lt (nat_cmp (row_iface a) (row_iface b)) || (e && is_lt (row_cmp a b))) (sym (eq_numbers (row_iface a) (row_iface b)))
    ∙ sym (lt_then (nat_cmp (row_iface a) (row_iface b)) (row_cmp a b))

never_itself : (a : HostRow) → goes_before a a ≡ false
never_itself a = goes_before_is a a ∙ ap is_lt (tied_itself before_cmp_total a)

-- ---- targets

pub one_target : (a b : HostRow) → contends a b ≡ true → target_of a ≡ target_of b
one_target a b same = row_is (target_of a) (target_of b) same

pub contending : (a b : HostRow) → target_of a ≡ target_of b → contends a b ≡ true
contending a b same = ap (λ (t : HostRow). is_eq (row_cmp (target_of a) t)) (sym same) ∙ row_itself (target_of a)

pub contends_turned : (a b : HostRow) → contends a b ≡ true → contends b a ≡ true
contends_turned a b same = contending b a (sym (one_target a b same))

grouped : (f n l m : Bool) → ((f && (n && l)) && m) ≡ (f && (n && (l && (m && true))))
grouped true true true true = refl
grouped true true true false = refl
grouped true true false m = refl
grouped true false l m = refl
grouped false n l m = refl

parts_equal : (f g n o k l p q : ℕ)
    → ((nat_eq f g && (nat_eq n o && nat_eq k l)) && nat_eq p q)
    ≡ is_eq (ordering_then (nat_cmp f g) (ordering_then (nat_cmp n o) (ordering_then (nat_cmp k l) (ordering_then (nat_cmp p q) Equal))))
parts_equal f g n o k l p q =
    grouped (nat_eq f g) (nat_eq n o) (nat_eq k l) (nat_eq p q)
    ∙ ap (λ (b : Bool). b && (nat_eq n o && (nat_eq k l && (nat_eq p q && true)))) (sym (eq_numbers f g))
    ∙ ap (λ (b : Bool). is_eq (nat_cmp f g) && (b && (nat_eq k l && (nat_eq p q && true)))) (sym (eq_numbers n o))
    ∙ ap (λ (b : Bool). is_eq (nat_cmp f g) && (is_eq (nat_cmp n o) && (b && (nat_eq p q && true)))) (sym (eq_numbers k l))
    ∙ ap (λ (b : Bool). is_eq (nat_cmp f g) && (is_eq (nat_cmp n o) && (is_eq (nat_cmp k l) && (b && true)))) (sym (eq_numbers p q))
    ∙ ap (λ (b : Bool). is_eq (nat_cmp f g) && (is_eq (nat_cmp n o) && (is_eq (nat_cmp k l) && b))) (tied_then (nat_cmp p q) Equal)
    ∙ ap (λ (b : Bool). is_eq (nat_cmp f g) && (is_eq (nat_cmp n o) && b)) (tied_then (nat_cmp k l) (ordering_then (nat_cmp p q) Equal))
    ∙ ap (λ (b : Bool). is_eq (nat_cmp f g) && b) (tied_then (nat_cmp n o) (ordering_then (nat_cmp k l) (ordering_then (nat_cmp p q) Equal)))
    ∙ tied_then (nat_cmp f g) (ordering_then (nat_cmp n o) (ordering_then (nat_cmp k l) (ordering_then (nat_cmp p q) Equal)))

-- what outranks a row has its target, and goes before it
pub outranks_is : (a b : HostRow) → outranks a b ≡ (contends a b && goes_before a b)
unfolding outranks
outranks_is (Addr i a) (Addr j b) =
    sym (off_where (contends (Addr i a) (Addr j b)) (goes_before (Addr i a) (Addr j b))
    (λ same. ap (goes_before (Addr i a)) (sym (row_is (Addr i a) (Addr j b) same)) ∙ never_itself (Addr i a)))
outranks_is (Addr i a) (Route j b w n) = refl
outranks_is (Route i a v m) (Addr j b) = refl
outranks_is (Route i a v m) (Route j b w n) =
    ap (λ (e : Bool). e && goes_before (Route i a v m) (Route j b w n))
    (parts_equal (family a) (family b) (net_number a) (net_number b) (net_len a) (net_len b) m n)
