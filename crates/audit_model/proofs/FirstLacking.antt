-- The first row without basis that is found after a turn is the first one there is.
use Rattle.std.proofs.Common.{◌≡◌, ◌⊎◌, inl, inr, Bool, true, false, cond, not, ◌||◌, ◌&&◌, List, [], ◌∷◌, Option, Some, None, find, refl, sym, ap, ◌∙◌, subst}
use Rattle.std.specs.List.{AllByRecursion}
use Rattle.std.specs.declared.cmp.Ordering.{Ordering}
use Rattle.std.specs.declared.cmp.Ordering.TheVariants.{Less, Equal, Greater}
use Rattle.std.specs.Ordering.{is_eq, is_lt, ordering_reverse}
use Rattle.std.specs.Cmp.{Equal-is, tied_itself}
use Rattle.std.proofs.lemmas.Bool.{false≢true, or_left}
use Rattle.std.proofs.lemmas.Map.Keys.{sorted_head, sorted_tail}
use Rattle.net_types.specs.declared.address.Net.{Net}
use Rattle.net_types.specs.declared.interface.IfIndex.{IfIndex}
use Rattle.world.specs.declared.rows.HostRow.{HostRow}
use Rattle.world.specs.declared.rows.HostRow.TheVariants.{Addr, Route}
use Rattle.world.specs.RowOrder.{row_cmp, row_cmp_total, has_row}
use Rattle.world.proofs.ExactRows.{row_cmp_exact}
use Rattle.evidence_words.specs.Inputs.{Site}
use Rattle.settings.specs.declared.interfaces.Managed.{Managed}
use Rattle.settings.specs.ManagedRows.{is_managed}
use Rattle.host_model.specs.HostTable.{InRowOrder}
use Rattle.host_model.proofs.HostTableRows.{filter_in_order, has_filter}
use Rattle.audit_model.specs.Showing.{Shown, site_by}
use Rattle.audit_model.specs.Verdicts.{BasisWord, IsJust, IsShown, IsUnjust}
use Rattle.audit_model.specs.Auditing.{Judge, is_judged, is_just, lacking}
use Rattle.audit_model.specs.Laws.{Decides}
use Rattle.audit_model.proofs.LinesWalked.{judged_among}
use Rattle.audit_model.proofs.LivesWalked.{Scene, living_of}

-- ---- the first row of a list that fails a test

some_same : {X : Type 0} {a b : X} → Some a ≡ Some b → a ≡ b
some_same e = cc

both_true : (a b : Bool) → (a && b) ≡ true → (a ≡ true) × (b ≡ true)
both_true true b e = (refl, e)
both_true false b e = absurd (false≢true e)

true_both : (a b : Bool) → a ≡ true → b ≡ true → (a && b) ≡ true
true_both a b p q = ap (λ x. x && b) p ∙ q

either_true : (a b : Bool) → (a || b) ≡ true → (a ≡ true) ⊎ (b ≡ true)
either_true true b e = inl refl
either_true false b e = inr e

-- a row that a list has, in front or later
at_first : (row x : HostRow) (xs : List HostRow) → has_row (x ∷ xs) row ≡ true → (row ≡ x) ⊎ (has_row xs row ≡ true)
at_first row x xs has = which (either_true (is_eq (row_cmp row x)) (has_row xs row) has)
  where
    which : (is_eq (row_cmp row x) ≡ true) ⊎ (has_row xs row ≡ true) → (row ≡ x) ⊎ (has_row xs row ≡ true)
    which (inl here) = inl (row_cmp_exact row x ((Equal-is (row_cmp row x)).0 here))
    which (inr later) = inr later

-- what finding gives where the first row passes, and where it fails
passes : (good : HostRow → Bool) (x : HostRow) (xs : List HostRow) → good x ≡ true
    → find (λ row. not (good row)) (x ∷ xs) ≡ find (λ row. not (good row)) xs
passes good x xs e = ap (λ b. cond (not b) (Some x) (find (λ row. not (good row)) xs)) e

fails : (good : HostRow → Bool) (x : HostRow) (xs : List HostRow) → good x ≡ false → find (λ row. not (good row)) (x ∷ xs) ≡ Some x
fails good x xs e = ap (λ b. cond (not b) (Some x) (find (λ row. not (good row)) xs)) e

none_some : {X : Type 0} {a : X} → None ≡ Some a → ⊥
none_some e = cc

-- where none fails
all_good : (good : HostRow → Bool) (rows : List HostRow) → find (λ row. not (good row)) rows ≡ None → (row : HostRow) → has_row rows row ≡ true
    → good row ≡ true
all_good good [] none row has = absurd (false≢true has)
all_good good (x ∷ xs) none row has = which (good x) refl (at_first row x xs has) (λ rest later. all_good good xs rest row later)
  where
    which : (b : Bool) → good x ≡ b → (row ≡ x) ⊎ (has_row xs row ≡ true)
        → (find (λ row. not (good row)) xs ≡ None → has_row xs row ≡ true → good row ≡ true) → good row ≡ true
    which true e (inl here) others = ap good here ∙ e
    which true e (inr later) others = others (sym (passes good x xs e) ∙ none) later
    which false e at others = absurd (none_some (sym none ∙ fails good x xs e))

-- the first that fails
record First (good : HostRow → Bool) (rows : List HostRow) (row : HostRow) : Type 0 where
  has : has_row rows row ≡ true
  bad : good row ≡ false
  before : (other : HostRow) → has_row rows other ≡ true → row_cmp other row ≡ Less → good other ≡ true

nothing_below : (q : HostRow) (rows : List HostRow) → AllByRecursion (λ y. row_cmp q y ≡ Less) rows → has_row rows q ≡ false
nothing_below q [] all = refl
nothing_below q (x ∷ xs) all = ap (λ r. is_eq r || has_row xs q) all.0 ∙ nothing_below q xs all.1

less_each : (q x : HostRow) (xs : List HostRow) → row_cmp q x ≡ Less → AllByRecursion (λ y. row_cmp x y ≡ Less) xs
    → AllByRecursion (λ y. row_cmp q y ≡ Less) xs
less_each q x [] less all = tt
less_each q x (y ∷ ys) less all = (row_cmp_total.trans q x y less all.0, less_each q x ys less all.1)

has_itself : (x : HostRow) (xs : List HostRow) → has_row (x ∷ xs) x ≡ true
has_itself x xs = or_left (is_eq (row_cmp x x)) (has_row xs x) (ap is_eq (tied_itself row_cmp_total x))

has_later : (q x : HostRow) (xs : List HostRow) → has_row xs q ≡ true → has_row (x ∷ xs) q ≡ true
has_later q x xs has = or_right (is_eq (row_cmp q x)) (has_row xs q) has
  where
    or_right : (a b : Bool) → b ≡ true → (a || b) ≡ true
    or_right true b e = refl
    or_right false b e = e

-- none comes before the first row
none_less : (x : HostRow) (xs : List HostRow) → InRowOrder (x ∷ xs) → (other : HostRow) → has_row (x ∷ xs) other ≡ true → row_cmp other x ≡ Less → ⊥
none_less x xs order other has less =
    false≢true
    (sym (ap (λ r. is_eq r || has_row xs other) less ∙ nothing_below other xs (less_each other x xs less (sorted_head row_cmp x xs order))) ∙ has)

first_bad : (good : HostRow → Bool) (rows : List HostRow) (row : HostRow) → InRowOrder rows → find (λ row. not (good row)) rows ≡ Some row
    → First good rows row
first_bad good [] row order found = absurd (none_some found)
first_bad good (x ∷ xs) row order found = which (good x) refl (λ later. first_bad good xs row (sorted_tail row_cmp x xs order) later)
  where
    which : (b : Bool) → good x ≡ b → (find (λ row. not (good row)) xs ≡ Some row → First good xs row) → First good (x ∷ xs) row
    which false e others =
        let same : x ≡ row = some_same (sym (fails good x xs e) ∙ found) in
        subst (λ r. First good (x ∷ xs) r) same
        (record { has = has_itself x xs; bad = e; before = λ other has less. absurd (none_less x xs order other has less) })
    which true e others =
        let rest = others (sym (passes good x xs e) ∙ found) in
        record {
          has = has_later row x xs rest.has;
          bad = rest.bad;
          before = λ other has less. at other less (at_first other x xs has) rest.before;
        }
      where
        at : (other : HostRow) → row_cmp other row ≡ Less → (other ≡ x) ⊎ (has_row xs other ≡ true)
            → ((o : HostRow) → has_row xs o ≡ true → row_cmp o row ≡ Less → good o ≡ true) → good other ≡ true
        at other less (inl here) before = ap good here ∙ e
        at other less (inr later) before = before other later less

-- ---- the two rows of one turn

less_is : (r : Ordering) → is_lt r ≡ true → r ≡ Less
less_is Less e = refl
less_is Equal e = absurd (false≢true e)
less_is Greater e = absurd (false≢true e)

-- of two first rows none comes before the other
pub one_row : (Rests : BasisWord) (managed : List Managed) (sites : Managed → Site) (shown : Shown) (a b : HostRow)
    → IsUnjust Rests managed sites shown a → IsUnjust Rests managed sites shown b → a ≡ b
one_row Rests managed sites shown a b first other = which (row_cmp a b) refl
  where
    apart : (a b : HostRow) → IsUnjust Rests managed sites shown a → IsUnjust Rests managed sites shown b → row_cmp a b ≡ Less → ⊥
    apart a b one two less =
        one.lacks
        (two.before one.index one.net (subst (λ row. IsShown managed shown row) one.is_address one.is_shown)
        (ap (λ row. is_lt (row_cmp row b)) (sym one.is_address) ∙ ap is_lt less))

    which : (r : Ordering) → row_cmp a b ≡ r → a ≡ b
    which Less e = absurd (apart a b first other e)
    which Equal e = row_cmp_exact a b e
    which Greater e = absurd (apart b a other first (row_cmp_total.antisymm b a ∙ ap ordering_reverse e))

-- ---- what is found after a turn

abbrev pub sites_of : Scene → Managed → Site
sites_of scene m = site_by scene.managed scene.own scene.begin.up scene.reads m

abbrev lacking_then : Judge → Scene → Shown → Option HostRow
lacking_then judge scene shown = lacking judge (living_of scene shown)

module _ (judge : Judge) (Rests : BasisWord) (decides : Decides judge Rests) (scene : Scene) (shown : Shown) where
  abbrev good : HostRow → Bool
  good row = is_just judge (living_of scene shown) row

  abbrev rows : List HostRow
  rows = judged_among scene.managed shown.rows

  judged_finds : shown.failed ≡ false → lacking_then judge scene shown ≡ find (λ row. not (is_just judge (living_of scene shown) row)) rows
  judged_finds judged = ap (λ b. cond b None (find (λ row. not (is_just judge (living_of scene shown) row)) rows)) judged

  is_among : (index : IfIndex) (net : Net) → IsShown scene.managed shown (Addr index net) → has_row rows (Addr index net) ≡ true
  is_among index net s =
      has_filter (is_judged scene.managed) shown.rows (Addr index net)
      ∙ true_both (is_managed scene.managed (Addr index net)) (has_row shown.rows (Addr index net)) s.managed_row s.has

  pub none_lacks : lacking_then judge scene shown ≡ None → IsJust Rests scene.managed (sites_of scene) shown
  none_lacks none judged index net s =
      decides.yes scene.managed (sites_of scene) (shown.entry ∷ shown.past) index net
      (all_good good rows (sym (judged_finds judged) ∙ none) (Addr index net) (is_among index net s))

  unjust_row : (row : HostRow) → First good rows row → shown.failed ≡ false → IsUnjust Rests scene.managed (sites_of scene) shown row
  unjust_row (Addr index net) f judged =
      let both = both_true (is_managed scene.managed (Addr index net)) (has_row shown.rows (Addr index net))
      (sym (has_filter (is_judged scene.managed) shown.rows (Addr index net)) ∙ f.has) in
      record {
        judged = judged;
        index = index;
        net = net;
        is_address = refl;
        is_shown = record { managed_row = both.0; has = both.1 };
        lacks = λ rests. false≢true (sym f.bad ∙ decides.no scene.managed (sites_of scene) (shown.entry ∷ shown.past) index net rests);
        before = λ other address s less.
            decides.yes scene.managed (sites_of scene) (shown.entry ∷ shown.past) other address
            (f.before (Addr other address) (is_among other address s) (less_is (row_cmp (Addr other address) (Addr index net)) less));
      }
  unjust_row (Route iface dest via metric) f judged =
      absurd (false≢true (sym (has_filter (is_judged scene.managed) shown.rows (Route iface dest via metric)) ∙ f.has))

  pub some_lacks : InRowOrder shown.rows → (row : HostRow) → lacking_then judge scene shown ≡ Some row
      → IsUnjust Rests scene.managed (sites_of scene) shown row
  some_lacks order row found = which shown.failed refl
    where
      which : (b : Bool) → shown.failed ≡ b → IsUnjust Rests scene.managed (sites_of scene) shown row
      which true e =
          absurd (none_some (sym (ap (λ b. cond b None (find (λ row. not (is_just judge (living_of scene shown) row)) rows)) e) ∙ found))
      which false e =
          unjust_row row (first_bad good rows row (filter_in_order (is_judged scene.managed) shown.rows order) (sym (judged_finds e) ∙ found)) e

  unjust_denies : (row : HostRow) → IsJust Rests scene.managed (sites_of scene) shown → IsUnjust Rests scene.managed (sites_of scene) shown row → ⊥
  unjust_denies row just u =
      u.lacks (just u.judged u.index u.net (subst (λ r. IsShown scene.managed shown r) u.is_address u.is_shown))

  pub just_lacks : InRowOrder shown.rows → IsJust Rests scene.managed (sites_of scene) shown → lacking_then judge scene shown ≡ None
  just_lacks order just = which (lacking_then judge scene shown) refl
    where
      which : (o : Option HostRow) → lacking_then judge scene shown ≡ o → lacking_then judge scene shown ≡ None
      which None e = e
      which (Some row) e = absurd (unjust_denies row just (some_lacks order row e))

  pub unjust_lacks : InRowOrder shown.rows → (row : HostRow) → IsUnjust Rests scene.managed (sites_of scene) shown row
      → lacking_then judge scene shown ≡ Some row
  unjust_lacks order row u = which (lacking_then judge scene shown) refl
    where
      which : (o : Option HostRow) → lacking_then judge scene shown ≡ o → lacking_then judge scene shown ≡ Some row
      which None e = absurd (unjust_denies row (none_lacks e) u)
      which (Some other) e =
          e ∙ ap Some (one_row Rests scene.managed (sites_of scene) shown other row (some_lacks order other e) u)
