-- The lease that a Reply grants is within its bounds.
use Rattle.std.proofs.Common.{◌≡◌, ◌≢◌, ℕ, zero, suc, ◌+◌, ◌<◌, ◌≤◌, Bool, true, false, not, cond, List, [], ◌∷◌, ◌++◌, length, take, drop, set, get_or, fold, Option, Some, None, refl, sym, ◌∙◌, subst, arith, eqb, ltb, length-append, length-set}
use Rattle.std.specs.List.{AllByRecursion, position, position_or_len, remove}
use Rattle.std.proofs.lemmas.Bool.{and_parts, ltb-true, ltb-false}
use Rattle.std.proofs.lemmas.List.Quantifiers.{position-Some}
use Rattle.net_types.proofs.AllLaws.{all_join, all_map}
use Rattle.net_types.proofs.CaseLaws.{split}
use Rattle.v6_options.specs.declared.ia.IaKind.{IaKind}
use Rattle.v6_options.specs.declared.ia.ItemSaid.{ItemSaid}
use Rattle.v6_options.specs.Ias.{IaContent}
use Rattle.lease6_text.specs.declared.lease.Item6.{Item6}
use Rattle.lease6_text.specs.declared.lease.TheConstants.{ITEM_LIMIT}
use Rattle.lease6_text.specs.Bounds.{FitsIa, FitsItem}
use Rattle.lease6_text.specs.Leases.{IaLeaseContent}
use Rattle.lease6_text.specs.LineParts.{is_ia, is_of_net, is_same_kind}
use Rattle.lease6_text.proofs.IaFacts.{kind_is, net_is, other_net}
use Rattle.lease6_text.proofs.Apart.{Apart, apart_from, apart_more, pairs_from}
use Rattle.v6_items.specs.declared.scope.Scope6.{Scope6}
use Rattle.v6_items.specs.Items.{items_at}
use Rattle.v6_items.specs.Reading.{is_unbound, saids_of}
use Rattle.v6_items.specs.Bounds.{FitsItems}
use Rattle.v6_items.specs.Taking.{IaTaking, carried, ia_taken, is_carried, item_from, place_of, placed, taken_out, takes_item}
use Rattle.v6_items.proofs.FitsLists.{filter_fits, items_of, none_fit}

abbrev Unlike : Item6 → Item6 → Type 0
Unlike one other = one.net ≢ other.net

-- ---- an item goes

out_few : {X : Type 0} (xs : List X) (i : ℕ) → length (take i xs ++ drop (suc i) xs) ≤ length xs
out_few [] zero = omega arith
out_few [] (suc i) = omega arith
out_few (x ∷ xs) zero = omega arith
out_few (x ∷ xs) (suc i) = let rest : length (take i xs ++ drop (suc i) xs) ≤ length xs = out_few xs i in omega (arith, rest)

out_each : {X : Type 0} (P : X → Type 0) (xs : List X) (i : ℕ) → AllByRecursion P xs → AllByRecursion P (take i xs ++ drop (suc i) xs)
out_each P [] zero all = tt
out_each P [] (suc i) all = tt
out_each P (x ∷ xs) zero all = all.1
out_each P (x ∷ xs) (suc i) all = (all.0, out_each P xs i all.1)

out_apart : {X : Type 0} (R : X → X → Type 0) (xs : List X) (i : ℕ) → Apart R xs → Apart R (take i xs ++ drop (suc i) xs)
out_apart R [] zero apart = tt
out_apart R [] (suc i) apart = tt
out_apart R (x ∷ xs) zero apart = apart.1
out_apart R (x ∷ xs) (suc i) apart = (out_each (R x) xs i apart.0, out_apart R xs i apart.1)

out_fits : (kind : IaKind) (place : Option ℕ) (items : List Item6) → FitsItems kind items → FitsItems kind (taken_out place items)
out_fits kind None items fits = fits
out_fits kind (Some place) items fits = record {
  few = (let less : length (remove items place) ≤ length items = out_few items place in omega (arith, less, fits.few));
  each = out_each (FitsItem kind) items place fits.each;
  unlike = pairs_from Unlike (remove items place) (out_apart Unlike items place (apart_from Unlike items fits.unlike));
}

-- ---- an item changes its moments

set_each : {X : Type 0} (P : X → Type 0) (xs : List X) (i : ℕ) (v : X) → P v → AllByRecursion P xs → AllByRecursion P (set xs i v)
set_each P [] zero v here all = tt
set_each P [] (suc i) v here all = tt
set_each P (x ∷ xs) zero v here all = (here, all.1)
set_each P (x ∷ xs) (suc i) v here all = (all.0, set_each P xs i v here all.1)

set_like : (one : Item6) (xs : List Item6) (i : ℕ) (v : Item6) → (get_or xs i v).net ≡ v.net → AllByRecursion (Unlike one) xs
    → AllByRecursion (Unlike one) (set xs i v)
set_like one [] zero v same all = tt
set_like one [] (suc i) v same all = tt
set_like one (x ∷ xs) zero v same all = (λ e. all.0 (e ∙ sym same), all.1)
set_like one (x ∷ xs) (suc i) v same all = (all.0, set_like one xs i v same all.1)

set_apart : (xs : List Item6) (i : ℕ) (v : Item6) → (get_or xs i v).net ≡ v.net → Apart Unlike xs → Apart Unlike (set xs i v)
set_apart [] zero v same apart = tt
set_apart [] (suc i) v same apart = tt
set_apart (x ∷ xs) zero v same apart = (all_map (Unlike x) (Unlike v) (λ other differs e. differs (same ∙ e)) xs apart.0, apart.1)
set_apart (x ∷ xs) (suc i) v same apart = (set_like x xs i v same apart.0, set_apart xs i v same apart.1)

set_fits : (kind : IaKind) (items : List Item6) (place : ℕ) (item : Item6) → FitsItems kind items → FitsItem kind item
    → place_of item.net items ≡ Some place → FitsItems kind (set items place item)
set_fits kind items place item fits fit there =
    let found = position-Some (is_of_net item.net) items place item there in
    let same : (get_or items place item).net ≡ item.net = net_is item.net (get_or items place item) found.1 in
    record {
      few = omega (arith, length-set items place item, fits.few);
      each = set_each (FitsItem kind) items place item fit fits.each;
      unlike = pairs_from Unlike (set items place item) (set_apart items place item same (apart_from Unlike items fits.unlike));
    }

-- ---- an item comes

none_at : (p : Item6 → Bool) (xs : List Item6) → length xs ≤ position_or_len p xs → AllByRecursion (λ x. p x ≡ false) xs
none_at p [] long = tt
none_at p (x ∷ xs) long =
    elim (p x) as (λ b. p x ≡ b → suc (length xs) ≤ cond (not b) (1 + position_or_len p xs) 0 → AllByRecursion (λ y. p y ≡ false) (x ∷ xs)) [
      | true ↦ λ e l. absurd (omega (arith, l))
      | false ↦ λ e l. (e, none_at p xs (omega (arith, l)))
    ] refl long

none_found : (p : Item6 → Bool) (xs : List Item6) → position p xs ≡ None → AllByRecursion (λ x. p x ≡ false) xs
none_found p xs e =
    elim (ltb (position_or_len p xs) (length xs)) as (λ b. ltb (position_or_len p xs) (length xs) ≡ b
    → cond b (Some (position_or_len p xs)) None ≡ None → AllByRecursion (λ x. p x ≡ false) xs) [
      | true ↦ λ t q. let never : ⊥ = cc in absurd never
      | false ↦ λ t q. none_at p xs (ltb-false _ _ t)
    ] refl e

come_fits : (kind : IaKind) (items : List Item6) (item : Item6) → FitsItems kind items → FitsItem kind item → length items < ITEM_LIMIT
    → place_of item.net items ≡ None → FitsItems kind (items ++ item ∷ [])
come_fits kind items item fits fit few none =
    let anew : AllByRecursion (λ (other : Item6). other.net ≢ item.net) items =
    all_map (λ x. is_of_net item.net x ≡ false) (λ (other : Item6). other.net ≢ item.net) (other_net item.net) items
    (none_found (is_of_net item.net) items none) in
    record {
      few = omega (arith, length-append items (item ∷ []), few);
      each = all_join (FitsItem kind) items (item ∷ []) fits.each (fit, tt);
      unlike = pairs_from Unlike (items ++ item ∷ []) (apart_more Unlike items item (apart_from Unlike items fits.unlike) anew);
    }

-- ---- the items of an IA

placed_fits : (kind : IaKind) (at : ℕ) (said : ItemSaid) (place : Option ℕ) (taking : IaTaking) → FitsItems kind taking.items
    → FitsItem kind (item_from at said) → place_of said.net taking.items ≡ place → FitsItems kind (placed at said place taking).items
placed_fits kind at said (Some place) taking fits fit there = set_fits kind taking.items place (item_from at said) fits fit there
placed_fits kind at said None taking fits fit none =
    split (ltb (length taking.items) ITEM_LIMIT)
    (λ e. rw e (come_fits kind taking.items (item_from at said) fits fit (ltb-true _ _ e) none))
    (λ e. rw e fits)

takes_fits : (kind : IaKind) (at : ℕ) (taking : IaTaking) (said : ItemSaid) → FitsItems kind taking.items → FitsItem kind (item_from at said)
    → FitsItems kind (takes_item at taking said).items
takes_fits kind at taking said fits fit =
    split (eqb said.valid 0)
    (λ e. rw e (out_fits kind (place_of said.net taking.items) taking.items fits))
    (λ e. rw e (placed_fits kind at said (place_of said.net taking.items) taking fits fit refl))

taken_fits : (kind : IaKind) (at : ℕ) (saids : List ItemSaid) (taking : IaTaking) → FitsItems kind taking.items
    → AllByRecursion (λ said. FitsItem kind (item_from at said)) saids → FitsItems kind (fold (takes_item at) taking saids).items
taken_fits kind at [] taking fits all = fits
taken_fits kind at (said ∷ saids) taking fits all =
    taken_fits kind at saids (takes_item at taking said) (takes_fits kind at taking said fits all.0) all.1

carried_fits : (kind : IaKind) (scope : Scope6) (unbound : Bool) (saids : List ItemSaid) (items : List Item6) → FitsItems kind items
    → FitsItems kind (carried scope unbound saids items)
carried_fits kind scope true saids items fits = none_fit kind
carried_fits kind scope false saids items fits = filter_fits kind (is_carried scope saids) items fits

pub ia_fits : (kind : IaKind) (at : ℕ) (scope : Scope6) (ia : Option IaContent) (items : List Item6) → FitsItems kind items
    → AllByRecursion (λ said. FitsItem kind (item_from at said)) (saids_of ia) → FitsItems kind (ia_taken at scope ia items).items
ia_fits kind at scope ia items fits saids =
    taken_fits kind at (saids_of ia) (record { items = carried scope (is_unbound ia) (saids_of ia) items; shortest = None })
    (carried_fits kind scope (is_unbound ia) (saids_of ia) items fits) saids

-- ---- the items that an IA had

pub had_fit : (kind : IaKind) (iaid : ℕ) (ias : List IaLeaseContent) → AllByRecursion FitsIa ias → FitsItems kind (items_at kind iaid ias)
had_fit kind iaid [] all = none_fit kind
had_fit kind iaid (ia ∷ ias) all =
    split (is_ia (kind, iaid) ia)
    (λ e. rw e (subst (λ k. FitsItems k ia.items)
    (kind_is ia.kind kind (and_parts (is_same_kind ia.kind kind) (eqb ia.iaid iaid) e).0) (items_of ia all.0)))
    (λ e. rw e (had_fit kind iaid ias all.1))
