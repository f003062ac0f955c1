-- What a Reply makes of the items of an IA: each of them afterwards is one that it brings, or it was there, and the Reply doesn't
-- name it.
use Rattle.std.proofs.Common.{◌≡◌, ◌≢◌, ℕ, zero, suc, ◌+◌, ◌<◌, ◌≤◌, ◌⊎◌, inl, inr, Bool, true, false, not, cond, List, [], ◌∷◌, ◌++◌, length, take, drop, set, get_or, fold, Option, Some, None, refl, sym, ap, ◌∙◌, subst, arith, eqb, ltb}
use Rattle.std.specs.List.{AllByRecursion, position, position_or_len}
use Rattle.std.proofs.lemmas.Bool.{and_parts, eqb-true, eq-eqb, ltb-false, and_from, both_ways}
use Rattle.std.proofs.lemmas.List.Quantifiers.{position-Some}
use Rattle.net_types.proofs.AllLaws.{all_join, all_map}
use Rattle.net_types.proofs.CaseLaws.{split}
use Rattle.net_types.specs.declared.address.Net6.{Net6}
use Rattle.v6_options.specs.declared.ia.ItemSaid.{ItemSaid}
use Rattle.lease6_text.specs.declared.lease.Item6.{Item6}
use Rattle.lease6_text.specs.declared.lease.TheConstants.{ITEM_LIMIT}
use Rattle.lease6_text.specs.LineParts.{is_of_net}
use Rattle.lease6_text.proofs.Apart.{Apart, apart_more}
use Rattle.v6_client.specs.V6Items.Taking.{IaTaking, item_from, place_of, placed, taken_out, takes_item}

abbrev pub UnlikeNets : Item6 → Item6 → Type 0
UnlikeNets one other = one.net ≢ other.net

-- ---- the net of an item

abbrev net_with : ℕ → ℕ → Net6
net_with number len = record { ip = record { number = number }; len = len }

pub same_net : (net : Net6) (item : Item6) → is_of_net net item ≡ true → item.net ≡ net
same_net net item e =
    let parts = and_parts (eqb item.net.ip.number net.ip.number) (eqb item.net.len net.len) e in
    ap (λ number. net_with number item.net.len) (eqb-true _ _ parts.0) ∙ ap (net_with net.ip.number) (eqb-true _ _ parts.1)

of_own_net : (item : Item6) → is_of_net item.net item ≡ true
of_own_net item = and_from _ _ (eq-eqb item.net.ip.number item.net.ip.number refl) (eq-eqb item.net.len item.net.len refl)

unlike_net : (net : Net6) (item : Item6) → is_of_net net item ≡ false → net ≢ item.net
unlike_net net item e same =
    let own : is_of_net net item ≡ true = subst (λ n. is_of_net n item ≡ true) (sym same) (of_own_net item) in both_ways _ e own

-- ---- lists

at_place : {X : Type 0} (P : X → Type 0) (xs : List X) (i : ℕ) (d : X) → i < length xs → AllByRecursion P xs → P (get_or xs i d)
at_place P [] i d less all = absurd (omega (arith, less))
at_place P (x ∷ xs) zero d less all = all.0
at_place P (x ∷ xs) (suc i) d less all = at_place P xs i d (omega (arith, less)) all.1

without_each : {X : Type 0} (P : X → Type 0) (xs : List X) (i : ℕ) → AllByRecursion P xs
    → AllByRecursion P (take i xs ++ drop (suc i) xs)
without_each P [] zero all = tt
without_each P [] (suc i) all = tt
without_each P (x ∷ xs) zero all = all.1
without_each P (x ∷ xs) (suc i) all = (all.0, without_each P xs i all.1)

without_apart : (xs : List Item6) (i : ℕ) → Apart UnlikeNets xs → Apart UnlikeNets (take i xs ++ drop (suc i) xs)
without_apart [] zero apart = tt
without_apart [] (suc i) apart = tt
without_apart (x ∷ xs) zero apart = apart.1
without_apart (x ∷ xs) (suc i) apart = (without_each (UnlikeNets x) xs i apart.0, without_apart xs i apart.1)

changed_like : (one : Item6) (xs : List Item6) (i : ℕ) (v : Item6) → (get_or xs i v).net ≡ v.net
    → AllByRecursion (UnlikeNets one) xs
    → AllByRecursion (UnlikeNets one) (set xs i v)
changed_like one [] zero v same all = tt
changed_like one [] (suc i) v same all = tt
changed_like one (x ∷ xs) zero v same all = (λ e. all.0 (e ∙ sym same), all.1)
changed_like one (x ∷ xs) (suc i) v same all = (all.0, changed_like one xs i v same all.1)

changed_apart : (xs : List Item6) (i : ℕ) (v : Item6) → (get_or xs i v).net ≡ v.net → Apart UnlikeNets xs
    → Apart UnlikeNets (set xs i v)
changed_apart [] zero v same apart = tt
changed_apart [] (suc i) v same apart = tt
changed_apart (x ∷ xs) zero v same apart = (
  all_map (UnlikeNets x) (UnlikeNets v) (λ other differs e. differs (same ∙ e)) xs
      apart.0,
  apart.1,
)
changed_apart (x ∷ xs) (suc i) v same apart = (changed_like x xs i v same apart.0, changed_apart xs i v same apart.1)

none_within : (p : Item6 → Bool) (xs : List Item6) → length xs ≤ position_or_len p xs → AllByRecursion (λ x. p x ≡ false) xs
none_within p [] long = tt
none_within p (x ∷ xs) long =
    elim (p x) as (λ b. p x ≡ b → suc (length xs) ≤ cond (not b) (1 + position_or_len p xs) 0
    → AllByRecursion (λ y. p y ≡ false) (x ∷ xs)) [
      | true ↦ λ e l. absurd (omega (arith, l))
      | false ↦ λ e l. (e, none_within p xs (omega (arith, l)))
    ] refl long

none_there : (p : Item6 → Bool) (xs : List Item6) → position p xs ≡ None → AllByRecursion (λ x. p x ≡ false) xs
none_there p xs e =
    elim (ltb (position_or_len p xs) (length xs)) as (λ b. ltb (position_or_len p xs) (length xs) ≡ b
    → cond b (Some (position_or_len p xs)) None ≡ None → AllByRecursion (λ x. p x ≡ false) xs) [
      | true ↦ λ t q. let never : ⊥ = cc in absurd never
      | false ↦ λ t q. none_within p xs (ltb-false _ _ t)
    ] refl e

-- ---- one item of a Reply

module _ (at : ℕ) (Brought : Item6 → Type 0) where
  -- brought, or it was there
  abbrev From : (Item6 → Type 0) → Item6 → Type 0
  From Old item = Brought item ⊎ Old item

  -- it was there, and isn't named
  abbrev Besides : (Item6 → Type 0) → Net6 → Item6 → Type 0
  Besides Old net item = Old item × (net ≢ item.net)

  beside : (Old : Item6 → Type 0) (net : Net6) (item : Item6) → net ≢ item.net → From Old item → From (Besides Old net) item
  beside Old net item other (inl brought) = inl brought
  beside Old net item other (inr old) = inr (old, other)

  all_beside : (Old : Item6 → Type 0) (net : Net6) (xs : List Item6) → AllByRecursion (λ x. net ≢ x.net) xs
      → AllByRecursion (From Old) xs
      → AllByRecursion (From (Besides Old net)) xs
  all_beside Old net [] others all = tt
  all_beside Old net (x ∷ xs) others all = (beside Old net x others.0 all.0, all_beside Old net xs others.1 all.1)

  unlike_all : (net : Net6) (one : Item6) (xs : List Item6) → one.net ≡ net → AllByRecursion (UnlikeNets one) xs
      → AllByRecursion (λ x. net ≢ x.net) xs
  unlike_all net one xs same all = all_map (UnlikeNets one) (λ x. net ≢ x.net) (λ x differs e. differs (same ∙ e)) xs all

  removed : (Old : Item6 → Type 0) (net : Net6) (xs : List Item6) (i : ℕ) (d : Item6) → i < length xs
      → (get_or xs i d).net ≡ net → Apart UnlikeNets xs
      → AllByRecursion (From Old) xs → AllByRecursion (From (Besides Old net)) (take i xs ++ drop (suc i) xs)
  removed Old net [] i d less same apart all = absurd (omega (arith, less))
  removed Old net (x ∷ xs) zero d less same apart all = all_beside Old net xs (unlike_all net x xs same apart.0) all.1
  removed Old net (x ∷ xs) (suc i) d less same apart all =
      let there : i < length xs = omega (arith, less) in (
        beside Old net x (λ e. at_place (UnlikeNets x) xs i d there apart.0 (sym e ∙ sym same)) all.0,
        removed Old net xs i d there same apart.1 all.1,
      )

  changed : (Old : Item6 → Type 0) (net : Net6) (xs : List Item6) (i : ℕ) (v : Item6) → i < length xs
      → (get_or xs i v).net ≡ net → Apart UnlikeNets xs
      → Brought v → AllByRecursion (From Old) xs → AllByRecursion (From (Besides Old net)) (set xs i v)
  changed Old net [] i v less same apart brought all = absurd (omega (arith, less))
  changed Old net (x ∷ xs) zero v less same apart brought all =
      (inl brought, all_beside Old net xs (unlike_all net x xs same apart.0) all.1)
  changed Old net (x ∷ xs) (suc i) v less same apart brought all =
      let there : i < length xs = omega (arith, less) in (
        beside Old net x (λ e. at_place (UnlikeNets x) xs i v there apart.0 (sym e ∙ sym same)) all.0,
        changed Old net xs i v there same apart.1 brought all.1,
      )

  -- the items, of unlike nets
  pub record Tidy (Old : Item6 → Type 0) (items : List Item6) : Type 0 where
    pub apart : Apart UnlikeNets items
    pub each : AllByRecursion (From Old) items

  none_named : (net : Net6) (items : List Item6) → place_of net items ≡ None → AllByRecursion (λ x. net ≢ x.net) items
  none_named net items none =
      all_map (λ x. is_of_net net x ≡ false) (λ x. net ≢ x.net) (unlike_net net) items (none_there (is_of_net net) items none)

  goes_out : (Old : Item6 → Type 0) (said : ItemSaid) (items : List Item6) (d : Item6) (place : Option ℕ)
      → place_of said.net items ≡ place → Tidy Old items
      → Tidy (Besides Old said.net) (taken_out place items)
  goes_out Old said items d None there tidy =
      record { apart = tidy.apart; each = all_beside Old said.net items (none_named said.net items there) tidy.each }
  goes_out Old said items d (Some place) there tidy =
      let found = position-Some (is_of_net said.net) items place d there in
      record {
        apart = without_apart items place tidy.apart;
        each = removed Old said.net items place d found.0 (same_net said.net (get_or items place d) found.1) tidy.apart
            tidy.each;
      }

  comes : (Old : Item6 → Type 0) (said : ItemSaid) (taking : IaTaking) (place : Option ℕ)
      → place_of said.net taking.items ≡ place → Brought (item_from at said)
      → Tidy Old taking.items → Tidy (Besides Old said.net) (placed at said place taking).items
  comes Old said taking (Some place) there brought tidy =
      let found = position-Some (is_of_net said.net) taking.items place (item_from at said) there in
      let same : (get_or taking.items place (item_from at said)).net ≡ said.net = same_net said.net
      (get_or taking.items place (item_from at said)) found.1 in
      record {
        apart = changed_apart taking.items place (item_from at said) same tidy.apart;
        each = changed Old said.net taking.items place (item_from at said) found.0 same tidy.apart brought tidy.each;
      }
  comes Old said taking None there brought tidy =
      let others : AllByRecursion (λ x. said.net ≢ x.net) taking.items = none_named said.net taking.items there in
      let kept : AllByRecursion (From (Besides Old said.net)) taking.items = all_beside Old said.net taking.items others
      tidy.each in
      split (ltb (length taking.items) ITEM_LIMIT)
      (λ e. rw e (record {
        apart = apart_more UnlikeNets taking.items (item_from at said) tidy.apart
            (all_map (λ x. said.net ≢ x.net) (λ x. UnlikeNets x (item_from at said)) (λ x differs same. differs (sym same))
            taking.items others);
        each = all_join (From (Besides Old said.net)) taking.items (item_from at said ∷ []) kept (inl brought, tt);
      }))
      (λ e. rw e (record { apart = tidy.apart; each = kept }))

  takes_one : (Old : Item6 → Type 0) (said : ItemSaid) (taking : IaTaking)
      → (eqb said.valid 0 ≡ false → Brought (item_from at said)) → Tidy Old taking.items
      → Tidy (Besides Old said.net) (takes_item at taking said).items
  takes_one Old said taking brings tidy =
      split (eqb said.valid 0)
      (λ e. rw e (goes_out Old said taking.items (item_from at said) (place_of said.net taking.items) refl tidy))
      (λ e. rw e (comes Old said taking (place_of said.net taking.items) refl (brings e) tidy))

  -- ---- all of them

  -- none of these has the net
  abbrev pub Unnamed : List ItemSaid → Item6 → Type 0
  Unnamed saids item = AllByRecursion (λ said. said.net ≢ item.net) saids

  abbrev Left : (Item6 → Type 0) → List ItemSaid → Item6 → Type 0
  Left Old saids item = Old item × Unnamed saids item

  regroup : (Old : Item6 → Type 0) (said : ItemSaid) (saids : List ItemSaid) (item : Item6)
      → From (Left (Besides Old said.net) saids) item
      → From (Left Old (said ∷ saids)) item
  regroup Old said saids item (inl brought) = inl brought
  regroup Old said saids item (inr old) = inr (old.0.0, (old.0.1, old.1))

  none_more : (Old : Item6 → Type 0) (item : Item6) → From Old item → From (Left Old []) item
  none_more Old item (inl brought) = inl brought
  none_more Old item (inr old) = inr (old, tt)

  pub takes_all : (Old : Item6 → Type 0) (saids : List ItemSaid) (taking : IaTaking)
      → AllByRecursion (λ said. eqb said.valid 0 ≡ false → Brought (item_from at said)) saids
      → Tidy Old taking.items → Tidy (Left Old saids) (fold (takes_item at) taking saids).items
  takes_all Old [] taking brings tidy = record {
    apart = tidy.apart;
    each = all_map (From Old) (From (Left Old []))
        (none_more Old) taking.items tidy.each;
  }
  takes_all Old (said ∷ saids) taking brings tidy =
      let after : Tidy (Left (Besides Old said.net) saids) (fold (takes_item at) (takes_item at taking said) saids).items =
      takes_all (Besides Old said.net) saids (takes_item at taking said) brings.1
      (takes_one Old said taking brings.0 tidy) in
      record {
        apart = after.apart;
        each = all_map (From (Left (Besides Old said.net) saids)) (From (Left Old (said ∷ saids))) (regroup Old said saids) _
            after.each;
      }
