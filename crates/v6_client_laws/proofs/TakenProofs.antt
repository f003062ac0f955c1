-- What becomes of the items of an IA when those of a Reply are taken.
use Rattle.std.proofs.Common.{◌≡◌, ◌≢◌, ℕ, suc, ◌<◌, ◌≤◌, ◌⊎◌, inl, inr, true, false, cond, List, [], ◌∷◌, ◌++◌, length, take, drop, set, fold, Option, Some, None, refl, sym, ap, ◌∙◌, subst, arith, eqb, ltb, length-append}
use Rattle.std.specs.List.{position_or_len}
use Rattle.std.proofs.lemmas.Bool.{and_parts, and_from, both_ways, eqb-false, eqb-true, eq-eqb, le-ltb, lt-ltb, ltb-false, ltb-true, ne_eqb}
use Rattle.net_types.proofs.CaseLaws.{split}
use Rattle.net_types.specs.declared.address.Net6.{Net6}
use Rattle.v6_options.specs.declared.ia.ItemSaid.{ItemSaid}
use Rattle.lease6_text.specs.declared.lease.Item6.{Item6}
use Rattle.lease6_text.specs.declared.lease.TheConstants.{ITEM_LIMIT}
use Rattle.lease6_text.specs.LineParts.{is_of_net}
use Rattle.v6_items.specs.declared.times.TheConstants.{FOREVER}
use Rattle.v6_items.specs.Taking.{IaTaking, item_from, place_of, placed, shorter, taken_from, taken_out, takes_item}
use Rattle.v6_items.specs.Times.{earlier, moment_after}
use Rattle.v6_client_laws.specs.GivenLaws.{IsTaking, ItemsAreTaken}
use Rattle.v6_client_laws.specs.Least.{LeastOf}
use Rattle.v6_client_laws.specs.TakenItems as taken
use Rattle.v6_client_laws.specs.TakenItems.{EndsAfter, HasItem, HasNone, IsFrom, IsPreferredFor, Takes, endless}
use Rattle.v6_client_laws.proofs.FirstItems.{behind_in, front_in, none_in}
use Rattle.v6_client_laws.proofs.Leasts.{earlier_least, in_cases, to_least}

-- ---- the net of an item

abbrev net_of : (number len : ℕ) → Net6
net_of number len = record { ip = record { number = number }; len = len }

has_net : (net : Net6) (item : Item6) → is_of_net net item ≡ true → item.net ≡ net
has_net net item e =
    let parts = and_parts (eqb item.net.ip.number net.ip.number) (eqb item.net.len net.len) e in
    ap (λ number. net_of number item.net.len) (eqb-true _ _ parts.0) ∙ ap (net_of net.ip.number) (eqb-true _ _ parts.1)

net_has : (net : Net6) (item : Item6) → item.net ≡ net → is_of_net net item ≡ true
net_has net item e =
    subst (λ n. is_of_net n item ≡ true) e
    (and_from _ _ (eq-eqb item.net.ip.number item.net.ip.number refl) (eq-eqb item.net.len item.net.len refl))

has_not : (net : Net6) (item : Item6) → is_of_net net item ≡ false → item.net ≢ net
has_not net item f e = both_ways (is_of_net net item) f (net_has net item e)

not_has : (net : Net6) (item : Item6) → item.net ≢ net → is_of_net net item ≡ false
not_has net item never = split (is_of_net net item) (λ t. absurd (never (has_net net item t))) (λ f. f)

-- ---- its place

record Found (net : Net6) (items : List Item6) : Type 0 where
  before : List Item6
  after : List Item6
  has : HasItem net items before after

found : (net : Net6) (items : List Item6) → Found net items ⊎ HasNone net items
found net [] = inr tt
found net (item ∷ items) =
    split (is_of_net net item)
    (λ t. inl (record { before = []; after = items; has = record { item = item; is = has_net net item t; cut = refl; first = tt } }))
    (λ f. elim (found net items) [
      | inl later ↦ inl (record {
        before = item ∷ later.before;
        after = later.after;
        has = record {
          item = later.has.item;
          is = later.has.is;
          cut = ap (λ rest. item ∷ rest) later.has.cut;
          first = (has_not net item f, later.has.first);
        };
      })
      | inr none ↦ inr (has_not net item f, none)
    ])

cut_place : (net : Net6) (before : List Item6) (item : Item6) (after : List Item6) → HasNone net before → item.net ≡ net
    → position_or_len (is_of_net net) (before ++ item ∷ after) ≡ length before
cut_place net [] item after first is = let e = net_has net item is in rw e refl
cut_place net (x ∷ before) item after first is =
    let e = not_has net x first.0 in
    let rest = cut_place net before item after first.1 is in
    rw e (omega (arith, rest))

none_place : (net : Net6) (items : List Item6) → HasNone net items → position_or_len (is_of_net net) items ≡ length items
none_place net [] none = refl
none_place net (x ∷ items) none =
    let e = not_has net x none.0 in
    let rest = none_place net items none.1 in
    rw e (omega (arith, rest))

within : (xs ys : List Item6) (y : Item6) → length xs < length (xs ++ y ∷ ys)
within xs ys y = omega (arith, length-append xs (y ∷ ys))

place_found : (net : Net6) (items before after : List Item6) → HasItem net items before after → place_of net items ≡ Some (length before)
place_found net items before after has =
    ap (place_of net) has.cut ∙ at_cut (position_or_len (is_of_net net) (before ++ has.item ∷ after))
    (cut_place net before has.item after has.first has.is)
  where
    at_cut : (k : ℕ) → k ≡ length before
        → cond (ltb k (length (before ++ has.item ∷ after))) (Some k) None ≡ Some (length before)
    at_cut k e =
        let here : cond (ltb (length before) (length (before ++ has.item ∷ after))) (Some (length before)) None ≡ Some (length before) =
        ap (λ b. cond b (Some (length before)) None) (lt-ltb (length before) (length (before ++ has.item ∷ after)) (within before after has.item)) in
        subst (λ k. cond (ltb k (length (before ++ has.item ∷ after))) (Some k) None ≡ Some (length before)) (sym e) here

place_none : (net : Net6) (items : List Item6) → HasNone net items → place_of net items ≡ None
place_none net items none = at_end (position_or_len (is_of_net net) items) (none_place net items none)
  where
    at_end : (k : ℕ) → k ≡ length items → cond (ltb k (length items)) (Some k) None ≡ None
    at_end k e = ap (λ b. cond b (Some k) None) (le-ltb k (length items) (omega (arith, e)))

-- ---- an item goes, or changes

cut_out : (before : List Item6) (item : Item6) (after : List Item6)
    → take (length before) (before ++ item ∷ after) ++ drop (suc (length before)) (before ++ item ∷ after) ≡ before ++ after
cut_out [] item after = refl
cut_out (x ∷ before) item after = ap (λ rest. x ∷ rest) (cut_out before item after)

cut_set : (before : List Item6) (item other : Item6) (after : List Item6)
    → set (before ++ item ∷ after) (length before) other ≡ before ++ other ∷ after
cut_set [] item other after = refl
cut_set (x ∷ before) item other after = ap (λ rest. x ∷ rest) (cut_set before item other after)

-- ---- the lifetimes

ends_after : (at seconds : ℕ) → EndsAfter at seconds (moment_after at seconds)
ends_after at seconds =
    split (eqb seconds FOREVER) (λ t. rw t (eqb-true seconds FOREVER t)) (λ f. rw f (eqb-false seconds FOREVER f, refl))

after_is : (at seconds : ℕ) (moment : Option ℕ) → EndsAfter at seconds moment → moment ≡ moment_after at seconds
after_is at seconds None ends = let e = eq-eqb seconds FOREVER ends in rw e refl
after_is at seconds (Some moment) ends = let e = ne_eqb seconds FOREVER ends.0 in rw e (ap Some ends.1)

is_from : (at : ℕ) (said : ItemSaid) → IsFrom at said (item_from at said)
is_from at said = record { net = refl; preferred = ends_after at said.preferred; valid = ends_after at said.valid }

abbrev item_of : Net6 → (preferred valid : Option ℕ) → Item6
item_of net preferred valid = record { net = net; preferred = preferred; valid = valid }

from_is : (at : ℕ) (said : ItemSaid) (item : Item6) → IsFrom at said item → item ≡ item_from at said
from_is at said item from =
    ap (λ n. item_of n item.preferred item.valid) from.net
    ∙ (ap (λ p. item_of said.net p item.valid) (after_is at said.preferred item.preferred from.preferred)
    ∙ ap (λ v. item_of said.net (moment_after at said.preferred) v) (after_is at said.valid item.valid from.valid))

-- ---- a step

abbrev taking_of : List Item6 → Option ℕ → IaTaking
taking_of items shortest = record { items = items; shortest = shortest }

module _ (at : ℕ) (said : ItemSaid) (had : List Item6) (acc : Option ℕ) where
  abbrev place : Option ℕ
  place = place_of said.net had

  gone_or : said.valid ≡ 0 → takes_item at (taking_of had acc) said ≡ taking_of (taken_out place had) acc
  gone_or none_valid = ap (λ b. cond b (taking_of (taken_out place had) acc) (placed at said place (taking_of had acc))) (eq-eqb said.valid 0 none_valid)

  set_or : said.valid ≢ 0 → takes_item at (taking_of had acc) said ≡ placed at said place (taking_of had acc)
  set_or some = ap (λ b. cond b (taking_of (taken_out place had) acc) (placed at said place (taking_of had acc))) (ne_eqb said.valid 0 some)

  step_goes : (before after : List Item6) → said.valid ≡ 0 → HasItem said.net had before after
      → takes_item at (taking_of had acc) said ≡ taking_of (before ++ after) acc
  step_goes before after none_valid has =
      gone_or none_valid ∙ ap (λ p. taking_of (taken_out p had) acc) (place_found said.net had before after has)
      ∙ ap (λ items. taking_of (taken_out (Some (length before)) items) acc) has.cut
      ∙ ap (λ items. taking_of items acc) (cut_out before has.item after)

  step_is_gone : said.valid ≡ 0 → HasNone said.net had → takes_item at (taking_of had acc) said ≡ taking_of had acc
  step_is_gone none_valid none = gone_or none_valid ∙ ap (λ p. taking_of (taken_out p had) acc) (place_none said.net had none)

  step_lasts : (before after : List Item6) → said.valid ≢ 0 → HasItem said.net had before after
      → takes_item at (taking_of had acc) said ≡ taking_of (before ++ item_from at said ∷ after) (shorter acc said.preferred)
  step_lasts before after some has =
      set_or some ∙ ap (λ p. placed at said p (taking_of had acc)) (place_found said.net had before after has)
      ∙ ap (λ items. placed at said (Some (length before)) (taking_of items acc)) has.cut
      ∙ ap (λ items. taking_of items (shorter acc said.preferred)) (cut_set before has.item (item_from at said) after)

  step_comes : said.valid ≢ 0 → HasNone said.net had → length had < 4
      → takes_item at (taking_of had acc) said ≡ taking_of (had ++ item_from at said ∷ []) (shorter acc said.preferred)
  step_comes some none few =
      set_or some ∙ ap (λ p. placed at said p (taking_of had acc)) (place_none said.net had none)
      ∙ ap (λ b. cond b (taking_of (had ++ item_from at said ∷ []) (shorter acc said.preferred)) (taking_of had acc))
      (lt-ltb (length had) ITEM_LIMIT few)

  step_full : said.valid ≢ 0 → HasNone said.net had → 4 ≤ length had
      → takes_item at (taking_of had acc) said ≡ taking_of had acc
  step_full some none many =
      set_or some ∙ ap (λ p. placed at said p (taking_of had acc)) (place_none said.net had none)
      ∙ ap (λ b. cond b (taking_of (had ++ item_from at said ∷ []) (shorter acc said.preferred)) (taking_of had acc))
      (le-ltb (length had) ITEM_LIMIT many)

-- ---- what is taken

abbrev all_taken : ℕ → IaTaking → List ItemSaid → IaTaking
all_taken at taking saids = fold (takes_item at) taking saids

pub record TakenSo (at : ℕ) (had : List Item6) (saids : List ItemSaid) (held : List Item6) : Type 0 where
  pub set : List ItemSaid
  pub takes : Takes at had saids held set

abbrev TakesSo : (at : ℕ) → List ItemSaid → List Item6 → Option ℕ → Type 0
TakesSo at saids had acc = TakenSo at had saids (all_taken at (taking_of had acc) saids).items

module _ (at : ℕ) (said : ItemSaid) (saids : List ItemSaid) (had : List Item6) (acc : Option ℕ) where
  abbrev So : Type 0
  So = TakesSo at (said ∷ saids) had acc

  after : (next : IaTaking) → takes_item at (taking_of had acc) said ≡ next
      → TakenSo at had (said ∷ saids) (all_taken at next saids).items → So
  after next e there = subst (λ (t : IaTaking). TakenSo at had (said ∷ saids) (all_taken at t saids).items) (sym e) there

  so_goes : said.valid ≡ 0 → (f : Found said.net had) → TakesSo at saids (f.before ++ f.after) acc → So
  so_goes none_valid f rest =
      after _ (step_goes at said had acc f.before f.after none_valid f.has)
      (record { set = rest.set; takes = taken.Takes.goes had f.before f.after _ said saids rest.set none_valid f.has rest.takes })

  so_gone : said.valid ≡ 0 → HasNone said.net had → TakesSo at saids had acc → So
  so_gone none_valid none rest =
      after _ (step_is_gone at said had acc none_valid none)
      (record { set = rest.set; takes = taken.Takes.is_gone had _ said saids rest.set none_valid none rest.takes })

  so_lasts : said.valid ≢ 0 → (f : Found said.net had)
      → TakesSo at saids (f.before ++ item_from at said ∷ f.after) (shorter acc said.preferred) → So
  so_lasts some f rest =
      after _ (step_lasts at said had acc f.before f.after some f.has)
      (record {
        set = said ∷ rest.set;
        takes = taken.Takes.lasts had f.before f.after _ said (item_from at said) saids rest.set some f.has (is_from at said) rest.takes;
      })

  so_comes : said.valid ≢ 0 → HasNone said.net had → length had < 4
      → TakesSo at saids (had ++ item_from at said ∷ []) (shorter acc said.preferred) → So
  so_comes some none few rest =
      after _ (step_comes at said had acc some none few)
      (record {
        set = said ∷ rest.set;
        takes = taken.Takes.comes had _ said (item_from at said) saids rest.set some none few (is_from at said) rest.takes;
      })

  so_full : said.valid ≢ 0 → HasNone said.net had → 4 ≤ length had → TakesSo at saids had acc → So
  so_full some none many rest =
      after _ (step_full at said had acc some none many)
      (record { set = rest.set; takes = taken.Takes.finds_no_room had _ said saids rest.set some none many rest.takes })

takes_so : (at : ℕ) (saids : List ItemSaid) (had : List Item6) (acc : Option ℕ) → TakesSo at saids had acc
takes_so at [] had acc = record { set = []; takes = taken.Takes.ends had }
takes_so at (said ∷ saids) had acc =
    split (eqb said.valid 0)
    (λ t. elim (found said.net had) [
      | inl f ↦ so_goes at said saids had acc (eqb-true said.valid 0 t) f (takes_so at saids (f.before ++ f.after) acc)
      | inr none ↦ so_gone at said saids had acc (eqb-true said.valid 0 t) none (takes_so at saids had acc)
    ])
    (λ t. elim (found said.net had) [
      | inl f ↦ so_lasts at said saids had acc (eqb-false said.valid 0 t) f
          (takes_so at saids (f.before ++ item_from at said ∷ f.after) (shorter acc said.preferred))
      | inr none ↦ split (ltb (length had) ITEM_LIMIT)
          (λ few. so_comes at said saids had acc (eqb-false said.valid 0 t) none (ltb-true (length had) ITEM_LIMIT few)
          (takes_so at saids (had ++ item_from at said ∷ []) (shorter acc said.preferred)))
          (λ many. so_full at said saids had acc (eqb-false said.valid 0 t) none (ltb-false (length had) ITEM_LIMIT many)
          (takes_so at saids had acc))
    ])

-- ---- and back

shorter_is : (acc : Option ℕ) (n : ℕ) → shorter acc n ≡ earlier acc (Some n)
shorter_is None n = refl
shorter_is (Some m) n = refl

shorter_least : (A : ℕ → Type 0) (acc : Option ℕ) (n : ℕ) → LeastOf A acc → LeastOf (λ m. A m ⊎ (n ≡ m)) (shorter acc n)
shorter_least A acc n least =
    subst (λ (o : Option ℕ). LeastOf (λ m. A m ⊎ (n ≡ m)) o) (sym (shorter_is acc n))
    (earlier_least A (λ m. n ≡ m) acc (Some n) least (record { is = refl; least = λ other e. omega (arith, e) }))

-- what is taken, and the least so far
record Took (A : ℕ → Type 0) (taking : IaTaking) (held : List Item6) (set : List ItemSaid) : Type 0 where
  items : taking.items ≡ held
  shortest : LeastOf (λ n. A n ⊎ IsPreferredFor set n) taking.shortest

regroup : (A : ℕ → Type 0) (said : ItemSaid) (set : List ItemSaid) (n : ℕ) → ((A n ⊎ (said.preferred ≡ n)) ⊎ IsPreferredFor set n)
    → (A n ⊎ IsPreferredFor (said ∷ set) n)
regroup A said set n (inl (inl a)) = inl a
regroup A said set n (inl (inr e)) = inr (record { said = said; among = front_in said set; is = e })
regroup A said set n (inr p) = inr (record { said = p.said; among = behind_in said set p.said p.among; is = p.is })

grouped : (A : ℕ → Type 0) (said : ItemSaid) (set : List ItemSaid) (n : ℕ) → (A n ⊎ IsPreferredFor (said ∷ set) n)
    → ((A n ⊎ (said.preferred ≡ n)) ⊎ IsPreferredFor set n)
grouped A said set n (inl a) = inl (inl a)
grouped A said set n (inr p) = elim (in_cases said set p.said p.among) [
  | inl same ↦ inl (inr (ap (λ (s : ItemSaid). s.preferred) same ∙ p.is))
  | inr later ↦ inr (record { said = p.said; among = later; is = p.is })
]

set_more : (A : ℕ → Type 0) (said : ItemSaid) (taking : IaTaking) (held : List Item6) (set : List ItemSaid)
    → Took (λ n. A n ⊎ (said.preferred ≡ n)) taking held set → Took A taking held (said ∷ set)
set_more A said taking held set took = record {
  items = took.items;
  shortest = to_least (λ n. (A n ⊎ (said.preferred ≡ n)) ⊎ IsPreferredFor set n) (λ n. A n ⊎ IsPreferredFor (said ∷ set) n)
      taking.shortest (regroup A said set) (grouped A said set) took.shortest;
}

took_by : (at : ℕ) (had : List Item6) (saids : List ItemSaid) (held : List Item6) (set : List ItemSaid) → Takes at had saids held set
    → (A : ℕ → Type 0) (acc : Option ℕ) → LeastOf A acc → Took A (all_taken at (taking_of had acc) saids) held set
took_by at _ _ _ _ (taken.Takes.ends had) A acc least = record {
  items = refl;
  shortest = to_least A (λ n. A n ⊎ IsPreferredFor [] n) acc (λ n a. inl a)
      (λ n e. elim e [ inl a ↦ a | inr p ↦ absurd (none_in p.said p.among) ]) least;
}
took_by at _ _ _ _ (taken.Takes.goes had before after held said saids set none_valid has more) A acc least =
    subst (λ (t : IaTaking). Took A (all_taken at t saids) held set) (sym (step_goes at said had acc before after none_valid has))
    (took_by at (before ++ after) saids held set more A acc least)
took_by at _ _ _ _ (taken.Takes.is_gone had held said saids set none_valid none more) A acc least =
    subst (λ (t : IaTaking). Took A (all_taken at t saids) held set) (sym (step_is_gone at said had acc none_valid none))
    (took_by at had saids held set more A acc least)
took_by at _ _ _ _ (taken.Takes.lasts had before after held said item saids set some has from more) A acc least =
    subst (λ (t : IaTaking). Took A (all_taken at t saids) held (said ∷ set))
    (sym (step_lasts at said had acc before after some has
    ∙ ap (λ (i : Item6). taking_of (before ++ i ∷ after) (shorter acc said.preferred)) (sym (from_is at said item from))))
    (set_more A said (all_taken at (taking_of (before ++ item ∷ after) (shorter acc said.preferred)) saids) held set
    (took_by at (before ++ item ∷ after) saids held set more (λ n. A n ⊎ (said.preferred ≡ n)) (shorter acc said.preferred)
    (shorter_least A acc said.preferred least)))
took_by at _ _ _ _ (taken.Takes.comes had held said item saids set some none few from more) A acc least =
    subst (λ (t : IaTaking). Took A (all_taken at t saids) held (said ∷ set))
    (sym (step_comes at said had acc some none few
    ∙ ap (λ (i : Item6). taking_of (had ++ i ∷ []) (shorter acc said.preferred)) (sym (from_is at said item from))))
    (set_more A said (all_taken at (taking_of (had ++ item ∷ []) (shorter acc said.preferred)) saids) held set
    (took_by at (had ++ item ∷ []) saids held set more (λ n. A n ⊎ (said.preferred ≡ n)) (shorter acc said.preferred)
    (shorter_least A acc said.preferred least)))
took_by at _ _ _ _ (taken.Takes.finds_no_room had held said saids set some none many more) A acc least =
    subst (λ (t : IaTaking). Took A (all_taken at t saids) held set) (sym (step_full at said had acc some none many))
    (took_by at had saids held set more A acc least)

is_taking : (at : ℕ) (had : List Item6) (saids : List ItemSaid) (held : List Item6) (set : List ItemSaid) → Takes at had saids held set
    → IsTaking (taken_from at had saids) held set
is_taking at had saids held set takes =
    let took : Took (λ n. ⊥) (taken_from at had saids) held set = took_by at had saids held set takes (λ n. ⊥) None (λ n never. never) in
    record {
      items = took.items;
      shortest = to_least (λ n. ⊥ ⊎ IsPreferredFor set n) (IsPreferredFor set) (taken_from at had saids).shortest
          (λ n e. elim e [ inl never ↦ absurd never | inr p ↦ p ]) (λ n p. inr p) took.shortest;
    }

pub items_are_taken : ItemsAreTaken
items_are_taken at had saids =
    let so : TakenSo at had saids (taken_from at had saids).items = takes_so at saids had None in
    record { set = so.set; takes = so.takes; whole = is_taking at had saids }
