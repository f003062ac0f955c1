-- Which IAs a lease may have, and which items an IA may have: the tests say what the bounds say.
use Rattle.std.proofs.Common.{◌≡◌, ◌≢◌, ℕ, suc, ◌+◌, ◌^◌, ◌<◌, Bool, true, false, not, ◌&&◌, ◌||◌, List, [], ◌∷◌, ◌++◌, length, refl, sym, ap, ◌∙◌, subst, arith, eqb, ltb, length-append}
use Rattle.std.specs.List.{AllByRecursion, list_any}
use Rattle.std.proofs.lemmas.List.{length-map}
use Rattle.std.proofs.lemmas.Bool.{and_parts, and_from, eqb-true, eq-eqb, lt-ltb, ltb-true, not-true, not_from_false, both_ways}
use Rattle.net_types.specs.declared.address.Net6.{Net6}
use Rattle.net_types.specs.AddressText.{FitsIp6}
use Rattle.net_types.proofs.AllLaws.{all_join}
use Rattle.v6_options.specs.declared.ia.IaKind.{IaKind}
use Rattle.v6_options.specs.declared.ia.IaKind.TheVariants.{Na, Pd}
use Rattle.lease6_text.specs.declared.lease.IaLease.{IaLease}
use Rattle.lease6_text.specs.declared.lease.Item6.{Item6}
use Rattle.lease6_text.specs.declared.lease.TheConstants.{IA_LIMIT, ITEM_LIMIT}
use Rattle.lease6_text.specs.Bounds.{FitsIa, FitsIas, FitsItem, IsTypedIa, ia_key}
use Rattle.lease6_text.specs.LinesRead.{CanBegin}
use Rattle.lease6_text.specs.Leases.{IaLeaseContent, ia_content, ias_content}
use Rattle.lease6_text.specs.LineParts.{has_ia, has_net, is_ia, is_of_net, is_same_kind, may_begin, may_join}
use Rattle.lease6_text.proofs.Apart.{all_front, all_rest, none_passes, passes_none, apart_from, pairs_from, apart_more, apart_front, apart_before}
use Rattle.lease6_text.proofs.PartReads.{IsItem}

of_test : (b : Bool) → (b ≡ true → ⊥) → b ≡ false
of_test true never = absurd (never refl)
of_test false never = refl

-- ---- the same IA

pub kind_is : (one other : IaKind) → is_same_kind one other ≡ true → one ≡ other
kind_is Na Na same = refl
kind_is Na Pd same = cc
kind_is Pd Na same = cc
kind_is Pd Pd same = refl

same_kind : (kind : IaKind) → is_same_kind kind kind ≡ true
same_kind Na = refl
same_kind Pd = refl

abbrev pair_of : IaKind → ℕ → IaKind × ℕ
pair_of kind iaid = (kind, iaid)

ia_is : (key : IaKind × ℕ) (ia : IaLeaseContent) → is_ia key ia ≡ true → ia_key ia ≡ key
ia_is key ia e =
    let parts = and_parts (is_same_kind ia.kind key.0) (eqb ia.iaid key.1) e in
    ap (λ kind. pair_of kind ia.iaid) (kind_is ia.kind key.0 parts.0) ∙ ap (pair_of key.0) (eqb-true ia.iaid key.1 parts.1)

is_own : (ia : IaLeaseContent) → is_ia (ia_key ia) ia ≡ true
is_own ia = and_from (is_same_kind ia.kind ia.kind) (eqb ia.iaid ia.iaid) (same_kind ia.kind) (eq-eqb ia.iaid ia.iaid refl)

other_ia : (key : IaKind × ℕ) (ia : IaLeaseContent) → is_ia key ia ≡ false → ia_key ia ≢ key
other_ia key ia e same = let own : is_ia key ia ≡ true = subst (λ k. is_ia k ia ≡ true) same (is_own ia) in both_ways _ e own

not_that_ia : (key : IaKind × ℕ) (ia : IaLeaseContent) → ia_key ia ≢ key → is_ia key ia ≡ false
not_that_ia key ia other = of_test (is_ia key ia) (λ is. other (ia_is key ia is))

pub can_begin : (ias : List IaLeaseContent) (key : IaKind × ℕ) → key.1 < 2 ^ 32 → may_begin ias key ≡ true → CanBegin ias key
can_begin ias key iaid e =
    let parts = and_parts (ltb (length ias) IA_LIMIT) (not (has_ia ias key)) e in
    record { few = ltb-true _ _ parts.0; anew = none_passes (is_ia key) (λ ia. ia_key ia ≢ key) (other_ia key) ias (not-true _ parts.1); iaid = iaid }

pub begins : (ias : List IaLeaseContent) (key : IaKind × ℕ) → CanBegin ias key → may_begin ias key ≡ true
begins ias key can =
    and_from (ltb (length ias) IA_LIMIT) (not (has_ia ias key)) (lt-ltb _ _ can.few)
    (not_from_false _ (passes_none (is_ia key) (λ ia. ia_key ia ≢ key) (not_that_ia key) ias can.anew))

any_content : (test : IaLeaseContent → Bool) (ias : List IaLease) → list_any (λ ia. test (ia_content ia)) ias ≡ list_any test (ias_content ias)
any_content test [] = refl
any_content test (ia ∷ ias) = ap (λ b. test (ia_content ia) || b) (any_content test ias)

-- what the code says of IAs in memory
pub may_begin_is : (key : IaKind × ℕ) (ias : List IaLease) (has : Bool) → length ias < IA_LIMIT → has ≡ list_any (λ ia. is_ia key (ia_content ia)) ias
    → not has ≡ may_begin (ias_content ias) key
may_begin_is key ias has few e =
    ap not (e ∙ any_content (is_ia key) ias)
    ∙ sym
    (ap (λ b. b && not (has_ia (ias_content ias) key))
    (lt-ltb (length (ias_content ias)) IA_LIMIT (subst (λ n. n < IA_LIMIT) (sym (length-map ias ia_content)) few)))

-- ---- the same net

abbrev net_of : ℕ → ℕ → Net6
net_of number len = record { ip = record { number = number }; len = len }

pub net_is : (net : Net6) (item : Item6) → is_of_net net item ≡ true → item.net ≡ net
net_is net item e =
    let parts = and_parts (eqb item.net.ip.number net.ip.number) (eqb item.net.len net.len) e in
    ap (λ number. net_of number item.net.len) (eqb-true _ _ parts.0) ∙ ap (net_of net.ip.number) (eqb-true _ _ parts.1)

is_own_net : (item : Item6) → is_of_net item.net item ≡ true
is_own_net item = and_from _ _ (eq-eqb item.net.ip.number item.net.ip.number refl) (eq-eqb item.net.len item.net.len refl)

pub other_net : (net : Net6) (item : Item6) → is_of_net net item ≡ false → item.net ≢ net
other_net net item e same = let own : is_of_net net item ≡ true = subst (λ n. is_of_net n item ≡ true) same (is_own_net item) in both_ways _ e own

not_that_net : (net : Net6) (item : Item6) → item.net ≢ net → is_of_net net item ≡ false
not_that_net net item other = of_test (is_of_net net item) (λ is. other (net_is net item is))

-- an item may come after these of its IA
pub record CanJoin (items : List Item6) (item : Item6) : Type 0 where
  pub few : length items < ITEM_LIMIT
  pub anew : AllByRecursion (λ other. other.net ≢ item.net) items

pub can_join : (items : List Item6) (item : Item6) → may_join items item ≡ true → CanJoin items item
can_join items item e =
    let parts = and_parts (ltb (length items) ITEM_LIMIT) (not (has_net items item.net)) e in
    record {
      few = ltb-true _ _ parts.0;
      anew = none_passes (is_of_net item.net) (λ other. other.net ≢ item.net) (other_net item.net) items (not-true _ parts.1);
    }

pub joins : (items : List Item6) (item : Item6) → CanJoin items item → may_join items item ≡ true
joins items item can =
    and_from (ltb (length items) ITEM_LIMIT) (not (has_net items item.net)) (lt-ltb _ _ can.few)
    (not_from_false _ (passes_none (is_of_net item.net) (λ other. other.net ≢ item.net) (not_that_net item.net) items can.anew))

-- ---- more items, and more IAs

abbrev pub UnlikeItems : Item6 → Item6 → Type 0
UnlikeItems one other = one.net ≢ other.net

abbrev pub UnlikeIas : IaLeaseContent → IaLeaseContent → Type 0
UnlikeIas one other = ia_key one ≢ ia_key other

-- what is known of IAs that a lease has
pub record AreIas (ias : List IaLeaseContent) : Type 0 where
  pub fit : FitsIas ias
  pub typed : AllByRecursion IsTypedIa ias

pub one_item : (kind : IaKind) (iaid : ℕ) (item : Item6) → IsItem kind item → FitsIa (record { kind = kind; iaid = iaid; items = item ∷ [] })
one_item kind iaid item is = record {
  some = omega arith;
  few = omega arith;
  each = (is.good, tt);
  unlike = pairs_from UnlikeItems (item ∷ []) (tt, tt);
}

pub ia_more : (ias : List IaLeaseContent) (ia : IaLeaseContent) → AreIas ias → CanBegin ias (ia_key ia) → FitsIa ia → IsTypedIa ia → AreIas (ias ++ ia ∷ [])
ia_more ias ia are can fits typed = record {
  fit = record {
    few = (let few = can.few in let long : length (ias ++ ia ∷ []) ≡ length ias + 1 = length-append ias (ia ∷ []) in omega (arith, few, long));
    each = all_join FitsIa ias (ia ∷ []) are.fit.each (fits, tt);
    unlike = pairs_from UnlikeIas (ias ++ ia ∷ []) (apart_more UnlikeIas ias ia (apart_from UnlikeIas ias are.fit.unlike) can.anew);
  };
  typed = all_join IsTypedIa ias (ia ∷ []) are.typed (typed, tt);
}

-- the IAs before the last one, and that one after them
pub front_are : (front : List IaLeaseContent) (ia : IaLeaseContent) → AreIas (front ++ ia ∷ []) → AreIas front
front_are front ia are = record {
  fit = record {
    few = (let few = are.fit.few in let long : length (front ++ ia ∷ []) ≡ length front + 1 = length-append front (ia ∷ []) in omega (arith, few, long));
    each = all_front FitsIa front (ia ∷ []) are.fit.each;
    unlike = pairs_from UnlikeIas front (apart_front UnlikeIas front (ia ∷ []) (apart_from UnlikeIas (front ++ ia ∷ []) are.fit.unlike));
  };
  typed = all_front IsTypedIa front (ia ∷ []) are.typed;
}

pub comes_after : (front : List IaLeaseContent) (ia : IaLeaseContent) (more : List IaLeaseContent) → AreIas (front ++ ia ∷ more) → CanBegin front (ia_key ia)
comes_after front ia more are = record {
  few =
      (let few = are.fit.few in let long : length (front ++ ia ∷ more)
      ≡ length front + suc (length more) = length-append front (ia ∷ more) in omega (arith, few, long));
  anew = apart_before UnlikeIas front ia more (apart_from UnlikeIas (front ++ ia ∷ more) are.fit.unlike);
  iaid = (all_rest IsTypedIa front (ia ∷ more) are.typed).0.iaid;
}

pub own_fits : (front : List IaLeaseContent) (ia : IaLeaseContent) (more : List IaLeaseContent) → AreIas (front ++ ia ∷ more) → FitsIa ia × IsTypedIa ia
own_fits front ia more are = ((all_rest FitsIa front (ia ∷ more) are.fit.each).0, (all_rest IsTypedIa front (ia ∷ more) are.typed).0)

abbrev pub ia_with : IaLeaseContent → Item6 → IaLeaseContent
ia_with ia item = record ia { items = ia.items ++ item ∷ [] }

joined_fits : (ia : IaLeaseContent) (item : Item6) → FitsIa ia → IsItem ia.kind item → CanJoin ia.items item → FitsIa (ia_with ia item)
joined_fits ia item fits is can = record {
  some = (let long : length (ia.items ++ item ∷ []) ≡ length ia.items + 1 = length-append ia.items (item ∷ []) in omega (arith, long));
  few = (let few = can.few in let long : length (ia.items ++ item ∷ []) ≡ length ia.items + 1 = length-append ia.items (item ∷ []) in omega (arith, few, long));
  each = all_join (FitsItem ia.kind) ia.items (item ∷ []) fits.each (is.good, tt);
  unlike = pairs_from UnlikeItems (ia.items ++ item ∷ []) (apart_more UnlikeItems ia.items item (apart_from UnlikeItems ia.items fits.unlike) can.anew);
}

joined_typed : (ia : IaLeaseContent) (item : Item6) → IsTypedIa ia → IsItem ia.kind item → IsTypedIa (ia_with ia item)
joined_typed ia item typed is =
    record { iaid = typed.iaid; items = all_join (λ (i : Item6). FitsIp6 i.net.ip) ia.items (item ∷ []) typed.items (is.typed, tt) }

-- the last IA with an item more
pub item_more : (front : List IaLeaseContent) (ia : IaLeaseContent) (item : Item6) → AreIas (front ++ ia ∷ []) → IsItem ia.kind item → CanJoin ia.items item
    → AreIas (front ++ ia_with ia item ∷ [])
item_more front ia item are is can =
    let own = own_fits front ia [] are in
    let after = comes_after front ia [] are in
    ia_more front (ia_with ia item) (front_are front ia are) (record { few = after.few; anew = after.anew; iaid = after.iaid })
    (joined_fits ia item own.0 is can) (joined_typed ia item own.1 is)
