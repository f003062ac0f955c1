-- The items of an IA that count are the first four that may be held.
use Rattle.std.proofs.Common.{◌≡◌, ℕ, zero, suc, ◌<◌, List, [], ◌∷◌, ◌++◌, length, get_or, take, refl, sym, ap, arith}
use Rattle.std.specs.List.{Contains, filter_map}
use Rattle.std.proofs.lemmas.Bool.{both_ways, false_from_ne_true}
use Rattle.net_types.proofs.CaseLaws.{split}
use Rattle.v6_options.specs.declared.ia.IaKind.{IaKind}
use Rattle.v6_options.specs.declared.ia.ItemSaid.{ItemSaid}
use Rattle.v6_items.specs.Reading.{cleared, is_read, read_item}
use Rattle.v6_client_laws.specs.GivenItems as given
use Rattle.v6_client_laws.specs.GivenItems.{MayBeHeld, SoManyMay}
use Rattle.v6_client_laws.proofs.ItemTests.{may_decides}

-- ---- what is among elements

pub front_in : {X : Type 0} (x : X) (xs : List X) → Contains (x ∷ xs) x
front_in x xs = (0, omega arith, refl)

pub behind_in : {X : Type 0} (x : X) (xs : List X) (y : X) → Contains xs y → Contains (x ∷ xs) y
behind_in x xs y among = let less = among.1 in (suc among.0, omega (arith, less), among.2)

pub none_in : {X : Type 0} (x : X) → Contains [] x → ⊥
none_in x among = let less = among.1 in omega (arith, less)

pub middle_in : {X : Type 0} (before : List X) (x : X) (after : List X) → Contains (before ++ x ∷ after) x
middle_in [] x after = front_in x after
middle_in (y ∷ before) x after = behind_in y (before ++ x ∷ after) x (middle_in before x after)

-- ---- the first items

-- an item that may be held, before which fewer than so many may
pub record Picked (kind : IaKind) (n : ℕ) (items : List ItemSaid) (held : ItemSaid) : Type 0 where
  pub said : ItemSaid
  pub before : List ItemSaid
  pub after : List ItemSaid
  pub cut : items ≡ before ++ said ∷ after
  pub may : MayBeHeld kind said
  pub number : ℕ
  pub so_many : SoManyMay kind before number
  pub few : number < n
  pub is : held ≡ cleared kind said

abbrev At : {X : Type 0} → List X → ℕ → X → Type 0
At xs k x = (k < length xs) × (get_or xs k x ≡ x)

abbrev pub first_read : IaKind → ℕ → List ItemSaid → List ItemSaid
first_read kind n items = take n (filter_map (read_item kind) items)

passed : (kind : IaKind) (n : ℕ) (item : ItemSaid) (items : List ItemSaid) (held : ItemSaid) → (MayBeHeld kind item → ⊥)
    → Picked kind n items held → Picked kind n (item ∷ items) held
passed kind n item items held never p = record {
  said = p.said;
  before = item ∷ p.before;
  after = p.after;
  cut = ap (λ rest. item ∷ rest) p.cut;
  may = p.may;
  number = p.number;
  so_many = given.SoManyMay.no_more p.number item p.before never p.so_many;
  few = p.few;
  is = p.is;
}

counted : (kind : IaKind) (n : ℕ) (item : ItemSaid) (items : List ItemSaid) (held : ItemSaid) → MayBeHeld kind item
    → Picked kind n items held → Picked kind (suc n) (item ∷ items) held
counted kind n item items held may p = let few = p.few in record {
  said = p.said;
  before = item ∷ p.before;
  after = p.after;
  cut = ap (λ rest. item ∷ rest) p.cut;
  may = p.may;
  number = suc p.number;
  so_many = given.SoManyMay.one_more p.number item p.before may p.so_many;
  few = omega (arith, few);
  is = p.is;
}

pub picked : (kind : IaKind) (n : ℕ) (items : List ItemSaid) (held : ItemSaid) (k : ℕ) → At (first_read kind n items) k held
    → Picked kind n items held
picked kind zero items held k at = absurd (let less = at.0 in omega (arith, less))
picked kind (suc n) [] held k at = absurd (let less = at.0 in omega (arith, less))
picked kind (suc n) (item ∷ items) held k at =
    let step : At (first_read kind (suc n) (item ∷ items)) k held → Picked kind (suc n) (item ∷ items) held =
    split (is_read kind item)
    (λ e. rw e (first ((may_decides kind item).0 e) (λ j rest. picked kind n items held j rest) k))
    (λ e. rw e (λ rest. passed kind (suc n) item items held (λ may. both_ways (is_read kind item) e ((may_decides kind item).1 may))
    (picked kind (suc n) items held k rest))) in
    step at
  where
    first : MayBeHeld kind item → ((j : ℕ) → At (first_read kind n items) j held → Picked kind n items held) → (k : ℕ)
        → At (cleared kind item ∷ first_read kind n items) k held → Picked kind (suc n) (item ∷ items) held
    first may later zero at = record {
      said = item;
      before = [];
      after = items;
      cut = refl;
      may = may;
      number = 0;
      so_many = given.SoManyMay.none;
      few = omega arith;
      is = sym at.1;
    }
    first may later (suc k) at =
        let less = at.0 in
        counted kind n item items held may (later k (omega (arith, less), at.1))

-- ---- and back

pub kept : (kind : IaKind) (said : ItemSaid) (after : List ItemSaid) → MayBeHeld kind said → (before : List ItemSaid) (number : ℕ)
    → SoManyMay kind before number → (n : ℕ) → number < n → Contains (first_read kind n (before ++ said ∷ after)) (cleared kind said)
kept kind said after may before number so_many zero less = absurd (omega (arith, less))
kept kind said after may _ _ given.SoManyMay.none (suc n) less =
    let e = (may_decides kind said).1 may in rw e (front_in (cleared kind said) (first_read kind n after))
kept kind said after may _ _ (given.SoManyMay.one_more number other before counts more) (suc n) less =
    let e = (may_decides kind other).1 counts in
    let rest = kept kind said after may before number more n (omega (arith, less)) in
    rw e (behind_in (cleared kind other) (first_read kind n (before ++ said ∷ after)) (cleared kind said) rest)
kept kind said after may _ _ (given.SoManyMay.no_more number other before never more) (suc n) less =
    let e = false_from_ne_true (is_read kind other) (λ t. never ((may_decides kind other).0 t)) in
    let rest = kept kind said after may before number more (suc n) less in
    rw e rest
