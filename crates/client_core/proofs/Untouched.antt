-- An interface that isn't touched keeps the leases that it kept.
use Rattle.std.proofs.Common.{ℕ, ◌≡◌, ◌+◌, Bool, true, false, ◌||◌, cond, List, [], ◌∷◌, ◌++◌, get_or, take, map, Option, Some, None, option_and_then, nat_eq, refl, sym, ap, subst, ◌∙◌}
use Rattle.std.specs.Prelude.{find}
use Rattle.std.specs.List.{AllByRecursion}
use Rattle.std.proofs.lemmas.Bool.{eq-eqb, eqb-true}
use Rattle.std.proofs.lemmas.List.{take_more}
use Rattle.net_types.specs.declared.interface.IfIndex.{IfIndex}
use Rattle.net_types.proofs.AllLaws.{all_join, all_map}
use Rattle.net_types.proofs.CaseLaws.{split}
use Rattle.client_model.specs.declared.interfaces.Iface.{Iface}
use Rattle.client_model.specs.IfaceSteps.{index_of}
use Rattle.client_model.specs.Clients.{kept_lease, kept_lease6}
use Rattle.client_core.specs.declared.effects.Changes.{Changes}
use Rattle.client_core.specs.declared.effects.Changes.TheVariants.{Nothing, Leases, All}
use Rattle.client_core.specs.declared.effects.Resolver.{Resolver}
use Rattle.client_core.specs.declared.effects.Touched.{Touched}
use Rattle.client_core.specs.ToldParts.{all_told}
use Rattle.client_core.specs.Touched.{is_touched, Compares, KeepsLeases, KeepsShown, KeepsUntouched, LeavesBut, may_keep, may_show, noted}
use Rattle.client_core.proofs.InPlace.{Gone, next_of}
use Rattle.client_core.proofs.ToldLaws.{wanted_stays}

-- an interface that isn't among those touched keeps its leases where it goes
abbrev pub Keeps : (Iface → Iface) → List IfIndex → Iface → Type 0
Keeps go touched one = is_touched (index_of one) touched ≡ false → KeepsLeases one (go one)

-- ---- what the changes of an interface leave as it was

pub shown_stays : (changes : Changes) (old new : Iface) → LeavesBut changes old new → may_show changes ≡ false → KeepsShown old new
shown_stays Nothing old new leaves none = leaves.0
shown_stays Leases old new leaves none = leaves
shown_stays All old new leaves none = absurd cc

pub leases_stay : (changes : Changes) (old new : Iface) → LeavesBut changes old new → may_keep changes ≡ false → KeepsLeases old new
leases_stay Nothing old new leaves none = leaves.1
leases_stay Leases old new leaves none = absurd cc
leases_stay All old new leaves none = absurd cc

-- ---- those noted

first_none : (touched more : List IfIndex) (index : ℕ) → is_touched index (touched ++ more) ≡ false → is_touched index touched ≡ false
first_none [] more index none = refl
first_none (other ∷ touched) more index none =
    split (nat_eq other.number index)
    (λ same. absurd (cc_true (ap (λ (b : Bool). b || is_touched index (touched ++ more)) (sym same) ∙ none)))
    (λ apart. ap (λ (b : Bool). b || is_touched index touched) apart
    ∙ first_none touched more index (ap (λ (b : Bool). b || is_touched index (touched ++ more)) (sym apart) ∙ none))
  where
    cc_true : true ≡ false → ⊥
    cc_true e = cc

last_one : (touched : List IfIndex) (last : IfIndex) (index : ℕ) → last.number ≡ index → is_touched index (touched ++ last ∷ []) ≡ true
last_one [] last index same = ap (λ (b : Bool). b || false) (eq-eqb last.number index same)
last_one (other ∷ touched) last index same =
    split (nat_eq other.number index) (λ here. ap (λ (b : Bool). b || is_touched index (touched ++ last ∷ [])) here)
    (λ apart. ap (λ (b : Bool). b || is_touched index (touched ++ last ∷ [])) apart ∙ last_one touched last index same)

new_keeps : (touched : List IfIndex) (is_one : Bool) (index : IfIndex) (iface new : Iface) → index.number ≡ index_of iface
    → (is_one ≡ false → KeepsLeases iface new) → is_touched (index_of iface) (touched ++ noted is_one index) ≡ false
    → KeepsLeases iface new
new_keeps touched false index iface new same kept none = kept refl
new_keeps touched true index iface new same kept none =
    let never : true ≡ false = sym (last_one touched index (index_of iface) same) ∙ none in absurd cc

pub untouched_more : (go : Iface → Iface) → ((one : Iface) → (go one).managed ≡ one.managed) → (xs ys : List Iface) (i : ℕ) (d new : Iface)
    (is_one : Bool) (touched more : List IfIndex) → Gone go xs ys i → new ≡ go (get_or ys i d) → more ≡ touched ++ noted is_one new.managed.spec.index
    → (is_one ≡ false → KeepsLeases (get_or ys i d) new)
    → AllByRecursion (Keeps go touched) (take i xs) → AllByRecursion (Keeps go more) (take (i + 1) xs)
untouched_more go same xs ys i d new is_one touched more gone goes adds kept all =
    let x : Iface = get_or xs i d in
    let next : get_or ys i d ≡ x = next_of go xs ys i d gone in
    let is : new ≡ go x = goes ∙ ap go next in
    let index : new.managed.spec.index.number ≡ index_of x = ap (λ (one : Iface). index_of one) is ∙ ap (λ m. m.spec.index.number) (same x) in
    let longer : List IfIndex = touched ++ noted is_one new.managed.spec.index in
    let here : Keeps go longer x =
    λ none. subst (λ (one : Iface). KeepsLeases x one) is
    (new_keeps touched is_one new.managed.spec.index x new index (λ no. subst (λ (one : Iface). KeepsLeases one new) next (kept no)) none) in
    subst (λ (ts : List IfIndex). AllByRecursion (Keeps go ts) (take (i + 1) xs)) (sym adds)
    (subst (λ (zs : List Iface). AllByRecursion (Keeps go longer) zs) (sym (take_more xs i d gone.at))
    (all_join (Keeps go longer) (take i xs) (x ∷ [])
    (all_map (Keeps go touched) (Keeps go longer)
    (λ one keeps none. keeps (first_none touched (noted is_one new.managed.spec.index) (index_of one) none)) (take i xs) all)
    (here, tt)))

-- ---- the leases of an interface that is found by its number

-- what is found by a number, in a list of which the first is the one or isn't
abbrev found_in : ℕ → List Iface → Option Iface
found_in index all = find (λ (one : Iface). nat_eq (index_of one) index) all

module _ {X : Type 0} (of : Iface → Option X) (kept : ℕ → List Iface → Option X) (none : (index : ℕ) → kept index [] ≡ None)
    (some : (index : ℕ) (one : Iface) (others : List Iface) → kept index (one ∷ others) ≡ cond (nat_eq (index_of one) index) (of one) (kept index others)) where
  kept_all : (go : Iface → Iface) → ((one : Iface) → (go one).managed ≡ one.managed) → (touched : List IfIndex) (all : List Iface)
      → AllByRecursion (λ one. is_touched (index_of one) touched ≡ false → of (go one) ≡ of one) all
      → (index : ℕ) → is_touched index touched ≡ false → kept index (map go all) ≡ kept index all
  kept_all go same touched [] keep index away = refl
  kept_all go same touched (one ∷ all) keep index away =
      let rest : Option X = kept index all in
      let gone : Option X = kept index (map go all) in
      some index (go one) (map go all)
      ∙ ap (λ m. cond (nat_eq m.spec.index.number index) (of (go one)) gone) (same one)
      ∙ split (nat_eq (index_of one) index)
      (λ here. ap (λ (b : Bool). cond b (of (go one)) gone) here
      ∙ keep.0 (ap (λ (n : ℕ). is_touched n touched) (eqb-true (index_of one) index here) ∙ away)
      ∙ sym (ap (λ (b : Bool). cond b (of one) rest) here))
      (λ apart. ap (λ (b : Bool). cond b (of (go one)) gone) apart ∙ kept_all go same touched all keep.1 index away
      ∙ sym (ap (λ (b : Bool). cond b (of one) rest) apart))
      ∙ sym (some index one all)

  first_found : (b : Bool) (one : Iface) (others : List Iface) (index : ℕ) → kept index others ≡ option_and_then of (found_in index others)
      → cond b (of one) (kept index others) ≡ option_and_then of (cond b (Some one) (found_in index others))
  first_found true one others index more = refl
  first_found false one others index more = more

  kept_found : (index : ℕ) (all : List Iface) → kept index all ≡ option_and_then of (found_in index all)
  kept_found index [] = none index
  kept_found index (one ∷ others) = some index one others ∙ first_found (nat_eq (index_of one) index) one others index (kept_found index others)

  kept_by_none : (index : ℕ) (all : List Iface) → None ≡ found_in index all → None ≡ kept index all
  kept_by_none index all nowhere = ap (option_and_then of) nowhere ∙ sym (kept_found index all)

  kept_by_one : (index : ℕ) (all : List Iface) (one : Iface) → Some one ≡ found_in index all → of one ≡ kept index all
  kept_by_one index all one found = ap (option_and_then of) found ∙ sym (kept_found index all)

-- ---- all that a turn leaves as it was

pub untouched_all : (go : Iface → Iface) → ((one : Iface) → (go one).managed ≡ one.managed) → (touched : Touched) (all : List Iface)
    → AllByRecursion (Keeps go touched.ifaces.items) all → Compares touched.resolver (all_told all) (all_told (map go all))
    → KeepsUntouched touched all (map go all)
untouched_all go same touched all keep tells = record {
  kept4 = kept_all (λ one. one.dhcp4.kept) kept_lease (λ index. refl) (λ index one others. refl) go same touched.ifaces.items all
      (all_map (Keeps go touched.ifaces.items) (λ one. is_touched (index_of one) touched.ifaces.items ≡ false → (go one).dhcp4.kept ≡ one.dhcp4.kept)
      (λ one keeps away. (keeps away).kept4) all keep);
  kept6 = kept_all (λ one. one.dhcp6.kept) kept_lease6 (λ index. refl) (λ index one others. refl) go same touched.ifaces.items all
      (all_map (Keeps go touched.ifaces.items) (λ one. is_touched (index_of one) touched.ifaces.items ≡ false → (go one).dhcp6.kept ≡ one.dhcp6.kept)
      (λ one keeps away. (keeps away).kept6) all keep);
  tells = tells;
  resolver = λ unchanged. wanted_stays all (map go all) (subst (λ (r : Resolver). Compares r (all_told all) (all_told (map go all))) unchanged tells);
}

pub kept4_by_none : (index : ℕ) (all : List Iface) → None ≡ found_in index all → None ≡ kept_lease index all
kept4_by_none index all nowhere = kept_by_none (λ one. one.dhcp4.kept) kept_lease (λ index. refl) (λ index one others. refl) index all nowhere

pub kept4_by_one : (index : ℕ) (all : List Iface) (one : Iface) → Some one ≡ found_in index all → one.dhcp4.kept ≡ kept_lease index all
kept4_by_one index all one found = kept_by_one (λ one. one.dhcp4.kept) kept_lease (λ index. refl) (λ index one others. refl) index all one found

pub kept6_by_none : (index : ℕ) (all : List Iface) → None ≡ found_in index all → None ≡ kept_lease6 index all
kept6_by_none index all nowhere = kept_by_none (λ one. one.dhcp6.kept) kept_lease6 (λ index. refl) (λ index one others. refl) index all nowhere

pub kept6_by_one : (index : ℕ) (all : List Iface) (one : Iface) → Some one ≡ found_in index all → one.dhcp6.kept ≡ kept_lease6 index all
kept6_by_one index all one found = kept_by_one (λ one. one.dhcp6.kept) kept_lease6 (λ index. refl) (λ index one others. refl) index all one found
