-- Any two shares of a plan.
use Rattle.std.proofs.Common.{◌≡◌, ℕ, ◌+◌, ◌-◌, ◌/◌, ◌^◌, ◌<◌, ◌≤◌, suc, List, [], ◌∷◌, length, get_or, true, refl, ap, ◌∙◌, arith}
use Rattle.std.specs.Prelude.{All, AllPairs, IsTrue}
use Rattle.std.specs.List.{list_all, AllPass}
use Rattle.std.proofs.Math.Nat.{add-mul-div_right, pow-le-pow_right}
use Rattle.std.proofs.lemmas.Bool.{and_parts, and_from, eq-eqb, eqb-true, eqb-false, not-true, not_from_false, ne_eqb, le-leb, lt-ltb}
use Rattle.std.proofs.lemmas.Nat.{pow_pos}
use Rattle.std.proofs.lemmas.List.Elements.{All-cons, All-nil, All-tail}
use Rattle.std.proofs.lemmas.List.Kept.{AllPairs-cons}
use Rattle.std.proofs.lemmas.List.Sums.{AllPass-from_list_all, list_all-from_AllPass}
use Rattle.net_types.specs.declared.address.Net6.{Net6}
use Rattle.net_types.specs.declared.address.Ip6.{Ip6}
use Rattle.prefix_share.specs.declared.share.Share.{Share}
use Rattle.prefix_share.specs.Subnets.{address_count, has_room, is_within, network_number, subnet_of}
use Rattle.prefix_share.specs.Rules.{go_together, is_plan}
use Rattle.prefix_share.specs.PlanLaws.{ObeyRules, PlansObey, HaveNoneInCommon, AreApart, FitThePrefix}
use Rattle.prefix_share.proofs.SubnetBits.{room_of, where_room}
use Rattle.prefix_share.proofs.SubnetNumbers.{two_pos}

pairs : (shares : List Share) → is_plan shares ≡ true → AllPairs (λ one other. go_together one other ≡ true) shares
pairs [] plan = λ i j d below inside. absurd (omega (arith, inside))
pairs (share ∷ shares) plan =
    let parts = and_parts _ _ plan in
    AllPairs-cons (λ one other. go_together one other ≡ true) share shares (AllPass-from_list_all (go_together share) shares (and_parts _ _ parts.0).1)
    (pairs shares parts.1)

rooms : (shares : List Share) → is_plan shares ≡ true → All (λ share. IsTrue (has_room share.hint share)) shares
rooms [] plan = All-nil (λ share. IsTrue (has_room share.hint share))
rooms (share ∷ shares) plan =
    let parts = and_parts _ _ plan in
    All-cons (λ one. IsTrue (has_room one.hint one)) share shares (and_parts (has_room share.hint share) (list_all (go_together share) shares) parts.0).0
    (rooms shares parts.1)

obeyed : (shares : List Share) → is_plan shares ≡ true → ObeyRules shares
obeyed shares plan = record {
  one_length = λ i j d below inside. eqb-true _ _ (and_parts _ _ (pairs shares plan i j d below inside)).0;
  unlike = λ i j d below inside. eqb-false _ _ (not-true _ (and_parts _ _ (pairs shares plan i j d below inside)).1);
  room = rooms shares plan;
}

-- what holds of the first and each later one, and of any two later ones, holds of any two
later : (R : Share → Share → Type 0) (share : Share) (shares : List Share) → AllPairs R (share ∷ shares) → AllPairs R shares
later R share shares holds = λ i j d below inside. holds (suc i) (suc j) d (omega (arith, below)) (omega (arith, inside))

from_first : (share : Share) (shares : List Share) → ObeyRules (share ∷ shares) → AllPass (go_together share) shares
from_first share shares obeys = λ k d inside.
    let some : 0 < suc k = omega arith in
    let whole : suc k < length (share ∷ shares) = omega (arith, inside) in
    and_from _ _ (eq-eqb _ _ (obeys.one_length 0 (suc k) d some whole)) (not_from_false _ (ne_eqb _ _ (obeys.unlike 0 (suc k) d some whole)))

plan_of : (shares : List Share) → ObeyRules shares → is_plan shares ≡ true
plan_of [] obeys = refl
plan_of (share ∷ shares) obeys =
    let room : has_room share.hint share ≡ true = obeys.room 0 share (omega arith) in
    let all = list_all-from_AllPass (go_together share) shares (from_first share shares obeys) in
    let rest = plan_of shares (record {
      one_length = later (λ one other. one.len ≡ other.len) share shares obeys.one_length;
      unlike = later (λ one other. one.sla ≡ other.sla → ⊥) share shares obeys.unlike;
      room = All-tail (λ one. IsTrue (has_room one.hint one)) share shares obeys.room;
    }) in
    and_from _ _ (and_from _ _ room all) rest

pub plans_obey : PlansObey
plans_obey shares = (obeyed shares, plan_of shares)

-- ---- two subnets

-- the subnet's place among those of its length
place_of : (prefix : Net6) (share : Share)
    → (subnet_of prefix share).ip.number / address_count share.len ≡ network_number prefix / address_count share.len + share.sla
place_of prefix share = add-mul-div_right (network_number prefix) share.sla (pow_pos (128 - share.len))

none_in_both : (prefix : Net6) (one other : Share) → one.len ≡ other.len → (one.sla ≡ other.sla → ⊥)
    → (ip : Ip6) → IsTrue (is_within ip (subnet_of prefix one)) → IsTrue (is_within ip (subnet_of prefix other)) → ⊥
none_in_both prefix one other same unlike ip first second =
    let left : ip.number / address_count one.len ≡ network_number prefix / address_count one.len + one.sla = eqb-true _ _ first ∙ place_of prefix one in
    let right : ip.number / address_count other.len ≡ network_number prefix / address_count other.len + other.sla =
    eqb-true _ _ second ∙ place_of prefix other in
    let counts : address_count one.len ≡ address_count other.len = ap address_count same in
    let lefts : ip.number / address_count one.len ≡ ip.number / address_count other.len = ap (λ n. ip.number / n) counts in
    let bases : network_number prefix / address_count one.len ≡ network_number prefix / address_count other.len = ap (λ n. network_number prefix / n) counts in
    unlike (omega (arith, left, right, lefts, bases))

pub are_apart : AreApart
are_apart prefix shares plan i j d below inside =
    apart (get_or shares i d) (get_or shares j d) (keep.one_length i j d below inside) (keep.unlike i j d below inside)
  where
    keep : ObeyRules shares
    keep = obeyed shares plan

    apart : (one other : Share) → one.len ≡ other.len → (one.sla ≡ other.sla → ⊥) → HaveNoneInCommon prefix one other
    apart one other same unlike =
        where_room (has_room prefix.len one) (subnet_of prefix one) _
        (λ here. where_room (has_room prefix.len other) (subnet_of prefix other) _
        (λ there. none_in_both prefix one other same unlike))

-- ---- prefixes as long as was asked for, or shorter

shorter : (prefix_len hint : ℕ) (share : Share) → prefix_len ≤ hint → has_room hint share ≡ true → has_room prefix_len share ≡ true
shorter prefix_len hint share short room =
    let told = room_of hint share room in
    let fewer : share.len - hint ≤ share.len - prefix_len = omega arith in
    let more : 2 ^ (share.len - hint) ≤ 2 ^ (share.len - prefix_len) = pow-le-pow_right two_pos fewer in
    let hinted = told.longer in
    let below = told.small in
    let longer : prefix_len ≤ share.len = omega (arith, hinted) in
    let small : share.sla < 2 ^ (share.len - prefix_len) = omega (arith, below, more) in
    and_from _ _ (le-leb _ _ longer) (lt-ltb _ _ small)

pub fit_the_prefix : FitThePrefix
fit_the_prefix prefix shares plan k d inside short =
    let share = get_or shares k d in
    let room : has_room prefix.len share ≡ true = shorter prefix.len share.hint share short (rooms shares plan k d inside) in
    rw room refl
