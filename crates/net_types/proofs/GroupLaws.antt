-- An IPv6 address and its eight groups.
use Rattle.std.proofs.Common.{◌≡◌, ℕ, zero, suc, ◌+◌, ◌-◌, ◌*◌, ◌/◌, ◌%◌, ◌^◌, ◌<◌, ◌≤◌, true, false, List, [], ◌∷◌, ◌++◌, length, get_or, replicate, sym, ap, ◌∙◌, subst, arith, inl, inr, pow-suc, length-append}
use Rattle.std.specs.Net.Addr.{segments_of}
use Rattle.std.specs.Net.Grammar.{IsDotted, IsGroup, IsGroupsAfter, IsElided, IsColonHex}
use Rattle.std.proofs.Math.Nat.{div-div-eq-div-mul, mul_assoc, pow-le-pow_right, pow-succ'}
use Rattle.std.proofs.lemmas.Int.Digits.{digits_value-lt}
use Rattle.std.proofs.lemmas.List.{length-replicate}
use Rattle.std.proofs.lemmas.Nat.{div-add-mod'}
use Rattle.net_types.specs.AddressText.{groups_of}
use Rattle.net_types.specs.Ip6Text.{joined_groups}
use Rattle.net_types.proofs.AllLaws.{all_join}
use Rattle.net_types.proofs.Ip6Marks.{AreGroups}

-- ---- what is spelled is eight numbers of sixteen bits

group_small : (group : List ℕ) (s : ℕ) → IsGroup group s → s < 65536
group_small group s is =
    let below = digits_value-lt 16 group is.0.0.1 in
    let some : 0 < 16 = omega arith in
    let most : 16 ^ length group ≤ 16 ^ 4 = pow-le-pow_right some is.1 in
    let same = is.0.1 in
    omega arith

dotted_small : (last octets : List ℕ) → IsDotted last octets → AreGroups (segments_of octets)
dotted_small last octets is =
    let first : is.a * 256 + is.b < 65536 = let p = is.fit in omega arith in
    let second : is.c * 256 + is.d < 65536 = let p = is.fit in omega arith in
    subst (λ os. AreGroups (segments_of os)) (sym is.value) (first, (second, tt))

groups_small : (ipv4 : _) (lead text segments : List ℕ) → IsGroupsAfter ipv4 lead text segments → AreGroups segments
groups_small ipv4 lead text [] is = tt
groups_small ipv4 lead text (s ∷ segments) is = elim is [
  | inl group ↦ (group_small group.0 s group.3, groups_small ipv4 (58 ∷ []) group.1 segments group.4)
  | inr dotted ↦ subst AreGroups (sym dotted.5) (dotted_small dotted.0 dotted.1 dotted.4)
]

zeros_small : (n : ℕ) → AreGroups (replicate n 0)
zeros_small zero = tt
zeros_small (suc n) = (omega arith, zeros_small n)

-- eight groups
pub record AreEight (groups : List ℕ) : Type 0 where
  pub eight : length groups ≡ 8
  pub small : AreGroups groups

elided_eight : (text segments : List ℕ) → IsElided text segments → AreEight segments
elided_eight text segments is =
    let room = is.room in
    let zeros : List ℕ = replicate (8 - length is.head - length is.tail) 0 in
    record {
      eight = ap length is.value ∙ simp (length-append, length-replicate) (omega arith);
      small = subst AreGroups (sym is.value)
          (all_join _ (is.head ++ zeros) is.tail
          (all_join _ is.head zeros (groups_small false [] is.head_text is.head is.head_groups) (zeros_small _))
          (groups_small true [] is.tail_text is.tail is.tail_groups));
    }

pub spelled_eight : (text segments : List ℕ) → IsColonHex text segments → AreEight segments
spelled_eight text segments is = elim is [
  | inl whole ↦ record { eight = whole.1; small = groups_small true [] text segments whole.0 }
  | inr elided ↦ elided_eight text segments elided
]

-- ---- a number and its groups

joined_high : (high : ℕ) (groups : List ℕ) → AreGroups groups → joined_groups high groups / 65536 ^ length groups ≡ high
joined_high high [] small = omega arith
joined_high high (group ∷ groups) small =
    let below : group < 65536 = small.0 in
    let here : (high * 65536 + group) / 65536 ≡ high = omega arith in
    ap (λ p. joined_groups high (group ∷ groups) / p) (pow-suc 65536 (length groups))
    ∙ sym (div-div-eq-div-mul (joined_groups high (group ∷ groups)) (65536 ^ length groups) 65536)
    ∙ ap (λ q. q / 65536) (joined_high (high * 65536 + group) groups small.1) ∙ here

low_group : (high group n : ℕ) → group < 65536 → n ≡ high * 65536 + group → n % 65536 ≡ group
low_group high group n small same = omega arith

cells : (P : List ℕ → Type 0) → ((a b c d e f g h : ℕ) → P (a ∷ b ∷ c ∷ d ∷ e ∷ f ∷ g ∷ h ∷ [])) → (groups : List ℕ) → length groups ≡ 8 → P groups
cells P all [] eight = absurd cc
cells P all (a ∷ []) eight = absurd cc
cells P all (a ∷ b ∷ []) eight = absurd cc
cells P all (a ∷ b ∷ c ∷ []) eight = absurd cc
cells P all (a ∷ b ∷ c ∷ d ∷ []) eight = absurd cc
cells P all (a ∷ b ∷ c ∷ d ∷ e ∷ []) eight = absurd cc
cells P all (a ∷ b ∷ c ∷ d ∷ e ∷ f ∷ []) eight = absurd cc
cells P all (a ∷ b ∷ c ∷ d ∷ e ∷ f ∷ g ∷ []) eight = absurd cc
cells P all (a ∷ b ∷ c ∷ d ∷ e ∷ f ∷ g ∷ h ∷ []) eight = all a b c d e f g h
cells P all (a ∷ b ∷ c ∷ d ∷ e ∷ f ∷ g ∷ h ∷ i ∷ more) eight = absurd cc

split_groups : (a b c d e f g h : ℕ) → AreGroups (a ∷ b ∷ c ∷ d ∷ e ∷ f ∷ g ∷ h ∷ [])
    → groups_of (joined_groups 0 (a ∷ b ∷ c ∷ d ∷ e ∷ f ∷ g ∷ h ∷ [])) ≡ a ∷ b ∷ c ∷ d ∷ e ∷ f ∷ g ∷ h ∷ []
split_groups a b c d e f g h small =
    let n : ℕ = joined_groups 0 (a ∷ b ∷ c ∷ d ∷ e ∷ f ∷ g ∷ h ∷ []) in
    let n1 : ℕ = joined_groups 0 (a ∷ []) in
    let n2 : ℕ = joined_groups 0 (a ∷ b ∷ []) in
    let n3 : ℕ = joined_groups 0 (a ∷ b ∷ c ∷ []) in
    let n4 : ℕ = joined_groups 0 (a ∷ b ∷ c ∷ d ∷ []) in
    let n5 : ℕ = joined_groups 0 (a ∷ b ∷ c ∷ d ∷ e ∷ []) in
    let n6 : ℕ = joined_groups 0 (a ∷ b ∷ c ∷ d ∷ e ∷ f ∷ []) in
    let n7 : ℕ = joined_groups 0 (a ∷ b ∷ c ∷ d ∷ e ∷ f ∷ g ∷ []) in
    let s1 = small.1 in
    let s2 = s1.1 in
    let s3 = s2.1 in
    let s4 = s3.1 in
    let s5 = s4.1 in
    let s6 = s5.1 in
    let s7 = s6.1 in
    let ga : n / 2 ^ 112 % 65536 ≡ a = low_group 0 a (n / 2 ^ 112) small.0 (joined_high n1 (b ∷ c ∷ d ∷ e ∷ f ∷ g ∷ h ∷ []) s1) in
    let gb : n / 2 ^ 96 % 65536 ≡ b = low_group n1 b (n / 2 ^ 96) s1.0 (joined_high n2 (c ∷ d ∷ e ∷ f ∷ g ∷ h ∷ []) s2) in
    let gc : n / 2 ^ 80 % 65536 ≡ c = low_group n2 c (n / 2 ^ 80) s2.0 (joined_high n3 (d ∷ e ∷ f ∷ g ∷ h ∷ []) s3) in
    let gd : n / 2 ^ 64 % 65536 ≡ d = low_group n3 d (n / 2 ^ 64) s3.0 (joined_high n4 (e ∷ f ∷ g ∷ h ∷ []) s4) in
    let ge : n / 2 ^ 48 % 65536 ≡ e = low_group n4 e (n / 2 ^ 48) s4.0 (joined_high n5 (f ∷ g ∷ h ∷ []) s5) in
    let gf : n / 2 ^ 32 % 65536 ≡ f = low_group n5 f (n / 2 ^ 32) s5.0 (joined_high n6 (g ∷ h ∷ []) s6) in
    let gg : n / 2 ^ 16 % 65536 ≡ g = low_group n6 g (n / 2 ^ 16) s6.0 (joined_high n7 (h ∷ []) s7) in
    let gh : n / 2 ^ 0 % 65536 ≡ h = low_group n7 h (n / 2 ^ 0) s7.0 (joined_high n [] tt) in
    cc

pub groups_joined : (groups : List ℕ) → AreEight groups → groups_of (joined_groups 0 groups) ≡ groups
groups_joined groups are = cells (λ gs. AreGroups gs → groups_of (joined_groups 0 gs) ≡ gs) split_groups groups are.eight are.small

joined_below : (high most : ℕ) (groups : List ℕ) → AreGroups groups → high < most → joined_groups high groups < most * 65536 ^ length groups
joined_below high most [] small below = omega arith
joined_below high most (group ∷ groups) small below =
    let here : group < 65536 = small.0 in
    let next : high * 65536 + group < most * 65536 = omega arith in
    let later : joined_groups (high * 65536 + group) groups < most * 65536 * 65536 ^ length groups =
    joined_below (high * 65536 + group) (most * 65536) groups small.1 next in
    subst (λ p. joined_groups (high * 65536 + group) groups < p) (grown (length groups)) later
  where
    grown : (k : ℕ) → most * 65536 * 65536 ^ k ≡ most * 65536 ^ suc k
    grown k = mul_assoc most 65536 (65536 ^ k) ∙ ap (λ p. most * p) (sym (pow-succ' 65536 k))

pub joined_range : (groups : List ℕ) → AreEight groups → joined_groups 0 groups < 2 ^ 128
joined_range groups are =
    let one : 0 < 1 = omega arith in
    let below : joined_groups 0 groups < 1 * 65536 ^ length groups = joined_below 0 1 groups are.small one in
    subst (λ k. joined_groups 0 groups < 1 * 65536 ^ k) are.eight below

next_group : (n m : ℕ) → n / (m * 65536) * 65536 + n / m % 65536 ≡ n / m
next_group n m = ap (λ q. q * 65536 + n / m % 65536) (sym (div-div-eq-div-mul n m 65536)) ∙ div-add-mod' (n / m) 65536

first_group : (n : ℕ) → n < 2 ^ 128 → 0 * 65536 + n / 2 ^ 112 % 65536 ≡ n / 2 ^ 112
first_group n small = omega arith

pub joined_whole : (n : ℕ) → n < 2 ^ 128 → joined_groups 0 (groups_of n) ≡ n
joined_whole n small =
    let a = first_group n small in
    let b = ap (λ x. x * 65536 + n / 2 ^ 96 % 65536) a ∙ next_group n (2 ^ 96) in
    let c = ap (λ x. x * 65536 + n / 2 ^ 80 % 65536) b ∙ next_group n (2 ^ 80) in
    let d = ap (λ x. x * 65536 + n / 2 ^ 64 % 65536) c ∙ next_group n (2 ^ 64) in
    let e = ap (λ x. x * 65536 + n / 2 ^ 48 % 65536) d ∙ next_group n (2 ^ 48) in
    let f = ap (λ x. x * 65536 + n / 2 ^ 32 % 65536) e ∙ next_group n (2 ^ 32) in
    let g = ap (λ x. x * 65536 + n / 2 ^ 16 % 65536) f ∙ next_group n (2 ^ 16) in
    let h = ap (λ x. x * 65536 + n / 2 ^ 0 % 65536) g ∙ next_group n (2 ^ 0) in
    let last : n / 1 ≡ n = omega arith in
    h ∙ last

-- the groups of a number are eight
pub groups_eight : (n : ℕ) → AreGroups (groups_of n)
groups_eight n = (omega arith, (omega arith, (omega arith, (omega arith, (omega arith, (omega arith, (omega arith, (omega arith, tt))))))))

pub group_at : (groups : List ℕ) → AreGroups groups → (i : ℕ) → get_or groups i 0 < 65536
group_at [] small i = omega arith
group_at (group ∷ groups) small zero = small.0
group_at (group ∷ groups) small (suc i) = group_at groups small.1 i
