-- The bits of subnets: the prefix's, then the SLA id, then zeros.
use Rattle.std.proofs.Common.{◌≡◌, ℕ, ◌+◌, ◌*◌, ◌-◌, ◌/◌, ◌%◌, ◌^◌, ◌<◌, ◌≤◌, Bool, true, false, refl, sym, ap, ◌∙◌, arith}
use Rattle.std.specs.Prelude.{IfSome, Some, None, IsTrue, if◌then◌else◌}
use Rattle.std.proofs.Math.Nat.{pow-le-pow_right, mul-mod_left, mul-div_cancel, div-div-eq-div-mul}
use Rattle.std.proofs.lemmas.Bool.{and_parts, leb-true, ltb-true, eqb-true, eq-eqb}
use Rattle.std.proofs.lemmas.Nat.{div-mul-add, mod-mul-add, pow_pos}
use Rattle.net_types.specs.declared.address.Ip6.{Ip6}
use Rattle.net_types.specs.declared.address.Net6.{Net6}
use Rattle.prefix_share.specs.declared.share.Share.{Share}
use Rattle.prefix_share.specs.Subnets.{address_count, has_room, network_number, subnet_of, subnet_in, is_within}
use Rattle.prefix_share.specs.SubnetLaws.{HasBits, HaveTheirBits, LieWithin}
use Rattle.prefix_share.proofs.SubnetNumbers.{without_rest, counts, shifted_below, sum_fits, two_pos}

-- what a prefix with room for a share tells of their lengths
pub record Room (prefix_len : ℕ) (share : Share) : Type 0 where
  pub longer : prefix_len ≤ share.len
  pub small : share.sla < 2 ^ (share.len - prefix_len)

pub room_of : (prefix_len : ℕ) (share : Share) → has_room prefix_len share ≡ true → Room prefix_len share
room_of prefix_len share room =
    let both = and_parts _ _ room in
    record { longer = leb-true _ _ both.0; small = ltb-true _ _ both.1 }

-- a subnet's number: subnets of the prefix before it, and its own place
numbered : (prefix : Net6) (share : Share) → share.len ≤ 128 → Room prefix.len share
    → (subnet_of prefix share).ip.number ≡ (prefix.ip.number / address_count prefix.len * 2 ^ (share.len - prefix.len) + share.sla) * address_count share.len
numbered prefix share most room =
    let d = address_count share.len in
    let e = 2 ^ (share.len - prefix.len) in
    let q = prefix.ip.number / address_count prefix.len in
    let parts : network_number prefix ≡ q * address_count prefix.len = without_rest prefix.ip.number _ in
    let all : q * address_count prefix.len ≡ q * (e * d) = ap (λ n. q * n) (counts prefix.len share.len room.longer most) in
    omega (arith, parts, all)

leading : (prefix : Net6) (share : Share) → share.len ≤ 128 → Room prefix.len share
    → (subnet_of prefix share).ip.number / address_count prefix.len ≡ prefix.ip.number / address_count prefix.len
leading prefix share most room =
    ap (λ n. (n + share.sla * address_count share.len) / address_count prefix.len) (without_rest prefix.ip.number (address_count prefix.len))
    ∙ div-mul-add (prefix.ip.number / address_count prefix.len) (address_count prefix.len) (share.sla * address_count share.len)
    (shifted_below share.sla prefix.len share.len room.longer most room.small)

pub bits : (prefix : Net6) (share : Share) → share.len ≤ 128 → Room prefix.len share → HasBits prefix share (subnet_of prefix share)
bits prefix share most room = record {
  leading = leading prefix share most room;
  added = ap (λ n. n % e) (ap (λ n. n / d) number ∙ mul-div_cancel (q * e + share.sla) some) ∙ mod-mul-add q e share.sla room.small;
  rest = ap (λ n. n % d) number ∙ mul-mod_left (q * e + share.sla) d;
}
  where
    d : ℕ
    d = address_count share.len

    e : ℕ
    e = 2 ^ (share.len - prefix.len)

    q : ℕ
    q = prefix.ip.number / address_count prefix.len

    some : 0 < d
    some = pow_pos (128 - share.len)

    number : (subnet_of prefix share).ip.number ≡ (q * e + share.sla) * d
    number = numbered prefix share most room

-- the prefix's part of an address is the front of the subnet's
front_of : (n prefix_len len : ℕ) → prefix_len ≤ len → len ≤ 128 → n / address_count len / 2 ^ (len - prefix_len) ≡ n / address_count prefix_len
front_of n prefix_len len longer most =
    let all : address_count len * 2 ^ (len - prefix_len) ≡ address_count prefix_len = (let whole = counts prefix_len len longer most in omega (arith, whole)) in
    div-div-eq-div-mul n (address_count len) (2 ^ (len - prefix_len)) ∙ ap (λ c. n / c) all

pub within : (prefix : Net6) (share : Share) → share.len ≤ 128 → Room prefix.len share
    → (ip : Ip6) → IsTrue (is_within ip (subnet_of prefix share)) → IsTrue (is_within ip prefix)
within prefix share most room ip inside =
    let same : ip.number / address_count share.len ≡ (subnet_of prefix share).ip.number / address_count share.len = eqb-true _ _ inside in
    eq-eqb _ _ (sym (front_of ip.number prefix.len share.len room.longer most)
    ∙ ap (λ n. n / 2 ^ (share.len - prefix.len)) same
    ∙ front_of (subnet_of prefix share).ip.number prefix.len share.len room.longer most
    ∙ leading prefix share most room)

-- ---- the number as it is computed

-- the SLA id's bits are not shifted out
pub shift_kept : (prefix_len : ℕ) (share : Share) → share.len ≤ 128 → Room prefix_len share
    → share.sla * 2 ^ (128 - share.len) % 2 ^ 128 ≡ share.sla * 2 ^ (128 - share.len)
shift_kept prefix_len share most room =
    let below = shifted_below share.sla prefix_len share.len room.longer most room.small in
    let fewer : 128 - prefix_len ≤ 128 = omega arith in
    let all : 2 ^ (128 - prefix_len) ≤ 2 ^ 128 = pow-le-pow_right two_pos fewer in
    omega (arith, below, all)

pub sum_is_address : (prefix : Net6) (share : Share) (n s : ℕ) → prefix.ip.number < 2 ^ 128 → share.len ≤ 128 → has_room prefix.len share ≡ true
    → n ≡ network_number prefix → s ≡ share.sla → n + s * 2 ^ (128 - share.len) % 2 ^ 128 < 2 ^ 128
sum_is_address prefix share n s fits most has network sla =
    let room = room_of prefix.len share has in
    let longer = room.longer in
    let short : prefix.len ≤ 128 = omega (arith, longer) in
    let below = shifted_below share.sla prefix.len share.len room.longer most room.small in
    let sum = sum_fits prefix.ip.number (share.sla * 2 ^ (128 - share.len)) prefix.len fits short below in
    rw (network, sla, shift_kept prefix.len share most room) sum

pub answers : (prefix : Net6) (share : Share) (n s : ℕ) → share.len ≤ 128 → has_room prefix.len share ≡ true
    → n ≡ network_number prefix → s ≡ share.sla
    → Some (record { ip = record { number = n + s * 2 ^ (128 - share.len) % 2 ^ 128 }; len = share.len }) ≡ subnet_in prefix share
answers prefix share n s most has network sla =
    rw (network, sla, shift_kept prefix.len share most (room_of prefix.len share has), has) refl

-- ---- the laws

-- what holds of the subnet where there is room holds of the answer
pub where_room : (b : Bool) (net : Net6) (P : Net6 → Type 0) → (b ≡ true → P net) → IfSome (if b then Some net else None) P
where_room true net P holds = holds refl
where_room false net P holds = tt

pub have_their_bits : HaveTheirBits
have_their_bits prefix share fits =
    where_room (has_room prefix.len share) (subnet_of prefix share) (HasBits prefix share)
    (λ room. bits prefix share (let most = fits.most in omega (arith, most)) (room_of prefix.len share room))

pub lie_within : LieWithin
lie_within prefix share fits =
    where_room (has_room prefix.len share) (subnet_of prefix share) (λ net. (ip : Ip6) → IsTrue (is_within ip net) → IsTrue (is_within ip prefix))
    (λ room. within prefix share (let most = fits.most in omega (arith, most)) (room_of prefix.len share room))
