-- The subnets of shares have a first address, and the shares of an IA fit as all do.
use Rattle.std.proofs.Common.{ℕ, ◌≡◌, ◌+◌, ◌-◌, ◌*◌, ◌/◌, ◌%◌, ◌^◌, ◌<◌, ◌≤◌, nat_eq, List, [], ◌∷◌, Some, sym, ap, subst, ◌∙◌, arith}
use Rattle.std.specs.Prelude.{IfSome}
use Rattle.std.specs.List.{AllByRecursion}
use Rattle.std.proofs.lemmas.Nat.{div-add-mod', pow-add}
use Rattle.net_types.proofs.CaseLaws.{gated}
use Rattle.net_types.specs.declared.address.Net6.{Net6}
use Rattle.prefix_share.specs.declared.share.Share.{Share}
use Rattle.prefix_share.specs.Subnets.{FitsShare, has_room, subnet_of, subnet_in}
use Rattle.prefix_share.proofs.SubnetBits.{bits, room_of, where_room}
use Rattle.settings.specs.declared.dhcp6_conf.ShareConf.{ShareConf}
use Rattle.settings.specs.Dhcp6Settings.{FitsShareConf}
use Rattle.client_model.specs.WantedRows.{shares_of}
use Rattle.iface_machines.specs.Shares.{IsSubnet}

subnets_fit : (prefix : Net6) (share : Share) → FitsShare share → IfSome (subnet_in prefix share) IsSubnet
subnets_fit prefix share fits =
    where_room (has_room prefix.len share) (subnet_of prefix share) IsSubnet
    (λ room. record { prefix = fits.most; clear = (bits prefix share (let most = fits.most in omega (arith, most)) (room_of prefix.len share room)).rest })

-- the subnet of a share has two addresses or more
pub shared_is_subnet : (prefix : Net6) (share : Share) (net : Net6) → FitsShare share → Some net ≡ subnet_in prefix share → IsSubnet net
shared_is_subnet prefix share net fits is = subst (λ found. IfSome found IsSubnet) (sym is) (subnets_fit prefix share fits)

-- so that its first address isn't its last one
pub first_isnt_last : (net : Net6) → IsSubnet net → net.ip.number < 2 ^ 128 → net.ip.number + 1 < 2 ^ 128
first_isnt_last net subnet fits =
    let half : ℕ = 2 ^ (127 - net.len) in
    let prefix : net.len ≤ 127 = subnet.prefix in
    let bits : 128 - net.len ≡ 1 + (127 - net.len) = omega (arith, prefix) in
    let size : 2 ^ (128 - net.len) ≡ 2 * half = ap (λ k. 2 ^ k) bits ∙ pow-add 2 1 (127 - net.len) in
    let clear : net.ip.number % 2 ^ (128 - net.len) ≡ 0 = subnet.clear in
    let whole : net.ip.number / 2 ^ (128 - net.len) * 2 ^ (128 - net.len) + net.ip.number % 2 ^ (128 - net.len) ≡ net.ip.number =
    div-add-mod' net.ip.number (2 ^ (128 - net.len)) in
    let product : net.ip.number / 2 ^ (128 - net.len) * 2 ^ (128 - net.len) ≡ net.ip.number / 2 ^ (128 - net.len) * (2 * half) =
    ap (λ d. net.ip.number / 2 ^ (128 - net.len) * d) size in
    omega (arith, clear, whole, product, fits)

pub own_shares_fit : (iaid : ℕ) (shares : List ShareConf) → AllByRecursion FitsShareConf shares → AllByRecursion FitsShareConf (shares_of iaid shares)
own_shares_fit iaid [] fit = tt
own_shares_fit iaid (share ∷ shares) fit =
    gated (AllByRecursion FitsShareConf) (nat_eq share.iaid iaid) (share ∷ shares_of iaid shares) (shares_of iaid shares)
    (fit.0, own_shares_fit iaid shares fit.1) (own_shares_fit iaid shares fit.1)
