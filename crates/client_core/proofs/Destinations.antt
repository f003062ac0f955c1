-- Networks, and the destinations of classless routes, are such as a route can lead to.
use Rattle.std.proofs.Common.{ℕ, zero, suc, ◌≡◌, ◌+◌, ◌-◌, ◌*◌, ◌/◌, ◌%◌, ◌^◌, ◌≤◌, Bool, true, false, cond, List, [], ◌∷◌, length, Option, Some, None, refl, sym, ap, subst, ◌∙◌, arith}
use Rattle.std.specs.Prelude.{IfSome, nat_lt}
use Rattle.std.specs.List.{AllByRecursion}
use Rattle.std.specs.Option.{option_map}
use Rattle.std.specs.Global.{Vec}
use Rattle.std.proofs.lemmas.Nat.{pow_pos, div-add-mod', mod-mul-add}
use Rattle.net_types.specs.declared.address.Net4.{Net4}
use Rattle.net_types.specs.Networks.{network_of}
use Rattle.v4_options.specs.declared.routes.ClasslessRoute.{ClasslessRoute}
use Rattle.v4_options.specs.Routes.{sent_bytes, route_of, has_route, routes_after, all_routes, routes_in}
use Rattle.client_core.specs.Routing.{IsDestination, HasDestination}

no_remainder : (n k : ℕ) → (n - n % 2 ^ k) % 2 ^ k ≡ 0
no_remainder n k =
    let whole : n / 2 ^ k * 2 ^ k + n % 2 ^ k ≡ n = div-add-mod' n (2 ^ k) in
    let same : n - n % 2 ^ k ≡ n / 2 ^ k * 2 ^ k + 0 = omega arith in
    ap (λ m. m % 2 ^ k) same ∙ mod-mul-add (n / 2 ^ k) (2 ^ k) 0 (pow_pos k)

-- the network of a net
network_fits : (net : Net4) → net.len ≤ 32 → IsDestination (network_of net)
network_fits net prefix = record { prefix = prefix; clear = no_remainder net.ip.number (32 - net.len) }

-- ---- the routes of a value

more_lead : (route : ClasslessRoute) (others : Option (List ClasslessRoute)) → HasDestination route
    → IfSome others (AllByRecursion HasDestination) → IfSome (option_map (λ routes. route ∷ routes) others) (AllByRecursion HasDestination)
more_lead route None leads others = tt
more_lead route (Some routes) leads others = (leads, others)

narrow : (width : ℕ) (rest : List ℕ) → has_route width rest ≡ true → width ≤ 32
narrow width rest has = grind (arith)

front_leads : (has : Bool) (width : ℕ) (rest : List ℕ) (others : Option (List ClasslessRoute)) → has_route width rest ≡ has
    → IfSome others (AllByRecursion HasDestination)
    → IfSome (cond has (option_map (λ routes. route_of width rest ∷ routes) others) None) (AllByRecursion HasDestination)
front_leads true width rest others is lead = more_lead (route_of width rest) others (network_fits _ (narrow width rest is)) lead
front_leads false width rest others is lead = tt

after_lead : (skip : ℕ) (value : List ℕ) → IfSome (routes_after skip value) (AllByRecursion HasDestination)
after_lead skip [] = tt
after_lead (suc k) (b ∷ rest) = after_lead k rest
after_lead zero (width ∷ rest) =
    front_leads (has_route width rest) width rest (routes_after (sent_bytes width + 4) rest) refl (after_lead (sent_bytes width + 4) rest)

some_lead : (some : Bool) (routes : Option (List ClasslessRoute)) → IfSome routes (AllByRecursion HasDestination)
    → IfSome (cond some routes None) (AllByRecursion HasDestination)
some_lead true routes lead = lead
some_lead false routes lead = tt

routes_lead : (value : List ℕ) → IfSome (routes_in value) (AllByRecursion HasDestination)
unfolding all_routes
routes_lead value = some_lead (nat_lt 0 (length value)) (all_routes value) (after_lead 0 value)

pub leads_in : (routes : Option (Vec ClasslessRoute)) (value : List ℕ) → option_map (λ all. all.items) routes ≡ routes_in value
    → IfSome routes (λ all. AllByRecursion HasDestination all.items)
leads_in None value is = tt
leads_in (Some all) value is = subst (λ (routes : Option (List ClasslessRoute)). IfSome routes (AllByRecursion HasDestination)) (sym is) (routes_lead value)
