-- Classless routes are read back.
use Rattle.std.proofs.Common.{◌≡◌, ℕ, suc, true, ltb, ◌+◌, ◌≤◌, ◌++◌, List, [], ◌∷◌, length, take, drop, map, Some, refl, sym, ap, ◌∙◌, append_assoc, arith}
use Rattle.std.specs.Option.{option_map, option_and_then}
use Rattle.std.specs.List.{AllByRecursion}
use Rattle.std.proofs.lemmas.List.{length-append, take_at, drop_at}
use Rattle.std.proofs.lemmas.Nat.{from_be_bytes-to_be_bytes_4}
use Rattle.net_types.specs.Fields.{ip4_octets}
use Rattle.v4_options.specs.declared.routes.ClasslessRoute.{ClasslessRoute}
use Rattle.v4_options.specs.Numbers.{address}
use Rattle.v4_options.specs.Routes.{sent_bytes, network, route_of, all_routes, routes_in}
use Rattle.v4_options.proofs.RouteSteps.{one_route, no_routes}
use Rattle.granted_values.specs.AckValues.{SentRoute}
use Rattle.granted_values.specs.ValueTexts.{octets_of, route_text, routes_text, routes_value}
use Rattle.granted_values.specs.ReadBack.{if_any, route_given, FitsRoute}

same_octets : (width : ℕ) → width ≤ 32 → sent_bytes width ≡ octets_of width
same_octets width h = grind (arith, h)

module _ (route : SentRoute) (fits : FitsRoute route) (more : List ℕ) where
  abbrev rest : List ℕ
  rest = (route.sent ++ ip4_octets route.via) ++ more

  count : length route.sent ≡ sent_bytes route.width
  count = fits.sent ∙ sym (same_octets route.width fits.width)

  grouped : rest ≡ route.sent ++ (ip4_octets route.via ++ more)
  grouped = append_assoc route.sent (ip4_octets route.via) more

  front : take (sent_bytes route.width) rest ≡ route.sent
  front = ap (take (sent_bytes route.width)) grouped ∙ take_at route.sent (ip4_octets route.via ++ more) (sent_bytes route.width) count

  behind : drop (sent_bytes route.width) rest ≡ ip4_octets route.via ++ more
  behind = ap (drop (sent_bytes route.width)) grouped ∙ drop_at route.sent (ip4_octets route.via ++ more) (sent_bytes route.width) count

  room : sent_bytes route.width + 4 ≤ length rest
  room = omega (arith, count, ap length grouped, length-append route.sent (ip4_octets route.via ++ more))

  is_given : route_of route.width rest ≡ route_given route
  is_given = λ i. record {
    dest = network route.width (front i);
    via = (ap (λ (bytes : List ℕ). address (take 4 bytes)) behind ∙ (λ j. record { number = from_be_bytes-to_be_bytes_4 route.via.number fits.via j })) i;
  }

  pub one_back : all_routes (route_text route ++ more) ≡ option_map (λ routes. route_given route ∷ routes) (all_routes more)
  one_back =
      one_route (route.width ∷ rest) (omega arith) fits.width room
      ∙ (λ i. option_map (λ (routes : List ClasslessRoute). is_given i ∷ routes) (all_routes (drop 4 (behind i))))

all_back : (routes : List SentRoute) → AllByRecursion FitsRoute routes → all_routes (routes_text routes) ≡ Some (map route_given routes)
all_back [] fit = no_routes [] refl
all_back (route ∷ routes) fit =
    one_back route fit.0 (routes_text routes)
    ∙ ap (option_map (λ (others : List ClasslessRoute). route_given route ∷ others)) (all_back routes fit.1)

has_more : (n : ℕ) → ltb 0 (suc n) ≡ true
has_more n = grind arith

pub routes_back : (routes : List SentRoute) → AllByRecursion FitsRoute routes
    → option_and_then routes_in (routes_value routes) ≡ if_any (map route_given routes)
routes_back [] fit = refl
routes_back (first ∷ others) fit = rw has_more (all_back (first ∷ others) fit)
