-- Classless routes (RFC 3442).
use Rattle.std.specs.Prelude.{ℕ, zero, suc, ◌+◌, ◌-◌, ◌/◌, List, [], ◌∷◌, ◌++◌, length, take, drop, replicate, Option, Some, None, nat_le, Bool, nat_lt, ◌&&◌, if◌then◌else◌}
use Rattle.std.specs.Option.{option_map}
use Rattle.net_types.specs.declared.address.Net4.{Net4}
use Rattle.net_types.specs.Networks.{network_of}
use Rattle.v4_options.specs.declared.routes.ClasslessRoute.{ClasslessRoute}
use Rattle.v4_options.specs.Numbers.{address}

-- how many bytes of a destination are sent, which holds its first `width` bits
abbrev pub sent_bytes : ℕ → ℕ
sent_bytes width = (width + 7) / 8

-- the network of the bytes that were sent; those that weren't are 0, and the bits past the width are cleared
abbrev pub network : ℕ → List ℕ → Net4
network width sent = network_of (record { ip = address (sent ++ replicate (4 - length sent) 0); len = width })

-- a width, the bytes of its destination, and the gateway
abbrev pub route_of : ℕ → List ℕ → ClasslessRoute
route_of width rest = record {
  dest = network width (take (sent_bytes width) rest);
  via = address (take 4 (drop (sent_bytes width) rest));
}

-- whether a route of this width stands before the end
abbrev pub has_route : ℕ → List ℕ → Bool
has_route width rest = nat_le width 32 && nat_le (sent_bytes width + 4) (length rest)

-- the routes that begin after so many bytes, to the end
abbrev pub routes_after : ℕ → List ℕ → Option (List ClasslessRoute)
routes_after skip [] = Some []
routes_after (suc k) (b ∷ rest) = routes_after k rest
routes_after zero (width ∷ rest) =
    if has_route width rest
    then option_map (λ routes. route_of width rest ∷ routes) (routes_after (sent_bytes width + 4) rest)
    else None

-- routes one after another to the end of the value
unfoldable pub all_routes : List ℕ → Option (List ClasslessRoute)
all_routes value = routes_after 0 value

-- one route or more
abbrev pub routes_in : List ℕ → Option (List ClasslessRoute)
routes_in value = if nat_lt 0 (length value) then all_routes value else None
