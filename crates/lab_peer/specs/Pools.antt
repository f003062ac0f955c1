-- The addresses that a server gives, and for how long.
use Rattle.std.specs.Prelude.{ℕ, ◌-◌, Bool, not, ◌&&◌, nat_lt, nat_le, List, [], ◌∷◌, ◌++◌, map}
use Rattle.std.specs.List.{range_with_len}
use Rattle.net_types.specs.declared.address.Ip4.{Ip4}
use Rattle.server_data.specs.declared.framing.TheConstants.{SERVER}
use Rattle.lab_peer.specs.declared.pool.Pool.{Pool}
use Rattle.lab_peer.specs.declared.pool.TheConstants.{POOL_LIMIT}

abbrev pub in_pool : Ip4 → Pool → Bool
in_pool addr pool = nat_le pool.low.number addr.number && nat_le addr.number pool.high.number

-- from this number on, so many
abbrev pub addresses_from : (first count : ℕ) → List Ip4
addresses_from first count = map (λ number. record { number = number }) (range_with_len first count)

-- from the lowest to the highest one
abbrev pub addresses_of : Pool → List Ip4
addresses_of pool = addresses_from pool.low.number (pool.high.number - pool.low.number) ++ pool.high ∷ []

-- at least one address and at most 256, none of them the server's own, each for a second at least
abbrev pub is_pool : Pool → Bool
is_pool pool =
    nat_le pool.low.number pool.high.number && nat_lt (pool.high.number - pool.low.number) POOL_LIMIT
    && not (in_pool SERVER pool)
    && nat_lt 0 pool.lease
