-- What is configured for the resolver (resolv.conf(5)).
use Rattle.std.specs.Prelude.{ℕ, List}
use Rattle.net_types.specs.declared.address.Ip4.{Ip4}

-- name servers, names to search in, and a domain: each counts where it isn't empty
pub record ResolverSettings : Type 0 where
  pub servers : List Ip4
  pub search : List (List ℕ)
  pub domain : List ℕ
