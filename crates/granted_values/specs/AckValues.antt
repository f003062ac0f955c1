-- What a DHCPv4 server grants beside an address, each where it is said. Times are seconds.
use Rattle.std.specs.Prelude.{ℕ, List, Option}
use Rattle.net_types.specs.declared.address.Ip4.{Ip4}

-- a route as it is sent: the bits of its destination, those of its bytes that have some of them, and the gateway
pub record SentRoute : Type 0 where
  pub width : ℕ
  pub sent : List ℕ
  pub via : Ip4

pub record AckValues : Type 0 where
  pub mask : Option Ip4
  pub routers : List Ip4
  pub dns : List Ip4
  pub mtu : Option ℕ
  pub broadcast : Option Ip4
  pub ntp : List Ip4
  pub t1 : Option ℕ
  pub t2 : Option ℕ
  -- names, as a search list spells them
  pub search : Option (List ℕ)
  pub routes : List SentRoute
