-- What a DHCPv6 server says to a client, as plain records. Times are seconds.
use Rattle.std.specs.Prelude.{ℕ, Bool, List, Option}
use Rattle.net_types.specs.declared.address.Ip6.{Ip6}
use Rattle.net_types.specs.declared.address.Net6.{Net6}
use Rattle.v6_options.specs.declared.ia.IaKind.{IaKind}
use Rattle.v6_message.specs.declared.kind.ServerKind6.{ServerKind6}

-- how a request went, and a text for people
pub record StatusText : Type 0 where
  pub number : ℕ
  pub text : List ℕ

-- an address, as a net of length 128, or a prefix
pub record GivenItem : Type 0 where
  pub net : Net6
  pub preferred : ℕ
  pub valid : ℕ
  pub status : Option StatusText

pub record GivenIa : Type 0 where
  pub kind : IaKind
  pub iaid : ℕ
  pub t1 : ℕ
  pub t2 : ℕ
  pub status : Option StatusText
  pub items : List GivenItem

-- an Advertise or a Reply
pub record Reply6 : Type 0 where
  pub kind : ServerKind6
  pub xid : ℕ
  pub client : Option (List ℕ)
  pub server : Option (List ℕ)
  pub status : Option StatusText
  pub preference : Option ℕ
  pub rapid : Bool
  pub ias : List GivenIa
  pub dns : List Ip6
  -- names, as a search list spells them
  pub search : Option (List ℕ)
  pub sol_max : Option ℕ
