-- What a server's message gives of an IA (RFC 8415, sections 18.2.10.1, 21.4, 21.6, 21.13 and 21.22), in other words
-- than the client reads it by.
use Rattle.std.specs.Prelude.{◌≡◌, ℕ, ◌+◌, ◌-◌, ◌*◌, ◌<◌, ◌≤◌, ◌^◌, ◌⊎◌, suc, List, [], ◌∷◌, ◌++◌, length, Some}
use Rattle.std.specs.List.{AllByRecursion, Contains}
use Rattle.net_types.specs.declared.address.Ip6.{Ip6}
use Rattle.net_types.specs.declared.address.Net6.{Net6}
use Rattle.v6_options.specs.declared.ia.IaKind.{IaKind}
use Rattle.v6_options.specs.declared.ia.IaKind.TheVariants.{Na, Pd}
use Rattle.v6_options.specs.declared.ia.ItemSaid.{ItemSaid}
use Rattle.v6_options.specs.Ias.{IaContent, ias_in}
use Rattle.v6_client.specs.V6Message.Replies.{Content6}
use Rattle.v6_items.specs.declared.asks.IaAsk.{IaAsk}

-- all went well (section 21.13)
abbrev pub success : ℕ
success = 0

-- the server has no binding of the IA (section 21.13)
abbrev pub no_binding : ℕ
no_binding = 3

-- so many items of an IA are held at most
abbrev pub most_items : ℕ
most_items = 4

-- so many bits a delegated prefix has
abbrev pub shortest_prefix : ℕ
shortest_prefix = 8

abbrev pub longest_prefix : ℕ
longest_prefix = 127

-- ---- items

-- a number whose bits in front of the last ones, `behind` of them, are `front`
pub record HasFront (number front behind : ℕ) : Type 0 where
  pub rest : ℕ
  pub fits : rest < 2 ^ behind
  pub whole : number ≡ front * 2 ^ behind + rest

-- an address that an interface may be given: neither of ::/8 nor of ff00::/8 nor of fe80::/10 (RFC 4291, section 2.4)
pub record IsAssignable (ip : Ip6) : Type 0 where
  pub not_reserved : HasFront ip.number 0 120 → ⊥
  pub not_multicast : HasFront ip.number 255 120 → ⊥
  pub not_link_local : HasFront ip.number 0x3fa 118 → ⊥

abbrev pub HasLen : IaKind → (len : ℕ) → Type 0
HasLen Na len = Unit {0}
HasLen Pd len = (shortest_prefix ≤ len) × (len ≤ longest_prefix)

-- an item that may be held (sections 21.6 and 21.22)
pub record MayBeHeld (kind : IaKind) (said : ItemSaid) : Type 0 where
  pub lifetimes : said.preferred ≤ said.valid
  pub address : IsAssignable said.net.ip
  pub len : HasLen kind said.net.len

-- a prefix without the bits past its length
pub record IsCleared (said held : Net6) : Type 0 where
  pub len : held.len ≡ said.len
  pub front : ℕ
  pub front_is : HasFront said.ip.number front (128 - said.len)
  pub number : held.ip.number ≡ front * 2 ^ (128 - said.len)

-- an address is held as it was said
abbrev pub IsHeldAs : IaKind → (said held : Net6) → Type 0
IsHeldAs Na said held = held ≡ said
IsHeldAs Pd said held = IsCleared said held

-- so many of these may be held
pub data SoManyMay (kind : IaKind) : List ItemSaid → ℕ → Type 0 where
  none : SoManyMay kind [] 0
  one_more : (n : ℕ) (said : ItemSaid) (items : List ItemSaid) → MayBeHeld kind said → SoManyMay kind items n
      → SoManyMay kind (said ∷ items) (suc n)
  no_more : (n : ℕ) (said : ItemSaid) (items : List ItemSaid) → (MayBeHeld kind said → ⊥) → SoManyMay kind items n
      → SoManyMay kind (said ∷ items) n

-- one of the first four items that may be held
pub record IsOfFirst (kind : IaKind) (items : List ItemSaid) (said : ItemSaid) : Type 0 where
  pub before : List ItemSaid
  pub after : List ItemSaid
  pub cut : items ≡ before ++ said ∷ after
  pub may : MayBeHeld kind said
  pub number : ℕ
  pub so_many : SoManyMay kind before number
  pub few : number < most_items

-- ---- IAs

-- an IA is told apart by its kind and its IAID (section 12)
pub record IsOf (kind : IaKind) (iaid : ℕ) (ia : IaContent) : Type 0 where
  pub kind_is : ia.kind ≡ kind
  pub iaid_is : ia.iaid ≡ iaid

-- the first one of a kind and an IAID
pub record IsFirstOf (kind : IaKind) (iaid : ℕ) (ias : List IaContent) (ia : IaContent) : Type 0 where
  pub before : List IaContent
  pub after : List IaContent
  pub cut : ias ≡ before ++ ia ∷ after
  pub is : IsOf kind iaid ia
  pub others : AllByRecursion (λ other. IsOf kind iaid other → ⊥) before

-- all went well with it, and T1 isn't after T2, where there is one (section 21.4)
pub record IsWell (ia : IaContent) : Type 0 where
  pub went : ia.status ≡ success
  pub ordered : (ia.t2 ≡ 0) ⊎ (ia.t1 ≤ ia.t2)

-- the item as it is held, with its lifetimes, of the first IA of a kind and an IAID
pub record GivesItem (kind : IaKind) (iaid : ℕ) (ias : List IaContent) (held : ItemSaid) : Type 0 where
  pub ia : IaContent
  pub first : IsFirstOf kind iaid ias ia
  pub well : IsWell ia
  pub said : ItemSaid
  pub among : IsOfFirst ia.kind ia.items said
  pub net : IsHeldAs ia.kind said.net held.net
  pub preferred : held.preferred ≡ said.preferred
  pub valid : held.valid ≡ said.valid

pub record GivesSome (kind : IaKind) (iaid : ℕ) (ias : List IaContent) : Type 0 where
  pub item : ItemSaid
  pub gives : GivesItem kind iaid ias item

-- the server knows nothing of the IA
pub record HasNoBinding (kind : IaKind) (iaid : ℕ) (ias : List IaContent) : Type 0 where
  pub ia : IaContent
  pub first : IsFirstOf kind iaid ias ia
  pub status : ia.status ≡ no_binding

-- ---- messages

-- it says something of an IA that is asked for, and all went well
pub record Serves (asks : List IaAsk) (message : Content6) : Type 0 where
  pub went : message.status ≡ success
  pub ask : IaAsk
  pub asked : Contains asks ask
  pub says : GivesSome ask.kind ask.iaid (ias_in message.options)
      ⊎ HasNoBinding ask.kind ask.iaid (ias_in message.options)

-- the server that a message is of, which a DUID tells: two bytes and at most 128 more (section 11.1)
pub record NamesServer (message : Content6) (server : List ℕ) : Type 0 where
  pub is : message.server ≡ Some server
  pub long : 2 ≤ length server
  pub short : length server ≤ 130
