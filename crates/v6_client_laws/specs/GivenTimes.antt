-- When a Reply has items renewed and rebound (RFC 8415, sections 14.2, 18.2.10.1 and 21.4). Times are in milliseconds.
use Rattle.std.specs.Prelude.{◌≡◌, ◌≢◌, ℕ, ◌+◌, ◌*◌, ◌⊎◌, List, max, Option, Some, None}
use Rattle.std.specs.List.{Contains}
use Rattle.v6_options.specs.declared.ia.ItemSaid.{ItemSaid}
use Rattle.v6_options.specs.Ias.{IaContent}
use Rattle.lease6_text.specs.declared.lease.Item6.{Item6}
use Rattle.v6_items.specs.declared.asks.IaAsk.{IaAsk}
use Rattle.v6_items.specs.Items.{asked_at, ias_of}
use Rattle.v6_items.specs.Reading.{ia_for, is_unbound, saids_of}
use Rattle.v6_items.specs.Taking.{Meeting, carried, t1_of, t2_of}
use Rattle.v6_client_laws.specs.GivenItems.{IsFirstOf}
use Rattle.v6_client_laws.specs.Least.{IsLeast}
use Rattle.v6_client_laws.specs.TakenItems.{IsPreferredFor, Takes, endless, second}

-- no time is shorter
abbrev pub least_time : ℕ
least_time = 10000

-- of a second: T1 is half and T2 four fifths of the shortest preferred lifetime (section 14.2)
abbrev pub t1_part : ℕ
t1_part = 500

abbrev pub t2_part : ℕ
t2_part = 800

-- the server says 0 seconds, and leaves it to the client
pub record IsLeft (said shortest part time : ℕ) : Type 0 where
  pub none : said ≡ 0
  pub ends : shortest ≢ endless
  pub is : time ≡ part * shortest

pub record IsTold (said time : ℕ) : Type 0 where
  pub some : said ≢ 0
  pub ends : said ≢ endless
  pub is : time ≡ second * said

abbrev pub IsTime : (said shortest part time : ℕ) → Type 0
IsTime said shortest part time = IsLeft said shortest part time ⊎ IsTold said time

-- what of the client's own items of an IA a Reply meets
abbrev pub met : Meeting → IaAsk → List Item6
met m ask = carried m.scope (is_unbound (ia_for ask m.ias)) (saids_of (ia_for ask m.ias)) (asked_at ask (ias_of m.kept))

-- a Reply brings items of an IA, and the shortest of their preferred lifetimes is of so many seconds
pub record Brings (m : Meeting) (ask : IaAsk) (ia : IaContent) (shortest : ℕ) : Type 0 where
  pub first : IsFirstOf ask.kind ask.iaid m.ias ia
  pub held : List Item6
  pub set : List ItemSaid
  pub takes : Takes m.at (met m ask) (saids_of (ia_for ask m.ias)) held set
  pub is_shortest : IsLeast (IsPreferredFor set) shortest

-- so of some IA that is asked for
pub record BringsSome (m : Meeting) (asks : List IaAsk) : Type 0 where
  pub ask : IaAsk
  pub asked : Contains asks ask
  pub ia : IaContent
  pub shortest : ℕ
  pub brings : Brings m ask ia shortest

pub record TellsT1 (m : Meeting) (asks : List IaAsk) (time : ℕ) : Type 0 where
  pub some : BringsSome m asks
  pub is : IsTime some.ia.t1 some.shortest t1_part time

pub record TellsT2 (m : Meeting) (asks : List IaAsk) (time : ℕ) : Type 0 where
  pub some : BringsSome m asks
  pub is : IsTime some.ia.t2 some.shortest t2_part time

-- the moment after the least of some times
pub record IsAfterLeast (at : ℕ) (P : ℕ → Type 0) (moment : ℕ) : Type 0 where
  pub time : ℕ
  pub least : IsLeast P time
  pub is : moment ≡ at + max time least_time

-- none where there is no such time
abbrev pub ComesAfter : (at : ℕ) → (P : ℕ → Type 0) → Option ℕ → Type 0
ComesAfter at P None = (time : ℕ) → P time → ⊥
ComesAfter at P (Some moment) = IsAfterLeast at P moment

-- T2 is the least of all IAs, and T1 the least of both. Where no IA brings items both stay.
pub record AreTimes (m : Meeting) (asks : List IaAsk) (t1 t2 : Option ℕ) : Type 0 where
  pub stay : (BringsSome m asks → ⊥) → (t1 ≡ t1_of m.kept) × (t2 ≡ t2_of m.kept)
  pub t1_comes : BringsSome m asks → ComesAfter m.at (λ time. TellsT1 m asks time ⊎ TellsT2 m asks time) t1
  pub t2_comes : BringsSome m asks → ComesAfter m.at (TellsT2 m asks) t2
