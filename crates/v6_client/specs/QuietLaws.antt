-- What is so of a client where a call has no news.
use Rattle.std.specs.Prelude.{◌≡◌, ℕ, None}
use Rattle.net_types.specs.declared.address.Ip6.{Ip6}
use Rattle.v6_message.specs.Replies.{Content6}
use Rattle.v6_client.specs.declared.states.Carrier6.TheVariants.{Up}
use Rattle.v6_client.specs.declared.states.News6.TheVariants as news
use Rattle.v6_client.specs.declared.states.Tell6.{Tell6}
use Rattle.v6_client.specs.Calls.{Hears, IsCarried, IsContested, IsTicked, rebind_step, release_step}
use Rattle.v6_client.specs.Clients.{ClientContent, held_of}
use Rattle.v6_client.specs.Moves.{IsStep6, OutContent}
use Rattle.v6_client.specs.Runs.{Turned6, carrier_turned, contested_turned, hears_turned, rebind_turned, release_turned, tick_turned}

-- the lease that is kept and the one that is held are as before
abbrev pub KeepsLeases : (old new : ClientContent) → Type 0
KeepsLeases old new = (new.kept ≡ old.kept) × (held_of new ≡ held_of old)

-- a change of either is told
abbrev pub TellsChange : (old new : ClientContent) → OutContent → Type 0
TellsChange old new out = out.news ≡ news.Nothing → KeepsLeases old new

abbrev pub TicksTell : Type 0
TicksTell =
    (c new : ClientContent) (at salt : ℕ) (out : OutContent) → IsTicked at salt c new out → TellsChange c new out

abbrev pub MessagesTell : Type 0
MessagesTell =
    (c new : ClientContent) (message : Content6) (at salt : ℕ) (out : OutContent) → Hears at salt message c new out
    → TellsChange c new out

abbrev pub DuplicatesTell : Type 0
DuplicatesTell =
    (c new : ClientContent) (address : Ip6) (at salt : ℕ) (out : OutContent) → IsContested address at salt c new out
    → TellsChange c new out

abbrev pub BeginsTell : Type 0
BeginsTell = (c new : ClientContent) (at salt : ℕ) (out : OutContent) → IsCarried Up at salt c new out
    → TellsChange c new out

abbrev pub RebindsTell : Type 0
RebindsTell = (c new : ClientContent) (at salt : ℕ) (out : OutContent) → IsStep6 (rebind_step at salt c) None c new out
    → TellsChange c new out

abbrev pub ReleasesTell : Type 0
ReleasesTell =
    (c new : ClientContent) (tell : Tell6) (at salt : ℕ) (out : OutContent)
    → IsStep6 (release_step tell at salt c) None c new out
    → TellsChange c new out

-- ---- the calls as functions

abbrev pub RunTells : ClientContent → Turned6 → Type 0
RunTells c turned = TellsChange c turned.client turned.out

pub record RunsTell (c : ClientContent) (at salt : ℕ) : Type 0 where
  pub tick : RunTells c (tick_turned at salt c)
  pub message : (message : Content6) → RunTells c (hears_turned at salt message c)
  pub duplicate : (address : Ip6) → RunTells c (contested_turned address at salt c)
  pub begin : RunTells c (carrier_turned Up at salt c)
  pub rebind : RunTells c (rebind_turned at salt c)
  pub release : (tell : Tell6) → RunTells c (release_turned tell at salt c)

abbrev pub AllRunsTell : Type 0
AllRunsTell = (c : ClientContent) (at salt : ℕ) → RunsTell c at salt
