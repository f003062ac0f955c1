-- The origin of the lease that a client keeps: to whom it was given, and when it was confirmed.
use Rattle.std.specs.Prelude.{◌≡◌, ◌⊎◌, ℕ, Option, Some, IfSome}
use Rattle.net_types.specs.declared.address.Ip6.{Ip6}
use Rattle.v6_message.specs.Replies.{Content6}
use Rattle.lease6_text.specs.LeaseText.declared.lease.Origin.{Origin}
use Rattle.lease6_text.specs.Leases.{Lease6Content}
use Rattle.v6_client.specs.declared.states.Carrier6.{Carrier6}
use Rattle.v6_client.specs.declared.states.Tell6.{Tell6}
use Rattle.v6_client.specs.Calls.{fresh_in}
use Rattle.v6_client.specs.Clients.{ClientContent}
use Rattle.v6_client.specs.Runs.{carrier_turned, contested_turned, hears_turned, rebind_turned, release_turned, tick_turned}

-- the client's own interface, and the moment of a Reply
abbrev pub origin_at : (at : ℕ) → ClientContent → Origin
origin_at at c = record { mac = c.settings.site.iface.mac; confirmed = at }

-- the lease that a Reply grants tells the interface, and the moment at which the Reply was heard
abbrev pub GrantsOrigin : Type 0
GrantsOrigin = (c : ClientContent) (message : Content6) (at : ℕ)
    → IfSome (fresh_in at c message) (λ lease. lease.origin ≡ Some (origin_at at c))

-- a lease was kept before, maybe with further items, and had this origin
pub record HadOrigin (kept : Option Lease6Content) (lease : Lease6Content) : Type 0 where
  pub before : Lease6Content
  pub was : kept ≡ Some before
  pub same : lease.origin ≡ before.origin

abbrev pub KeepsOrigin : (old new : ClientContent) → Type 0
KeepsOrigin old new = IfSome new.kept (HadOrigin old.kept)

-- the lease that is kept was kept before, or a Reply of this moment granted it
abbrev pub KeepsOrTakesOrigin : (at : ℕ) → (old new : ClientContent) → Type 0
KeepsOrTakesOrigin at old new =
    IfSome new.kept (λ lease. (old.kept ≡ Some lease) ⊎ (lease.origin ≡ Some (origin_at at old)))

-- A Reply alone gives a lease an origin. What was read, or granted before, keeps what it had.
pub record OriginsAfter (c : ClientContent) (at salt : ℕ) : Type 0 where
  pub tick : KeepsOrigin c (tick_turned at salt c).client
  pub message : (message : Content6) → KeepsOrTakesOrigin at c (hears_turned at salt message c).client
  pub carrier : (carrier : Carrier6) → KeepsOrigin c (carrier_turned carrier at salt c).client
  pub duplicate : (address : Ip6) → KeepsOrigin c (contested_turned address at salt c).client
  pub release : (tell : Tell6) → KeepsOrigin c (release_turned tell at salt c).client
  pub rebind : KeepsOrigin c (rebind_turned at salt c).client

abbrev pub OriginsStay : Type 0
OriginsStay = (c : ClientContent) (at salt : ℕ) → OriginsAfter c at salt
