-- Where the kept lease comes from: the interface that it was granted to, and the moment at which that was heard.
use Rattle.std.specs.Prelude.{◌≡◌, ℕ, ◌⊎◌, List, Some}
use Rattle.std.specs.List.{AllByRecursion}
use Rattle.machine.specs.Since.{Since}
use Rattle.lease_text.specs.Leases.{LeaseContent, terms_of}
use Rattle.v4_client.specs.declared.states.State4.TheVariants.{Off}
use Rattle.v4_client.specs.Clients.{ClientContent}
use Rattle.v4_client.specs.History.{Event4, Heard, client_after}
use Rattle.v4_client.specs.Laws.{Grants, IsTimely}
use Rattle.v4_client.specs.Messages.{Arrival}
use Rattle.v4_client.specs.Sound.{IsSound}

-- the event is an acceptable ACK that granted the lease, and this interface and this moment are its origin
pub record Confirms (start : ClientContent) (lease : LeaseContent) (event : Event4)
    (earlier : List Event4) : Type 0 where
  pub arrival : Arrival
  pub salt : ℕ
  pub heard : event ≡ Heard arrival salt
  pub granted : Grants start (terms_of lease) event earlier
  pub origin : lease.origin ≡ Some (record { mac = start.settings.site.iface.mac; confirmed = arrival.at })

-- A kept lease is the one that the client was made with, unchanged, or an ACK confirmed it.
abbrev pub KeepsOrigins : Type 0
KeepsOrigins = (start : ClientContent) (past : List Event4) (lease : LeaseContent) → start.state ≡ Off → IsSound start
    → AllByRecursion IsTimely past → (client_after start past).kept ≡ Some lease
    → (start.kept ≡ Some lease) ⊎ Since (λ event earlier. Unit {0}) (Confirms start lease) past
