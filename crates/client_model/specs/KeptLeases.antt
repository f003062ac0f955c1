-- The lease with which an interface begins: that of its file, where the file's text is a lease of this interface.
use Rattle.std.specs.Prelude.{◌≡◌, ℕ, Bool, true, ◌&&◌, bytes_eq, if◌then◌else◌, List, Option, Some, None, option_and_then}
use Rattle.net_types.specs.declared.address.Mac.{Mac}
use Rattle.net_types.specs.declared.interface.IfSpec.{IfSpec}
use Rattle.net_types.specs.declared.interface.Name.{Name}
use Rattle.net_types.specs.FirstBadLine.{IsSpelled}
use Rattle.net_types.specs.LineReading.{run}
use Rattle.net_types.specs.NameText.{name_text}
use Rattle.net_types.specs.TextLines.{Line}
use Rattle.v4_client.specs.LeaseText.declared.lease.Origin.{Origin}
use Rattle.v4_client.specs.LeaseText.LeaseLines.{SpellsLease4}
use Rattle.v4_client.specs.LeaseText.LeaseReading.{step, start, given}
use Rattle.v4_client.specs.LeaseText.Leases.{LeaseContent}
use Rattle.v6_client.specs.Lease6Text.Leases.{Lease6Content}
use Rattle.world.specs.StoreCalls.{Reading, Found, Missing, Unread}
use Rattle.settings.specs.declared.interfaces.Managed.{Managed}
use Rattle.client_model.specs.TextsByLine.{lines_in}

-- ---- the lease that a text spells

abbrev pub lease_by_lines : List Line → Option LeaseContent
lease_by_lines lines = option_and_then given (run step lines start)

unfoldable pub lease_spelled : List ℕ → Option LeaseContent
lease_spelled text = option_and_then lease_by_lines (lines_in text)

-- It is the one whose text this is.
pub record IsReading (text : List ℕ) (lease : LeaseContent) : Type 0 where
  pub sound : lease_spelled text ≡ Some lease → IsSpelled SpellsLease4 text lease
  pub whole : IsSpelled SpellsLease4 text lease → lease_spelled text ≡ Some lease

-- ---- the lease of an interface

-- what was granted to this hardware address, where it is told to which
abbrev pub is_granted_to : Mac → Option Origin → Bool
is_granted_to mac None = true
is_granted_to mac (Some origin) = bytes_eq origin.mac.bytes mac.bytes

-- what has the name of the interface and was granted to it
abbrev pub is_own : IfSpec → Name → Option Origin → Bool
is_own spec name origin = bytes_eq (name_text name) (name_text spec.name) && is_granted_to spec.mac origin

-- that of another interface counts as none
abbrev pub own_lease : IfSpec → LeaseContent → Option LeaseContent
own_lease spec lease = if is_own spec lease.name lease.origin then Some lease else None

-- what a file keeps that was read; one that isn't there, couldn't be read, or has another text keeps no lease
abbrev pub kept_by : IfSpec → Reading → Option LeaseContent
kept_by spec (Found bytes) = option_and_then (own_lease spec) (lease_spelled bytes)
kept_by spec Missing = None
kept_by spec Unread = None

-- a managed interface, the DUID of the host, and the leases that were kept for the interface
pub record Beginning : Type 0 where
  pub managed : Managed
  pub duid : List ℕ
  pub kept4 : Option LeaseContent
  pub kept6 : Option Lease6Content
