-- The DHCPv6 lease with which an interface begins: that of its file, where the file's text is a lease of this
-- interface.
use Rattle.std.specs.Prelude.{◌≡◌, ℕ, if◌then◌else◌, List, Option, Some, None, option_and_then}
use Rattle.net_types.specs.declared.interface.IfSpec.{IfSpec}
use Rattle.net_types.specs.FirstBadLine.{IsSpelled}
use Rattle.net_types.specs.LineReading.{run}
use Rattle.net_types.specs.TextLines.{Line}
use Rattle.v6_client.specs.Lease6Text.LeaseLines.{SpellsLease6}
use Rattle.v6_client.specs.Lease6Text.LeaseReading.{step, start, given}
use Rattle.v6_client.specs.Lease6Text.Leases.{Lease6Content}
use Rattle.world.specs.StoreCalls.{Reading, Found, Missing, Unread}
use Rattle.client_model.specs.KeptLeases.{is_own}
use Rattle.client_model.specs.TextsByLine.{lines_in}

-- ---- the lease that a text spells

abbrev pub lease6_by_lines : List Line → Option Lease6Content
lease6_by_lines lines = option_and_then given (run step lines start)

unfoldable pub lease6_spelled : List ℕ → Option Lease6Content
lease6_spelled text = option_and_then lease6_by_lines (lines_in text)

-- It is the one whose text this is.
pub record IsReading6 (text : List ℕ) (lease : Lease6Content) : Type 0 where
  pub sound : lease6_spelled text ≡ Some lease → IsSpelled SpellsLease6 text lease
  pub whole : IsSpelled SpellsLease6 text lease → lease6_spelled text ≡ Some lease

-- ---- the lease of an interface

-- that of another interface, or of another hardware address, counts as none
abbrev pub own_lease6 : IfSpec → Lease6Content → Option Lease6Content
own_lease6 spec lease = if is_own spec lease.name lease.origin then Some lease else None

-- what a file keeps that was read; one that isn't there, couldn't be read, or has another text keeps no lease
abbrev pub kept6_by : IfSpec → Reading → Option Lease6Content
kept6_by spec (Found bytes) = option_and_then (own_lease6 spec) (lease6_spelled bytes)
kept6_by spec Missing = None
kept6_by spec Unread = None
