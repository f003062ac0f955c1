-- The DHCPv6 lease that a text spells is the one whose text it is.
use Rattle.std.proofs.Common.{ℕ, List}
use Rattle.net_types.specs.declared.fault.BadText.{BadText}
use Rattle.net_types.specs.LineFormats.{LineLaws}
use Rattle.net_types.specs.TextLines.{Front}
use Rattle.v6_client.specs.Lease6Text.Leases.{Lease6Content}
use Rattle.v6_client.specs.Lease6Text.LeaseLines.{SpellsLease6}
use Rattle.v6_client.specs.Lease6Text.LeaseReading.{Reading, step, given, start}
use Rattle.v6_client.specs.Lease6Text.LinesRead.{After, AnyCause}
use Rattle.v6_client.proofs.Lease6Text.ReadingLaws.{lease6_laws}
use Rattle.client_model.specs.KeptLeases6.{IsReading6, lease6_spelled}
use Rattle.client_model.proofs.SpelledTexts.{spelled_by, spells_it}

no_cause : Reading → Front → BadText
no_cause reading front = record {}

law : LineLaws SpellsLease6 AnyCause step given no_cause After start
law = lease6_laws no_cause

pub is_reading6 : (text : List ℕ) (lease : Lease6Content) → IsReading6 text lease
unfolding lease6_spelled
is_reading6 text lease = record { sound = spelled_by law text lease; whole = spells_it law text lease }
