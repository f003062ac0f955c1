-- The lease that a text spells is the one whose text it is.
use Rattle.std.proofs.Common.{ℕ, List}
use Rattle.net_types.specs.declared.fault.BadText.{BadText}
use Rattle.net_types.specs.LineFormats.{LineLaws}
use Rattle.net_types.specs.TextLines.{Front}
use Rattle.v4_client.specs.LeaseText.Leases.{LeaseContent}
use Rattle.v4_client.specs.LeaseText.LeaseLines.{SpellsLease4}
use Rattle.v4_client.specs.LeaseText.LeaseReading.{Reading, step, given, start, After, AnyCause}
use Rattle.v4_client.proofs.LeaseText.ReadingLaws.{lease_laws}
use Rattle.client_model.specs.KeptLeases.{IsReading, lease_spelled}
use Rattle.client_model.proofs.SpelledTexts.{spelled_by, spells_it}

no_cause : Reading → Front → BadText
no_cause reading front = record {}

law : LineLaws SpellsLease4 AnyCause step given no_cause After start
law = lease_laws no_cause

pub is_reading : (text : List ℕ) (lease : LeaseContent) → IsReading text lease
unfolding lease_spelled
is_reading text lease = record { sound = spelled_by law text lease; whole = spells_it law text lease }
