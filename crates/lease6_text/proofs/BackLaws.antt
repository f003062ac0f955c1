-- A lease is read back from its text.
use Rattle.std.proofs.Common.{◌≡◌, ℕ, List, refl}
use Rattle.net_types.specs.declared.fault.BadText.{BadText}
use Rattle.net_types.specs.declared.text_lines.TextFault.{TextFault}
use Rattle.net_types.specs.declared.text_lines.TextFault.TheVariants.{Bad, NoMemory}
use Rattle.net_types.specs.FirstBadLine.{FirstFault, IsSpelled}
use Rattle.net_types.specs.TextLines.{Front}
use Rattle.lease_text.proofs.SpelledOnce.{spelled_once, no_bad_line}
use Rattle.lease6_text.specs.Bounds.{HasText6}
use Rattle.lease6_text.specs.Leases.{Lease6Content}
use Rattle.lease6_text.specs.LeaseLines.{SpellsLease6, lease6_lines, lease6_text}
use Rattle.lease6_text.specs.LeaseReading.{Reading}
use Rattle.lease6_text.specs.LinesRead.{AnyCause}
use Rattle.lease6_text.specs.ReadBack.{IsReadBack6, SpellsOne6}
use Rattle.lease6_text.proofs.ReadingLaws.{lease6_laws}

any_cause : Reading → Front → BadText
any_cause reading front = record {}

pub spells_one6 : (text : List ℕ) → SpellsOne6 text
spells_one6 text a b one other = spelled_once (lease6_laws any_cause) text a b one other

only_memory : (text : List ℕ) (lease : Lease6Content) (fault : TextFault BadText) → IsSpelled SpellsLease6 text lease
    → FirstFault SpellsLease6 AnyCause text fault → fault ≡ NoMemory
only_memory text lease (Bad number cause) good bad = absurd (no_bad_line text lease number cause good bad)
only_memory text lease NoMemory good bad = refl

pub read_back6 : (lease : Lease6Content) → HasText6 lease → IsReadBack6 lease
read_back6 lease good =
    let spelled : IsSpelled SpellsLease6 (lease6_text lease) lease = record { lines = lease6_lines lease; spells = (refl, good); text_is = refl } in
    record {
      spelled = spelled;
      only = λ other same. spells_one6 (lease6_text lease) other lease same spelled;
      whole = λ fault at. only_memory (lease6_text lease) lease fault spelled at;
    }
