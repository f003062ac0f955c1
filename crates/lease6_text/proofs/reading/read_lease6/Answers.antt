use Rattle.std.proofs.Common.{subst, sym}
use Rattle.net_types.specs.LineFormats.{LineLaws}
use Rattle.lease6_text.specs.LeaseLines.{SpellsLease6}
use Rattle.lease6_text.specs.LeaseReading.{step, given}
use Rattle.lease6_text.specs.LinesRead.{After, AnyCause}
use Rattle.lease6_text.proofs.ReadingLaws.{lease6_laws}
use Rattle.lease6_text.proofs.reading.read_lease6.Goals as goal

pub read_lines-requires : goal.read_lines-requires
read_lines-requires c = record { owes = subst (λ s. LineLaws SpellsLease6 AnyCause step given _ After s) (sym c.start_of.ensures) (lease6_laws _) }
