-- None of the files so far has the name.
use Rattle.std.proofs.Common.{◌≡◌, drop}
use Rattle.audit_words.specs.EvidenceWords.HostDuids.{read_among}
use Rattle.audit_sites.specs.Reads.{reads_of}
use Rattle.audit_sites.proofs.reads.first_reading.Given as goal

abbrev pub invariant-loop-read : goal.invariant-loop-read
invariant-loop-read l = read_among l.name (reads_of l.reads) ≡ read_among l.name (reads_of (drop l.read-index l.reads))
