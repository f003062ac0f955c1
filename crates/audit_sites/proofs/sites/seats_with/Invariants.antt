use Rattle.std.proofs.Common.{◌≡◌, ◌++◌, List, map}
use Rattle.settings.specs.declared.interfaces.Managed.{Managed}
use Rattle.kept_files.specs.ClientModel.HostDuid.{host_duid}
use Rattle.audit_seats.specs.TurnModel.Loading.{duid_file}
use Rattle.audit_words.specs.EvidenceWords.HostDuids.{read_among}
use Rattle.audit_seats.specs.AuditModel.Showing.{site_by}
use Rattle.audit_words.specs.Shown.{site_shown}
use Rattle.audit_sites.specs.Reads.{reads_of}
use Rattle.audit_sites.proofs.sites.seats_with.Given as goal

abbrev pub invariant-loop-m : goal.invariant-loop-m
invariant-loop-m l = record {
  whole : l.yielded ++ l.m-iterator.rest.items ≡ l.fn.managed.items;
  sites : (all : List Managed) → l.duid.bytes.items ≡ host_duid all (read_among duid_file (reads_of l.reads))
      → map site_shown l.seats.items ≡ map (site_by all l.own l.up (reads_of l.reads)) l.yielded;
}
