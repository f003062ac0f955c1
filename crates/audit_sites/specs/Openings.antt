-- What an auditor holds of an opening.
use Rattle.std.specs.Prelude.{◌≡◌, []}
use Rattle.audit_seats.specs.AuditModel.Auditing.{Living}
use Rattle.audit_sites.specs.declared.opening.Opening.{Opening}
use Rattle.audit_sites.specs.Reads.{reads_of}

-- What the opening told so far is held.
pub record Opens (opening : Opening) (living : Living) : Type 0 where
  pub managed : opening.managed ≡ living.managed
  pub own : opening.own.items ≡ living.own
  pub begin : opening.begin ≡ living.begin
  pub reads : reads_of opening.reads.items ≡ living.reads
  pub first : living.past ≡ []
