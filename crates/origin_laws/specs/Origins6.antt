-- Where a kept DHCPv6 lease comes from, by what its interface heard and sent alone (RFC 8415, section 18.2.10).
use Rattle.std.specs.Prelude.{◌≡◌, ◌⊎◌, List, Some}
use Rattle.machine.specs.Since.{Since}
use Rattle.net_types.specs.declared.address.Mac.{Mac}
use Rattle.v6_message.specs.Replies.{Content6}
use Rattle.lease6_text.specs.Leases.{Lease6Content}
use Rattle.v6_client.specs.Answers.{server_of}
use Rattle.client_model.specs.Fitting.{FitsBeginning}
use Rattle.client_model.specs.KeptLeases.{Beginning}
use Rattle.evidence_words.specs.Entries.{Entry}
use Rattle.evidence_words.specs.IfaceLives.{Opening, Met, IsLived, iface_after, shown, site_of}
use Rattle.evidence_words.specs.Inputs.{Site}
use Rattle.lease_evidence.specs.HeldLeases.{KeepsTyped}
use Rattle.lease6_evidence.specs.Exchanges6.{Numbered6}
use Rattle.lease6_evidence.specs.Replies6.{FirstReply}
use Rattle.origin_laws.specs.Granted6.{WasKept, origin_at}

-- The first good Reply of an exchange of this life came in. The lease names its server, and the interface and the
-- moment are its origin.
pub record Confirms6 (site : Site) (lease : Lease6Content) (e : Entry) (past : List Entry) : Type 0 where
  pub opened : Numbered6
  pub message : Content6
  pub reply : FirstReply site opened message e past
  pub server : server_of message ≡ Some lease.server
  pub origin : lease.origin ≡ Some (origin_at site e.moment)

-- A lease that an interface keeps in a life is that of its file, or a Reply confirmed it in one of the turns.
abbrev pub KeptLeasesTellOrigins6 : Type 0
KeptLeasesTellOrigins6 = (own : List Mac) (beginning : Beginning) (opening : Opening) (mets : List Met)
    (lease : Lease6Content) → FitsBeginning beginning → KeepsTyped beginning → IsLived own beginning opening mets
    → (iface_after own beginning opening mets).dhcp6.kept ≡ Some lease
    → WasKept beginning.kept6 lease
    ⊎ Since (λ e past. Unit {0}) (Confirms6 (site_of own beginning opening) lease) (shown opening mets)
