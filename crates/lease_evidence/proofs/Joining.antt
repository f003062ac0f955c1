-- What an interface carries for its lease, in the form in which it is carried over the turns of a life.
use Rattle.std.proofs.Common.{◌≡◌, List, Some}
use Rattle.std.specs.List.{AllByRecursion}
use Rattle.net_types.specs.Marks.{AreBytes}
use Rattle.net_types.specs.declared.address.Net.TheVariants.{V4}
use Rattle.lease_text.specs.Leases.{LeaseContent}
use Rattle.evidence_words.specs.Lease6Text.Bounds.{IsDuid}
use Rattle.settings.specs.Fitting.{FitsManaged}
use Rattle.v4_client.specs.Clients.{held_of}
use Rattle.evidence_words.specs.ClientModel.declared.interfaces.Iface.{Iface}
use Rattle.evidence_words.specs.Entries.{Entry}
use Rattle.evidence_words.specs.Inputs.{Site}
use Rattle.evidence_words.proofs.Carrying.{Relation, IsCarried}
use Rattle.evidence_words.specs.IfaceLives.{now_in}
use Rattle.lease_evidence.specs.HeldLeases.{LeaseRests}
use Rattle.lease_evidence.proofs.LeasedInputs.{Leased}
use Rattle.lease_evidence.proofs.LeasedTurns.{opens_leased, turn_leased}
use Rattle.lease_evidence.proofs.Leases.{lease_has_basis}

abbrev HearBytes : List Entry → Type 0
HearBytes past = AllByRecursion (λ e. AreBytes e.bytes) past

-- where the settings and the DUID fit, and what came in are bytes
abbrev pub LeaseRelation : Relation
LeaseRelation site clean f past = FitsManaged site.managed → IsDuid site.duid → HearBytes past → Leased site clean f past

pub lease_carried : (Counted : Type 0) → IsCarried Counted LeaseRelation
lease_carried Counted = record {
  opens = λ own clean at salt early offers b within within6 up shows fits is octets.
      (opens_leased own clean at salt early offers b fits is within up shows.offered).leased;
  turns = λ site clean salt e early past unsent f same before shows fits is octets.
      (turn_leased site fits clean salt e early octets.0 past unsent f same (before fits is octets.1) shows.offered).leased;
}

pub lease_based : (site : Site) (clean : Type 0) (f : Iface) (past : List Entry) → f.managed ≡ site.managed → FitsManaged site.managed → IsDuid site.duid
    → HearBytes past
    → LeaseRelation site clean f past → (lease : LeaseContent) → held_of f.dhcp4 ≡ Some lease → LeaseRests site (V4 lease.net) (now_in past) past
lease_based site clean f past same fits is octets carries lease held = lease_has_basis site clean f past lease (carries fits is octets) held
