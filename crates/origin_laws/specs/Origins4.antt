-- Where a kept DHCPv4 lease comes from, over the turns of an interface.
use Rattle.std.specs.Prelude.{◌≡◌, ◌⊎◌, ◌<◌, ◌^◌, List, [], ◌∷◌, Some}
use Rattle.machine.specs.Since.{Since}
use Rattle.net_types.specs.declared.address.Mac.{Mac}
use Rattle.v4_frames.specs.Heard.{HeardMessage}
use Rattle.lease_text.specs.Leases.{LeaseContent, terms_of}
use Rattle.v4_client.specs.declared.states.Answer4.TheVariants.{Ack}
use Rattle.v4_client.specs.Calls.{answer_to}
use Rattle.v4_client.specs.Clients.{ClientContent}
use Rattle.client_model.specs.declared.interfaces.Iface.{Iface}
use Rattle.client_model.specs.Dhcp4Steps.{arrival_at}
use Rattle.client_model.specs.Fitting.{FitsBeginning}
use Rattle.client_model.specs.Interfaces.{ticked, unsent_in}
use Rattle.client_model.specs.KeptLeases.{Beginning}
use Rattle.evidence_words.specs.IfaceLives.{Opening, Met, iface_after, site_of}
use Rattle.evidence_words.specs.Inputs.{Site}
use Rattle.lease_evidence.specs.Replies.{message_on}
use Rattle.origin_laws.specs.Granted6.{origin_at}

-- the DHCPv4 client of an interface when the input of a turn comes: it was told of a failed send, and ticked
abbrev pub client4_at : Met → Iface → ClientContent
client4_at met iface =
    (ticked met.turn.at met.turn.salt (unsent_in met.turn.unsent met.turn.at met.turn.salt iface)).iface.dhcp4

-- In a turn of an interface that stood so before it, an ACK came in that its client accepted. It granted the terms of
-- the lease, and the interface and the moment are its origin.
pub record IsGrantedIn4 (site : Site) (lease : LeaseContent) (met : Met) (iface : Iface) : Type 0 where
  pub heard : HeardMessage
  pub came : message_on site met.turn.event met.turn.bytes ≡ Some heard
  pub grants : answer_to (arrival_at met.turn.at heard) (client4_at met iface) ≡ Ack (terms_of lease)
  pub origin : lease.origin ≡ Some (origin_at site met.turn.at)

-- the moments of an opening and of some turns are before 10^15
abbrev pub AreMoments : Opening → List Met → Type 0
AreMoments opening [] = opening.at < 10 ^ 15
AreMoments opening (met ∷ mets) = (met.turn.at < 10 ^ 15) × AreMoments opening mets

-- A lease that an interface keeps after an opening and some turns is that of its file, or was granted in one of them.
abbrev pub KeptLeasesTellOrigins4 : Type 0
KeptLeasesTellOrigins4 = (own : List Mac) (beginning : Beginning) (opening : Opening) (mets : List Met)
    (lease : LeaseContent) → FitsBeginning beginning → AreMoments opening mets
    → (iface_after own beginning opening mets).dhcp4.kept ≡ Some lease
    → let site : Site = site_of own beginning opening in
    let iface : List Met → Iface = iface_after own beginning opening in
    (beginning.kept4 ≡ Some lease)
    ⊎ Since (λ met earlier. Unit {0}) (λ met earlier. IsGrantedIn4 site lease met (iface earlier)) mets
