-- The messages of DHCPv4 that an interface says go between hardware addresses of six bytes.
use Rattle.std.proofs.Common.{List}
use Rattle.net_types.proofs.AllLaws.{all_map}
use Rattle.net_types.specs.declared.address.Mac.{Mac}
use Rattle.lease_evidence.specs.ClientModel.Fitting.{FitsBeginning}
use Rattle.lease_evidence.specs.ClientModel.IfaceTurns.{iface_turned}
use Rattle.lease_evidence.specs.ClientModel.KeptLeases.{Beginning}
use Rattle.lease_evidence.specs.ClientModel.Messages.{Said, Arp, Dhcp4, Dhcp6}
use Rattle.lease_evidence.specs.EvidenceWords.IfaceLives.{Opening, iface_after, opens}
use Rattle.lease_evidence.specs.HeldLeases.{KeepsTyped}
use Rattle.lease_evidence.proofs.HeldRuns.{opening_said_fits, turn_said_fits}
use Rattle.lease_evidence.proofs.Spoken.{FitsSaid}
use Rattle.lease6_evidence.specs.HeldItems.{BeginsWithKeptItems, HeldItemsHaveBasis}
use Rattle.lease6_evidence.proofs.HeldRuns6.{FoursFit, begin_with_kept_items, items_have_basis}
use Rattle.lease6_evidence.proofs.Spoken6.{FitsFour}

ends_fit : (say : Said) → FitsSaid say → FitsFour say
ends_fit (Dhcp4 say) fits = record { from = fits.from_mac; to = fits.to_mac }
ends_fit (Arp say) fits = tt
ends_fit (Dhcp6 sent) fits = tt

fours_fit : (own : List Mac) (beginning : Beginning) (fits : FitsBeginning beginning) (typed : KeepsTyped beginning) (opening : Opening)
    → FoursFit own beginning fits opening
fours_fit own beginning fits typed opening = record {
  opening_fits = λ lived.
      all_map FitsSaid FitsFour ends_fit (opens beginning opening).said (opening_said_fits own beginning opening fits typed lived);
  turns_fit = λ met mets lived.
      all_map FitsSaid FitsFour ends_fit (iface_turned own met.turn (iface_after own beginning opening mets)).said
      (turn_said_fits own beginning opening met mets fits typed lived);
}

pub held_items_have_basis : HeldItemsHaveBasis
held_items_have_basis = items_have_basis fours_fit

pub begins_with_kept_items : BeginsWithKeptItems
begins_with_kept_items = begin_with_kept_items held_items_have_basis
