-- What the judges of an interface tell together.
use Rattle.std.specs.Prelude.{◌≡◌, ◌↔◌, true, List}
use Rattle.net_types.specs.declared.address.Net.{Net}
use Rattle.net_types.specs.declared.interface.IfIndex.{IfIndex}
use Rattle.evidence_words.specs.Entries.{Entry}
use Rattle.evidence_words.specs.IfaceLives.{now_in}
use Rattle.evidence_words.specs.Inputs.{Site}
use Rattle.share_judge.specs.Evidence.Laws.{BasisWith, RestsWith}
use Rattle.share_judge.specs.Evidence.ShareBasis.{ShareBasisOf}
use Rattle.item_judge.specs.Lease6Judge.HeardBasis.{HeardAddressBasis, HeardBasis}
use Rattle.iface_judge.specs.Joined.{is_own, is_shared}

-- an address that the Replies of DHCPv6 servers give, now
abbrev pub HeardAddress : Site → Net → List Entry → Type 0
HeardAddress site net past = HeardAddressBasis site net (now_in past) past

-- An address of the interface rests on what it showed exactly where it has its basis there.
abbrev pub OwnAddressesAreTold : Type 0
OwnAddressesAreTold = (site : Site) (net : Net) (past : List Entry)
    → (is_own site net past ≡ true) ↔ BasisWith HeardAddress site net past

-- So with an address on another interface, out of a prefix of this one.
abbrev pub SharedAddressesAreTold : Type 0
SharedAddressesAreTold = (upstream : Site) (index : IfIndex) (net : Net) (past : List Entry)
    → (is_shared upstream index.number net past ≡ true) ↔ ShareBasisOf (RestsWith HeardBasis) upstream index net past
