-- That the addresses which the client wants have their basis, and that this says something.
use Rattle.std.specs.Prelude.{◌≡◌, ℕ, true, false, List, [], ◌∷◌, map, nat_eq, ◌⊎◌}
use Rattle.std.specs.List.{AllByRecursion, Contains, IsDistinct}
use Rattle.net_types.specs.declared.address.Net.{Net}
use Rattle.net_types.specs.declared.address.Net6.{Net6}
use Rattle.net_types.specs.declared.interface.IfSpec.{IfSpec}
use Rattle.net_types.specs.declared.interface.IfIndex.{IfIndex}
use Rattle.net_types.specs.Marks.{AreBytes}
use Rattle.world.specs.declared.rows.HostRow.TheVariants.{Addr}
use Rattle.world.specs.RowOrder.{has_row}
use Rattle.settings.specs.declared.dhcp6_conf.ShareConf.{ShareConf}
use Rattle.settings.specs.declared.interfaces.Managed.{Managed}
use Rattle.settings.specs.Fitting.{AreManaged}
use Rattle.script_model.specs.IfaceSets.{is_up}
use Rattle.script_model.specs.Scripts.{CountsFrom}
use Rattle.client_model.specs.ClientSettings.{runs_dhcp4}
use Rattle.client_model.specs.ClientSettings6.{runs_dhcp6}
use Rattle.client_model.specs.Clients.{rows_of}
use Rattle.device_calls.specs.Programs.{Makes}
use Rattle.evidence_words.specs.TurnModel.FilesInLife.{AreNamedApart}
use Rattle.evidence_words.specs.TurnModel.Turns.{Life, turn_asks}
use Rattle.evidence_words.specs.TurnModel.Lives.{OpeningMet, IsOpening, Met, life_after}
use Rattle.evidence_words.specs.Entries.{Entry, shown_of}
use Rattle.evidence_words.specs.FiledLeases.{kept4_shown, kept6_shown}
use Rattle.evidence_words.specs.HostDuids.{duid_shown}
use Rattle.evidence_words.specs.Inputs.{Site}
use Rattle.evidence_words.specs.IfaceLives.{now_in}
use Rattle.evidence.specs.StaticBasis.{StaticBasis}
use Rattle.evidence.specs.ShareBasis.{ShareBasisOf, SharesWithOthers}
use Rattle.local_evidence.specs.LinkLocalBasis.{LinkLocalBasis, StrongBasis}
use Rattle.lease6_evidence.specs.LeaseEvidence.KeptBasis4.{KeptBasis4}
use Rattle.lease6_evidence.specs.LeaseEvidence.LeaseBasis.{LeaseBasis}
use Rattle.lease6_evidence.specs.HeldItems.{ItemRests}
use Rattle.lease6_evidence.specs.ItemBasis.{AddressBasis}
use Rattle.lease6_evidence.specs.KeptBasis6.{KeptAddress6, KeptBasis6}
use Rattle.v6_client.specs.V6Items.declared.asks.IaAsk.{IaAsk}

-- a lease gives the address, now
abbrev pub LeasedBasis : Site → Net → List Entry → Type 0
LeasedBasis site net past = LeaseBasis site net (now_in past) past

-- an address of a DHCPv6 lease, now
abbrev pub LeasedBasis6 : Site → Net → List Entry → Type 0
LeasedBasis6 site net past = AddressBasis site net (now_in past) past

-- a kept lease gives the address, of DHCPv4 or of DHCPv6, which is asked for again
abbrev pub KeptBasis : Site → Net → List Entry → Type 0
KeptBasis site net past = KeptBasis4 site net (now_in past) past ⊎ KeptAddress6 site net (now_in past) past

-- Why an address may be held, in what was shown: as a static address, as a link-local one, for a lease of DHCPv4, for
-- one of DHCPv6, where `Leased6` says which addresses such leases give, or for a lease that was kept.
abbrev pub BasisWith : (Leased6 : Site → Net → List Entry → Type 0) → Site → Net → List Entry → Type 0
BasisWith Leased6 site net past =
    StaticBasis site net past ⊎ (LinkLocalBasis site net past
    ⊎ (LeasedBasis site net past ⊎ (Leased6 site net past ⊎ KeptBasis site net past)))

-- the leases are those that a server gave
abbrev pub Basis : Site → Net → List Entry → Type 0
Basis site net past = BasisWith LeasedBasis6 site net past

-- The same, with the stronger fact on link-local addresses.
abbrev pub StrongestBasis : Site → Net → List Entry → Type 0
StrongestBasis site net past =
    StaticBasis site net past ⊎ (StrongBasis site net past
    ⊎ (LeasedBasis site net past ⊎ (LeasedBasis6 site net past ⊎ KeptBasis site net past)))

-- where neither DHCPv4 nor DHCPv6 runs the interface has no lease
abbrev pub BasisWithoutDhcp : Site → Net → List Entry → Type 0
BasisWithoutDhcp site net past =
    runs_dhcp4 site.managed.conf ≡ false → runs_dhcp6 site.managed.conf ≡ false
    → StaticBasis site net past ⊎ LinkLocalBasis site net past

-- `specs` are all interfaces of the host
abbrev pub site_of : List Managed → List IfSpec → OpeningMet → Managed → Site
site_of managed specs opening m = record {
  managed = m;
  duid = duid_shown managed opening.calls;
  own = map (λ spec. spec.mac) specs;
  up = is_up opening.begin.up m.spec.index.number;
  kept4 = kept4_shown opening.calls m;
  kept6 = kept6_shown opening.calls m;
}

-- The address is on a managed interface and has a basis of this kind there, in what was shown.
pub record HasBasisAmong (Kind : Site → Net → List Entry → Type 0) (managed : List Managed) (sites : Managed → Site)
    (past : List Entry) (index : IfIndex) (net : Net) : Type 0 where
  pub holder : Managed
  pub among : Contains managed holder
  pub is_here : index ≡ holder.spec.index
  pub basis : Kind (sites holder) net past

-- The address is one of a prefix that is delegated to a managed interface, and has its basis there.
pub record HasShareAmong (Kind : Site → IaAsk → Net6 → (now : ℕ) → List Entry → Type 0) (managed : List Managed)
    (sites : Managed → Site) (past : List Entry) (index : IfIndex) (net : Net) : Type 0 where
  pub upstream : Managed
  pub among : Contains managed upstream
  pub basis : ShareBasisOf Kind (sites upstream) index net past

-- an item that a lease of this kind has, or one of a lease that was kept
abbrev pub RestsWith : (Item6 : Site → IaAsk → Net6 → (now : ℕ) → List Entry → Type 0) → Site → IaAsk → Net6
    → (now : ℕ) → List Entry → Type 0
RestsWith Item6 site ask net now past = Item6 site ask net now past ⊎ KeptBasis6 site ask net now past

-- It has its basis on the interface itself, or on the one upstream, where this says which addresses and which items
-- the leases of DHCPv6 give.
abbrev pub HasBasisIn : (Leased6 : Site → Net → List Entry → Type 0)
    → (Item6 : Site → IaAsk → Net6 → (now : ℕ) → List Entry → Type 0)
    → List Managed → (Managed → Site) → List Entry → IfIndex → Net → Type 0
HasBasisIn Leased6 Item6 managed sites past index net =
    HasBasisAmong (BasisWith Leased6) managed sites past index net
    ⊎ HasShareAmong (RestsWith Item6) managed sites past index net

-- in a life of some turns
abbrev pub HasBasisOf : (Kind : Site → Net → List Entry → Type 0) → List Managed → List IfSpec → OpeningMet → List Met
    → IfIndex → Net → Type 0
HasBasisOf Kind managed specs opening mets index net =
    HasBasisAmong Kind managed (site_of managed specs opening) (shown_of opening mets) index net

abbrev pub HasShareBasisOf : (Kind : Site → IaAsk → Net6 → (now : ℕ) → List Entry → Type 0) → List Managed
    → List IfSpec → OpeningMet → List Met → IfIndex → Net → Type 0
HasShareBasisOf Kind managed specs opening mets index net =
    HasShareAmong Kind managed (site_of managed specs opening) (shown_of opening mets) index net

abbrev pub HasShareBasis : List Managed → List IfSpec → OpeningMet → List Met → IfIndex → Net → Type 0
HasShareBasis managed specs opening mets index net = HasShareBasisOf ItemRests managed specs opening mets index net

-- It has its basis on the interface itself, or on the one upstream.
abbrev pub HasBasis : List Managed → List IfSpec → OpeningMet → List Met → IfIndex → Net → Type 0
HasBasis managed specs opening mets index net =
    HasBasisOf Basis managed specs opening mets index net ⊎ HasShareBasis managed specs opening mets index net

-- A managed interface that runs DHCPv6 has a share for the interface of this index.
pub record IsShared (managed : List Managed) (index : IfIndex) : Type 0 where
  pub upstream : Managed
  pub among : Contains managed upstream
  pub runs : runs_dhcp6 upstream.conf ≡ true
  pub share : ShareConf
  pub configured : Contains upstream.conf.dhcp6.shares share
  pub is_for : index ≡ share.outlet.iface

-- the same, where nothing is known of the frames that came in
abbrev pub HasBasisWithoutDhcp : List Managed → List IfSpec → OpeningMet → List Met → IfIndex → Net → Type 0
HasBasisWithoutDhcp managed specs opening mets index net =
    HasBasisOf BasisWithoutDhcp managed specs opening mets index net ⊎ IsShared managed index

-- no two interfaces have one number
abbrev pub AreNumbered : List Managed → Type 0
AreNumbered managed = IsDistinct nat_eq (map (λ m. m.spec.index.number) managed)

-- no interface has a share of its own prefixes
abbrev pub AreSharedWithOthers : List Managed → Type 0
AreSharedWithOthers managed = AllByRecursion SharesWithOthers managed

-- each turn makes the calls of a turn, one after another
abbrev pub AreMade : List Managed → Life → List Met → Type 0
AreMade managed from [] = Unit {0}
AreMade managed from (met ∷ mets) =
    Makes (turn_asks managed from met.wake met.bytes) met.calls met.life × AreMade managed met.life mets

-- the frames that came in are octets
abbrev pub AreOctets : List Met → Type 0
AreOctets mets = AllByRecursion (λ met. AreBytes met.bytes) mets

-- Each address that the client wants after an opening and some turns is such a one.
abbrev pub AddressesHave : (IfIndex → Net → Type 0) → OpeningMet → List Met → Type 0
AddressesHave Such opening mets = (index : IfIndex) (net : Net)
    → has_row (rows_of (life_after opening.life mets).client) (Addr index net) ≡ true
    → Such index net

-- a life of some turns
pub record IsLife (managed : List Managed) (specs : List IfSpec) (opening : OpeningMet) (mets : List Met) : Type 0 where
  pub numbered : AreNumbered managed
  pub named : AreNamedApart managed
  pub opens : IsOpening managed specs opening
  pub turns : AreMade managed opening.life mets

abbrev pub AddressesHaveBasis : Type 0
AddressesHaveBasis = (managed : List Managed) (specs : List IfSpec) (opening : OpeningMet) (mets : List Met)
    → IsLife managed specs opening mets → AreManaged managed → AreSharedWithOthers managed → AreOctets mets
    → AddressesHave (HasBasis managed specs opening mets) opening mets

-- This needs nothing of the settings, nor of the frames that came in.
abbrev pub OthersHaveBasis : Type 0
OthersHaveBasis = (managed : List Managed) (specs : List IfSpec) (opening : OpeningMet) (mets : List Met)
    → IsLife managed specs opening mets → AddressesHave (HasBasisWithoutDhcp managed specs opening mets) opening mets

-- Interfaces that count from a number on have unlike numbers.
abbrev pub CountedAreNumbered : Type 0
CountedAreNumbered =
    (first : ℕ) (managed : List Managed) → CountsFrom first (map (λ m. m.spec) managed) → AreNumbered managed
