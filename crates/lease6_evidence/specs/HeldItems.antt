-- That each item which an interface holds has its basis, in the life of that interface alone.
use Rattle.std.specs.Prelude.{◌≡◌, ◌⊎◌, ℕ, false, List, [], None, Some}
use Rattle.std.specs.List.{Contains}
use Rattle.net_types.specs.declared.address.Mac.{Mac}
use Rattle.net_types.specs.declared.address.Net6.{Net6}
use Rattle.lease6_text.specs.declared.lease.Item6.{Item6}
use Rattle.lease6_text.specs.Leases.{IaLeaseContent, Lease6Content}
use Rattle.v6_client.specs.V6Items.declared.asks.IaAsk.{IaAsk}
use Rattle.v6_client.specs.Clients.{held_of}
use Rattle.lease_evidence.specs.ClientModel.Fitting.{FitsBeginning}
use Rattle.lease_evidence.specs.ClientModel.KeptLeases.{Beginning}
use Rattle.lease_evidence.specs.EvidenceWords.Inputs.{Site}
use Rattle.lease_evidence.specs.EvidenceWords.Entries.{Entry}
use Rattle.lease_evidence.specs.EvidenceWords.IfaceLives.{Opening, Met, site_of, shown, opens, iface_after, IsLived, now_in}
use Rattle.lease_evidence.specs.HeldLeases.{KeepsTyped}
use Rattle.lease6_evidence.specs.ItemBasis.{ItemBasis}
use Rattle.lease6_evidence.specs.KeptBasis6.{KeptBasis6}
use Rattle.lease6_evidence.specs.KeptNeeds6.{HasNoOrigin}
use Rattle.lease6_evidence.specs.Replies6.{asks_at}

-- a Reply of this life gave the item, or it is one of the kept lease, which is asked for again
abbrev pub ItemRests : Site → IaAsk → Net6 → (now : ℕ) → List Entry → Type 0
ItemRests site ask net now past = ItemBasis site ask net now past ⊎ KeptBasis6 site ask net now past

-- an item of an IA that is asked for, with such a basis
pub record HasItemBasis (Kind : Site → IaAsk → Net6 → (now : ℕ) → List Entry → Type 0) (site : Site)
    (ia : IaLeaseContent)
    (item : Item6) (past : List Entry) : Type 0 where
  pub ask : IaAsk
  pub asked : Contains (asks_at site) ask
  pub kind : ia.kind ≡ ask.kind
  pub iaid : ia.iaid ≡ ask.iaid
  pub basis : Kind site ask item.net (now_in past) past

abbrev pub ItemHasBasis : Site → IaLeaseContent → Item6 → List Entry → Type 0
ItemHasBasis site ia item past = HasItemBasis ItemRests site ia item past

-- Each item that an interface holds after an opening and some turns has its basis in them, whatever lease was kept
-- before.
abbrev pub HeldItemsHaveBasis : Type 0
HeldItemsHaveBasis = (own : List Mac) (beginning : Beginning) (opening : Opening) (mets : List Met)
    (lease : Lease6Content) (ia : IaLeaseContent) (item : Item6)
    → FitsBeginning beginning → KeepsTyped beginning → IsLived own beginning opening mets
    → held_of (iface_after own beginning opening mets).dhcp6 ≡ Some lease
    → Contains lease.ias ia → Contains ia.items item
    → ItemHasBasis (site_of own beginning opening) ia item (shown opening mets)

-- Where `persistent` isn't in force, or the kept lease doesn't tell where it is from, a Reply gave each.
abbrev pub IsPlain6 : Site → Type 0
IsPlain6 site = (site.managed.conf.flags.persistent ≡ false) ⊎ HasNoOrigin site

abbrev pub PlainItemsAreGiven : Type 0
PlainItemsAreGiven = (site : Site) (ia : IaLeaseContent) (item : Item6) (past : List Entry) → IsPlain6 site
    → ItemHasBasis site ia item past → HasItemBasis ItemBasis site ia item past

-- So after the opening such an interface holds no item, whatever was kept.
abbrev pub BeginsWithoutItems : Type 0
BeginsWithoutItems =
    (own : List Mac) (beginning : Beginning) (opening : Opening) → IsPlain6 (site_of own beginning opening)
    → held_of (opens beginning opening).iface.dhcp6 ≡ None

-- Each item that another one holds then is one of the kept lease.
abbrev pub BeginsWithKeptItems : Type 0
BeginsWithKeptItems = (own : List Mac) (beginning : Beginning) (opening : Opening)
    (lease : Lease6Content) (ia : IaLeaseContent) (item : Item6)
    → FitsBeginning beginning → KeepsTyped beginning → IsLived own beginning opening []
    → held_of (opens beginning opening).iface.dhcp6 ≡ Some lease
    → Contains lease.ias ia → Contains ia.items item
    → HasItemBasis KeptBasis6 (site_of own beginning opening) ia item (shown opening [])
