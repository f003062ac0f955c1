-- What a judge of DHCPv6 leases tells of the basis that all Replies give.
use Rattle.std.specs.Prelude.{◌≡◌, ◌↔◌, ℕ, true, List}
use Rattle.std.specs.List.{Contains}
use Rattle.net_types.specs.declared.address.Net.{Net}
use Rattle.net_types.specs.declared.address.Net6.{Net6}
use Rattle.v6_client.specs.V6Items.declared.asks.IaAsk.{IaAsk}
use Rattle.lease6_evidence.specs.EvidenceWords.Entries.{Entry}
use Rattle.lease6_evidence.specs.EvidenceWords.Inputs.{Site}
use Rattle.lease6_evidence.specs.ItemBasis.{AddressBasis, ItemBasis}
use Rattle.lease6_judge.specs.HeardBasis.{HeardAddressBasis, HeardBasis}
use Rattle.lease6_judge.specs.HeardTerms.{heard_in}
use Rattle.lease6_judge.specs.Terms.{is_held}

-- It holds an item exactly where the item has its basis.
abbrev pub HeardItemsAreTold : Type 0
HeardItemsAreTold = (site : Site) (ask : IaAsk) (net : Net6) (now : ℕ) (past : List Entry)
    → (is_held now (heard_in site ask net past) ≡ true) ↔ HeardBasis site ask net now past

-- An item whose basis are first Replies alone has the basis that all of them give.
abbrev pub HeldWasHeard : Type 0
HeldWasHeard = (site : Site) (ask : IaAsk) (net : Net6) (now : ℕ) (past : List Entry)
    → ItemBasis site ask net now past → HeardBasis site ask net now past

abbrev pub HeldAddressesWereHeard : Type 0
HeldAddressesWereHeard = (site : Site) (net : Net) (now : ℕ) (past : List Entry)
    → AddressBasis site net now past → HeardAddressBasis site net now past
