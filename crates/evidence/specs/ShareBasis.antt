-- Why an address out of a delegated prefix may be held: it rests on the lease of the interface upstream.
use Rattle.std.specs.Prelude.{◌≡◌, ◌≢◌, ℕ, List, Some}
use Rattle.std.specs.List.{AllByRecursion, Contains}
use Rattle.net_types.specs.declared.address.Net.{Net}
use Rattle.net_types.specs.declared.address.Net.TheVariants.{V6}
use Rattle.net_types.specs.declared.address.Net6.{Net6}
use Rattle.net_types.specs.declared.interface.IfIndex.{IfIndex}
use Rattle.prefix_share.specs.Subnets.{subnet_in}
use Rattle.settings.specs.declared.dhcp6_conf.ShareConf.{ShareConf}
use Rattle.settings.specs.declared.interfaces.Managed.{Managed}
use Rattle.v6_client.specs.V6Items.declared.asks.IaAsk.{IaAsk}
use Rattle.v6_options.specs.declared.ia.IaKind.TheVariants.{Pd}
use Rattle.client_model.specs.WantedRows.{first_address}
use Rattle.evidence_words.specs.Entries.{Entry}
use Rattle.evidence_words.specs.IfaceLives.{now_in}
use Rattle.evidence_words.specs.Inputs.{Site}
use Rattle.lease6_evidence.specs.HeldItems.{ItemRests}
use Rattle.lease6_evidence.specs.Replies6.{asks_at}

-- the interface upstream has none of the shares of its prefixes
abbrev pub SharesWithOthers : Managed → Type 0
SharesWithOthers upstream =
    AllByRecursion (λ share. share.outlet.iface ≢ upstream.spec.index) upstream.conf.dhcp6.shares

-- The interface upstream asks for prefixes, one of them has its basis of this kind now, and a share of it that is
-- configured for the interface of this index, which is another one, has the subnet whose first address this is.
pub record ShareBasisOf (Kind : Site → IaAsk → Net6 → (now : ℕ) → List Entry → Type 0) (upstream : Site)
    (index : IfIndex) (net : Net) (past : List Entry) : Type 0 where
  pub ask : IaAsk
  pub asked : Contains (asks_at upstream) ask
  pub is_prefix : ask.kind ≡ Pd
  pub prefix : Net6
  pub basis : Kind upstream ask prefix (now_in past) past
  pub share : ShareConf
  pub configured : Contains upstream.managed.conf.dhcp6.shares share
  pub of_the_prefixes : share.iaid ≡ ask.iaid
  pub is_for : index ≡ share.outlet.iface
  pub is_another : index ≢ upstream.managed.spec.index
  pub subnet : Net6
  pub is_subnet : subnet_in prefix share.share ≡ Some subnet
  pub gives : net ≡ V6 (first_address subnet)

-- A Reply gave the prefix, or it is one of the kept lease.
abbrev pub ShareBasis : Site → IfIndex → Net → List Entry → Type 0
ShareBasis upstream index net past = ShareBasisOf ItemRests upstream index net past
