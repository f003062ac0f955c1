-- What the basis of a share can't do without, in other words than the basis has.
use Rattle.std.specs.Prelude.{◌≡◌, ◌≢◌, ◌-◌, List}
use Rattle.std.specs.List.{AllByRecursion, Contains}
use Rattle.machine.specs.Since.{Always}
use Rattle.net_types.specs.declared.address.Net.{Net}
use Rattle.net_types.specs.declared.address.Net.TheVariants.{V6}
use Rattle.net_types.specs.declared.address.Net6.{Net6}
use Rattle.net_types.specs.declared.interface.IfIndex.{IfIndex}
use Rattle.prefix_share.specs.SubnetLaws.{HasBits}
use Rattle.settings.specs.declared.dhcp6_conf.IaConf.{IaConf}
use Rattle.settings.specs.declared.dhcp6_conf.ShareConf.{ShareConf}
use Rattle.settings.specs.Fitting.{FitsManaged}
use Rattle.v6_client.specs.V6Items.declared.asks.IaAsk.{IaAsk}
use Rattle.v6_options.specs.declared.ia.IaKind.TheVariants.{Na, Pd}
use Rattle.evidence_words.specs.Entries.{Entry}
use Rattle.evidence_words.specs.Inputs.{Site}
use Rattle.evidence_words.specs.IfaceLives.{now_in}
use Rattle.lease6_evidence.specs.HeldItems.{IsPlain6, ItemRests}
use Rattle.lease6_evidence.specs.Laws6.{Names}
use Rattle.lease6_evidence.specs.Replies6.{asks_at}
use Rattle.evidence.specs.ShareBasis.{ShareBasis}

-- Where it is so of the interface upstream and what it showed, no address has a basis as a share on the interface of
-- this index.
abbrev pub SharesNothing : (Where : Site → IfIndex → List Entry → Type 0) → Type 0
SharesNothing Where =
    (site : Site) (index : IfIndex) (net : Net) (past : List Entry) → Where site index past
    → ShareBasis site index net past → ⊥

-- ---- the interface

-- it is the interface upstream itself
abbrev pub NeedsAnotherInterface : Type 0
NeedsAnotherInterface = SharesNothing (λ site index past. index ≡ site.managed.spec.index)

-- ---- the prefix

-- the interface upstream asks for addresses alone
abbrev pub NeedsDelegation : Type 0
NeedsDelegation =
    SharesNothing (λ site index past. AllByRecursion (λ (ia : IaConf). ia.kind ≡ Na) site.managed.conf.dhcp6.ias)

-- No prefix that it asks for has its basis. So a share ends with the prefix.
abbrev pub NeedsPrefix : Type 0
NeedsPrefix =
    SharesNothing (λ site index past. (ask : IaAsk) (prefix : Net6) → Contains (asks_at site) ask → ask.kind ≡ Pd
    → ItemRests site ask prefix (now_in past) past → ⊥)

-- no good Reply named a prefix, and none of the kept lease may be held
abbrev pub NeedsReplyWithIt : Type 0
NeedsReplyWithIt = SharesNothing (λ site index past. IsPlain6 site
    × Always (λ e earlier. (ask : IaAsk) (prefix : Net6) → ask.kind ≡ Pd → Names site ask prefix e earlier → ⊥) past)

-- ---- the share

-- none is configured for this interface
abbrev pub NeedsShare : Type 0
NeedsShare =
    SharesNothing
    (λ site index past. AllByRecursion
    (λ (share : ShareConf). share.outlet.iface ≢ index) site.managed.conf.dhcp6.shares)

-- none for this interface is of an IA that is asked for
abbrev pub NeedsSameIa : Type 0
NeedsSameIa =
    SharesNothing (λ site index past. (share : ShareConf) (ask : IaAsk) → Contains site.managed.conf.dhcp6.shares share
    → share.outlet.iface ≡ index → Contains (asks_at site) ask → share.iaid ≢ ask.iaid)

-- ---- the address

-- the address before it
abbrev pub before : Net6 → Net6
before address = record { ip = record { number = address.ip.number - 1 }; len = address.len }

-- The one before it has the bits of the prefix, then those of the share, and then zeros.
abbrev pub SharesHaveTheirBits : Type 0
SharesHaveTheirBits = (site : Site) (index : IfIndex) (address : Net6) (past : List Entry) → FitsManaged site.managed
    → (basis : ShareBasis site index (V6 address) past) → HasBits basis.prefix basis.share.share (before address)
