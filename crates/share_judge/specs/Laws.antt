-- What the prefixes that an interface holds tell of the addresses out of them.
use Rattle.std.specs.Prelude.{◌≡◌, ◌↔◌, ◌⊎◌, ℕ, true, List}
use Rattle.std.specs.List.{Contains}
use Rattle.net_types.specs.declared.address.Net.{Net}
use Rattle.net_types.specs.declared.address.Net6.{Net6}
use Rattle.net_types.specs.declared.interface.IfIndex.{IfIndex}
use Rattle.v6_options.specs.declared.ia.IaKind.TheVariants.{Pd}
use Rattle.v6_client.specs.V6Items.declared.asks.IaAsk.{IaAsk}
use Rattle.audit_words.specs.EvidenceWords.Entries.{Entry}
use Rattle.audit_words.specs.EvidenceWords.IfaceLives.{now_in}
use Rattle.audit_words.specs.EvidenceWords.Inputs.{Site}
use Rattle.evidence.specs.Lease6Evidence.KeptBasis6.{KeptBasis6}
use Rattle.evidence.specs.Lease6Evidence.Replies6.{asks_at}
use Rattle.evidence.specs.ShareBasis.{ShareBasisOf}
use Rattle.share_judge.specs.declared.prefix.HeldPrefix.{HeldPrefix}
use Rattle.share_judge.specs.KeptShares.{is_kept_share}
use Rattle.share_judge.specs.Sharing.{is_shared, shares_out}

-- a kind of basis of an item, at a moment
abbrev pub ItemKind : Type 1
ItemKind = Site → IaAsk → Net6 → (now : ℕ) → List Entry → Type 0

-- The interface asks for the IA, and the prefix has its basis of this kind now.
pub record IsHeld (Kind : ItemKind) (upstream : Site) (past : List Entry) (held : HeldPrefix) : Type 0 where
  pub ask : IaAsk
  pub asked : Contains (asks_at upstream) ask
  pub is_prefix : ask.kind ≡ Pd
  pub iaid : held.iaid ≡ ask.iaid
  pub basis : Kind upstream ask held.net (now_in past) past

-- such a prefix gives the address
pub record IsGiven (Kind : ItemKind) (upstream : Site) (index : IfIndex) (net : Net) (past : List Entry) : Type 0 where
  pub one : HeldPrefix
  pub held : IsHeld Kind upstream past one
  pub shares : shares_out upstream.managed index net one ≡ true

-- An address rests on a share exactly where that is so. Told of a kind, since no contract can speak of all of them.
abbrev pub SharesAreTold : ItemKind → Type 0
SharesAreTold Kind = (upstream : Site) (index : IfIndex) (net : Net) (past : List Entry)
    → IsGiven Kind upstream index net past ↔ ShareBasisOf Kind upstream index net past

-- A list has the prefixes that have their basis, and no other ones.
pub record Lists (Kind : ItemKind) (upstream : Site) (past : List Entry) (prefixes : List HeldPrefix) : Type 0 where
  pub sound : (one : HeldPrefix) → Contains prefixes one → IsHeld Kind upstream past one
  pub whole : (one : HeldPrefix) → IsHeld Kind upstream past one → Contains prefixes one

-- Such a list tells the same.
abbrev pub ListsTellShares : ItemKind → Type 0
ListsTellShares Kind = (upstream : Site) (index : IfIndex) (net : Net) (past : List Entry)
    (prefixes : List HeldPrefix) → Lists Kind upstream past prefixes
    → (is_shared upstream.managed index net prefixes ≡ true) ↔ ShareBasisOf Kind upstream index net past

-- A share rests on the one kind of basis or the other.
abbrev pub Either : (One Other : ItemKind) → ItemKind
Either One Other upstream ask prefix now past =
    One upstream ask prefix now past ⊎ Other upstream ask prefix now past

abbrev pub SharesOfEither : (One Other : ItemKind) → Type 0
SharesOfEither One Other = (upstream : Site) (index : IfIndex) (net : Net) (past : List Entry)
    → ShareBasisOf (Either One Other) upstream index net past
    ↔ (ShareBasisOf One upstream index net past ⊎ ShareBasisOf Other upstream index net past)

-- An address rests on a share of a kept prefix exactly where that is told of the interface upstream.
abbrev pub KeptSharesAreTold : Type 0
KeptSharesAreTold = (upstream : Site) (index : IfIndex) (net : Net) (past : List Entry)
    → (is_kept_share upstream index net (now_in past) past ≡ true) ↔ ShareBasisOf KeptBasis6 upstream index net past
