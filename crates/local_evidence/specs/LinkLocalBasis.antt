-- Why a link-local address may be held (RFC 3927, sections 2.2.1 and 2.5). Moments are in milliseconds.
use Rattle.std.specs.Prelude.{◌≡◌, ◌≢◌, ◌⊎◌, ◌+◌, ◌≤◌, ◌<◌, true, List, [], ◌∷◌, ◌++◌}
use Rattle.std.specs.List.{AllByRecursion, Contains}
use Rattle.net_types.specs.declared.address.Ip4.{Ip4}
use Rattle.net_types.specs.declared.address.Net.{Net}
use Rattle.net_types.specs.declared.address.Net.TheVariants.{V4}
use Rattle.net_types.specs.AddressText.{FitsIp4}
use Rattle.frame_link.specs.Packets.{announcement_text}
use Rattle.ipv4ll.specs.Choice.{IsChoice}
use Rattle.evidence_words.specs.ClientModel.WantedRows.{local_net}
use Rattle.evidence_words.specs.Entries.{Entry, Offer}
use Rattle.evidence_words.specs.Inputs.{Site, index_at, offers_at, uses, GoesOn, StaysOn}
use Rattle.evidence_words.specs.Probed.{TurnWord, Probed, probes_taken}

-- no announcement of another address
abbrev pub AnnouncesNoOther : Site → Ip4 → Offer → Type 0
AnnouncesNoOther site addr o =
    (other : Ip4) → FitsIp4 other → o.bytes ≡ announcement_text site.managed.spec.mac other → other ≡ addr

abbrev pub IsAlone : Site → Ip4 → Entry → Type 0
IsAlone site addr e = AllByRecursion (AnnouncesNoOther site addr) (offers_at site e)

-- Any two packets of other hosts that use the address come ten seconds or more apart.
abbrev pub UsesApart : Site → Ip4 → List Entry → Type 0
UsesApart site addr [] = Unit {0}
UsesApart site addr (e ∷ past) =
    (uses site addr e ≡ true
    → AllByRecursion (λ before. uses site addr before ≡ true → before.moment + 10000 ≤ e.moment) past)
    × UsesApart site addr past

-- The address is one that a host may choose by itself. It was probed, the turn of the first probe as `First` says and
-- each turn after it as C says. From the fourth turn on no other address was announced, and no two uses by other hosts
-- came close to each other.
pub record LocalChoice (C First : TurnWord) (site : Site) (net : Net) (past : List Entry) : Type 0 where
  pub addr : Ip4
  pub gives : net ≡ V4 (local_net addr)
  pub in_range : IsChoice addr
  pub probed : Probed C First site addr past
  pub alone : AllByRecursion (IsAlone site addr) (probed.later ++ probed.fourth ∷ [])
  pub apart : UsesApart site addr (probed.later ++ probed.fourth ∷ [])

abbrev pub Anything : TurnWord
Anything e past = Unit {0}

-- In the turns after that of the first probe the carrier wasn't lost, nothing was given back and no stop came.
abbrev pub LinkLocalBasis : Site → Net → List Entry → Type 0
LinkLocalBasis site net past = LocalChoice (StaysOn site) Anything site net past

-- no input that tells that there is no carrier, gives back or stops, whatever was before
abbrev pub Undisturbed : Site → TurnWord
Undisturbed site e past = GoesOn true (index_at site) e.event

-- The same with no such input from the turn of the first probe on.
abbrev pub StrongBasis : Site → Net → List Entry → Type 0
StrongBasis site net past = LocalChoice (Undisturbed site) (Undisturbed site) site net past

-- An address for which fewer than three probes were taken has no basis but as a static one.
abbrev pub NeedsThreeProbes : Type 0
NeedsThreeProbes = (site : Site) (addr : Ip4) (past : List Entry) → probes_taken site addr past < 3
    → LinkLocalBasis site (V4 (local_net addr)) past → ⊥

-- An address below 169.254.1.0 or above 169.254.254.255 has none.
abbrev pub NeedsItsRange : Type 0
NeedsItsRange =
    (site : Site) (addr : Ip4) (past : List Entry) → (addr.number < 0xa9fe_0100) ⊎ (0xa9fe_feff < addr.number)
    → LinkLocalBasis site (V4 (local_net addr)) past → ⊥

-- in the turn a frame announces this address (RFC 5227, section 2.3)
pub record Announces (site : Site) (addr : Ip4) (e : Entry) : Type 0 where
  pub offer : Offer
  pub among : Contains (offers_at site e) offer
  pub spells : offer.bytes ≡ announcement_text site.managed.spec.mac addr

-- Where another address is announced in the newest turn, this one has none.
abbrev pub EndsByAnother : Type 0
EndsByAnother =
    (site : Site) (addr other : Ip4) (e : Entry) (past : List Entry) → FitsIp4 other → other ≢ addr
    → Announces site other e
    → LinkLocalBasis site (V4 (local_net addr)) (e ∷ past) → ⊥
