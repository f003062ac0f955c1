-- What holds of the texts of DUIDs: each is read back, a text spells one at most, and the DUID of a hardware address is
-- one.
use Rattle.std.specs.Prelude.{◌≡◌, ◌≤◌, ℕ, List, length, Some}
use Rattle.net_types.specs.declared.address.Mac.{Mac}
use Rattle.net_types.specs.AddressText.{FitsMac}
use Rattle.net_types.specs.Marks.{AreBytes}
use Rattle.v6_options.specs.Duids.{duid_in}
use Rattle.duid_text.specs.DuidTexts.{duid_text, duid_spelled, link_layer_duid}

-- the bytes of a DUID (RFC 8415, section 11.1)
pub record IsDuid (bytes : List ℕ) : Type 0 where
  pub least : 2 ≤ length bytes
  pub most : length bytes ≤ 130
  pub range : AreBytes bytes

-- a DUID is read back from its text
abbrev pub IsReadBack : List ℕ → Type 0
IsReadBack bytes = IsDuid bytes → duid_spelled (duid_text bytes) ≡ Some bytes

-- what a text spells is a DUID, and the text is the one of this DUID
abbrev pub SpellsOne : (text bytes : List ℕ) → Type 0
SpellsOne text bytes =
    duid_spelled text ≡ Some bytes → (text ≡ duid_text bytes) × IsDuid bytes

-- the DUID of a hardware address is one
abbrev pub IsOfAddress : Mac → Type 0
IsOfAddress mac = FitsMac mac → duid_in (link_layer_duid mac) ≡ Some (link_layer_duid mac)
