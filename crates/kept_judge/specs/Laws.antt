-- What a judge of kept leases tells of their basis.
use Rattle.std.specs.Prelude.{◌≡◌, ◌↔◌, ℕ, true, List}
use Rattle.net_types.specs.declared.address.Net.{Net}
use Rattle.net_types.specs.declared.address.Net6.{Net6}
use Rattle.v6_items.specs.declared.asks.IaAsk.{IaAsk}
use Rattle.audit_words.specs.EvidenceWords.Entries.{Entry}
use Rattle.audit_words.specs.EvidenceWords.Inputs.{Site}
use Rattle.lease6_evidence.specs.LeaseEvidence.KeptBasis4.{KeptBasis4}
use Rattle.lease6_evidence.specs.KeptBasis6.{KeptAddress6, KeptBasis6}
use Rattle.kept_judge.specs.Asking4.{is_kept4}
use Rattle.kept_judge.specs.Asking6.{is_kept6, is_kept_address6}

-- An address has the basis of a kept lease of DHCPv4 exactly where the judge holds it.
abbrev pub AddressesAreKept4 : Type 0
AddressesAreKept4 = (site : Site) (net : Net) (now : ℕ) (past : List Entry)
    → (is_kept4 site net now past ≡ true) ↔ KeptBasis4 site net now past

-- So an item of a kept lease of DHCPv6,
abbrev pub ItemsAreKept6 : Type 0
ItemsAreKept6 = (site : Site) (ask : IaAsk) (net : Net6) (now : ℕ) (past : List Entry)
    → (is_kept6 site ask net now past ≡ true) ↔ KeptBasis6 site ask net now past

-- and an address of an IA_NA of it.
abbrev pub AddressesAreKept6 : Type 0
AddressesAreKept6 = (site : Site) (net : Net) (now : ℕ) (past : List Entry)
    → (is_kept_address6 site net now past ≡ true) ↔ KeptAddress6 site net now past
