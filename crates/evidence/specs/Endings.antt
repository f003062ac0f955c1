-- When a static address has no basis, and when an address of IPv4 has none of any kind, told of whole lists of turns:
-- those after a turn, that turn, and those before it.
use Rattle.std.specs.Prelude.{◌≡◌, ◌≢◌, ◌<◌, Bool, true, false, List, [], ◌∷◌, ◌++◌, Some}
use Rattle.std.specs.List.{AllByRecursion}
use Rattle.net_types.specs.declared.address.Net.{Net}
use Rattle.net_types.specs.declared.address.Net.TheVariants.{V4, V6}
use Rattle.net_types.specs.declared.address.Net4.{Net4}
use Rattle.net_types.specs.declared.address.Net6.{Net6}
use Rattle.world.specs.declared.wakes.Event.TheVariants.{Carrier, Stop}
use Rattle.evidence_words.specs.Entries.{Entry}
use Rattle.evidence_words.specs.Inputs.{Site, index_at, has_carrier}
use Rattle.evidence_words.specs.Probed.{probes_taken}
use Rattle.lease6_evidence.specs.LeaseEvidence.Endings.{GrantedNoMore}
use Rattle.evidence.specs.Laws.{Basis}
use Rattle.evidence.specs.StaticBasis.{StaticBasis}

-- the input tells nothing of the carrier of the interface
abbrev pub TellsNoCarrier : Site → Entry → Type 0
TellsNoCarrier site e = (up : Bool) → e.event ≢ Carrier (index_at site) up

-- Once the carrier went no static address has a basis, until it is told that it came.
abbrev pub StaticNeedsCarrier : Type 0
StaticNeedsCarrier = (site : Site) (net : Net) (later : List Entry) (e : Entry) (earlier : List Entry)
    → e.event ≡ Carrier (index_at site) false → AllByRecursion (TellsNoCarrier site) later
    → StaticBasis site net (later ++ e ∷ earlier) → ⊥

-- nor where there was none at first
abbrev pub StaticWaitsForCarrier : Type 0
StaticWaitsForCarrier =
    (site : Site) (net : Net) (past : List Entry) → site.up ≡ false → AllByRecursion (TellsNoCarrier site) past
    → StaticBasis site net past → ⊥

-- Once the daemon was told to stop none has one, whatever came then.
abbrev pub StaticEndsWithStop : Type 0
StaticEndsWithStop = (site : Site) (net : Net) (later : List Entry) (e : Entry) (earlier : List Entry)
    → e.event ≡ Stop → StaticBasis site net (later ++ e ∷ earlier) → ⊥

-- An address that isn't the one of its kind which is configured has none.
pub record StaticIsConfigured : Type 0 where
  pub four : (site : Site) (address : Net4) (past : List Entry) → site.managed.conf.address ≢ Some address
      → StaticBasis site (V4 address) past → ⊥
  pub six : (site : Site) (address : Net6) (past : List Entry) → site.managed.conf.address6 ≢ Some address
      → StaticBasis site (V6 address) past → ⊥

-- Once the carrier was lost no address of IPv4 has a basis of any kind, until it came again, an ACK granted the
-- address, or it was probed anew.
abbrev pub EndsWithCarrier : Type 0
EndsWithCarrier = (site : Site) (addr : Net4) (later : List Entry) (e : Entry) (earlier : List Entry)
    → has_carrier site earlier ≡ true → e.event ≡ Carrier (index_at site) false
    → AllByRecursion (TellsNoCarrier site) later
    → GrantedNoMore site (V4 addr) later (e ∷ earlier) → probes_taken site addr.ip (later ++ e ∷ []) < 3
    → Basis site (V4 addr) (later ++ e ∷ earlier) → ⊥

-- Nor once the daemon was told to stop, until an ACK granted it or it was probed anew.
abbrev pub EndsWithStop : Type 0
EndsWithStop = (site : Site) (addr : Net4) (later : List Entry) (e : Entry) (earlier : List Entry)
    → e.event ≡ Stop → GrantedNoMore site (V4 addr) later (e ∷ earlier)
    → probes_taken site addr.ip (later ++ e ∷ []) < 3
    → Basis site (V4 addr) (later ++ e ∷ earlier) → ⊥
