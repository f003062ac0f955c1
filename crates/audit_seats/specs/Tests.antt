-- Whether an address rests on what was shown, by what the judge of each interface tells.
use Rattle.std.specs.Prelude.{ℕ, Bool, true, ◌&&◌, ◌||◌, ◌==◌, List}
use Rattle.std.specs.List.{list_any}
use Rattle.net_types.specs.declared.address.Net.{Net}
use Rattle.world.specs.declared.rows.HostRow.{HostRow}
use Rattle.world.specs.declared.rows.HostRow.TheVariants.{Addr, Route}
use Rattle.audit_words.specs.EvidenceWords.Entries.{Entry}
use Rattle.audit_words.specs.EvidenceWords.Inputs.{Site, index_at}
use Rattle.audit_turns.specs.AuditModel.Auditing.{Judge}

-- whether an address on an interface itself rests on the turns
abbrev pub OwnTest : Type 0
OwnTest = Site → Net → List Entry → Bool

-- whether an address on the interface of this number does, as a share of the prefixes of another
abbrev pub ShareTest : Type 0
ShareTest = Site → ℕ → Net → List Entry → Bool

-- an address on one interface, by the number of another or of itself: its own address, or a share of its prefixes
abbrev pub rests_on : OwnTest → ShareTest → (number index : ℕ) → Net → List Entry → Site → Bool
rests_on own shared number index net past site =
    ((number == index) && own site net past) || shared site index net past

abbrev pub rests_at : OwnTest → ShareTest → ℕ → Net → List Entry → Site → Bool
rests_at own shared index net past site = rests_on own shared (index_at site) index net past site

-- an address rests on them where it does so at some managed interface, whatever site that has
abbrev pub judged_by : OwnTest → ShareTest → Judge
judged_by own shared managed sites past index net =
    list_any (λ m. rests_on own shared m.spec.index.number index.number net past (sites m)) managed

-- the same of a row, over the interfaces themselves: a route needs nothing
abbrev pub row_rests : OwnTest → ShareTest → List Site → List Entry → HostRow → Bool
row_rests own shared sites past (Addr index net) = list_any (rests_at own shared index.number net past) sites
row_rests own shared sites past (Route iface dest via metric) = true
