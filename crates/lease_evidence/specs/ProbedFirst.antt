-- That a leased address which is to be probed has no basis before that is done (RFC 5227, section 2.1.1), nor with
-- probes that don't count. Moments are in milliseconds.
use Rattle.std.specs.Prelude.{◌≡◌, ℕ, ◌+◌, ◌≤◌, ◌<◌, true, false, List, [], ◌∷◌, ◌++◌, ◌⊎◌}
use Rattle.machine.specs.Since.{Always}
use Rattle.net_types.specs.declared.address.Net.TheVariants.{V4}
use Rattle.net_types.specs.declared.address.Net4.{Net4}
use Rattle.v4_message.specs.declared.writing.Kind4.TheVariants.{Discover, Decline, Release}
use Rattle.evidence_words.specs.Entries.{Entry}
use Rattle.evidence_words.specs.Inputs.{Site, offers_at, contests}
use Rattle.evidence_words.specs.Probed.{probe_taken, probes_taken}
use Rattle.lease_evidence.specs.Endings.{LosesCarrier, IsGivenBack, IsToldToStop, Says}
use Rattle.lease_evidence.specs.LeaseBasis.{LeaseBasis}

-- Fewer than three probes that the link took give no basis, unless addresses aren't to be probed.
abbrev pub NeedsThreeProbes : Type 0
NeedsThreeProbes = (site : Site) (addr : Net4) (now : ℕ) (past : List Entry) → site.managed.conf.flags.noarp ≡ false
    → probes_taken site addr.ip past < 3 → LeaseBasis site (V4 addr) now past → ⊥

-- the carrier is lost, the leases are given back, a stop comes, or a message is said that tells that no lease is held
abbrev pub Disturbs : Site → Entry → List Entry → Type 0
Disturbs site e earlier =
    LosesCarrier site e earlier ⊎ (IsGivenBack site e earlier ⊎ (IsToldToStop site e earlier
    ⊎ (Says Discover site e earlier ⊎ (Says Decline site e earlier ⊎ Says Release site e earlier))))

-- Nor do fewer than three from the last such turn on.
abbrev pub ProbesBeginAnew : Type 0
ProbesBeginAnew = (site : Site) (addr : Net4) (now : ℕ) (later : List Entry) (e : Entry) (earlier : List Entry)
    → site.managed.conf.flags.noarp ≡ false → Disturbs site e earlier → probes_taken site addr.ip (later ++ e ∷ []) < 3
    → LeaseBasis site (V4 addr) now (later ++ e ∷ earlier) → ⊥

-- Nor do fewer than three before and fewer than three after a turn in which another host contested the address.
abbrev pub ContestsPartProbes : Type 0
ContestsPartProbes = (site : Site) (addr : Net4) (now : ℕ) (later : List Entry) (e : Entry) (earlier : List Entry)
    → site.managed.conf.flags.noarp ≡ false → contests site addr.ip e ≡ true
    → probes_taken site addr.ip later < 3 → probes_taken site addr.ip earlier < 3
    → LeaseBasis site (V4 addr) now (later ++ e ∷ earlier) → ⊥

-- Nor does an address have one within four seconds of the first probe for it.
abbrev pub ProbesTakeFourSeconds : Type 0
ProbesTakeFourSeconds =
    (site : Site) (addr : Net4) (now first : ℕ) (past : List Entry) → site.managed.conf.flags.noarp ≡ false
    → Always (λ e earlier. probe_taken site addr.ip (offers_at site e) ≡ true → first ≤ e.moment) past
    → Always (λ e earlier. e.moment < first + 4000) past → LeaseBasis site (V4 addr) now past → ⊥
