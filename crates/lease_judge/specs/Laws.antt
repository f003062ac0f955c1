-- What a judge of leases tells of their basis.
use Rattle.std.specs.Prelude.{◌≡◌, ◌↔◌, ℕ, true, false, List, Some}
use Rattle.machine.specs.Since.{Since}
use Rattle.net_types.specs.declared.address.Ip4.{Ip4}
use Rattle.net_types.specs.declared.address.Net.{Net}
use Rattle.net_types.specs.declared.address.Net.TheVariants.{V4}
use Rattle.v4_client.specs.Answers.{is_unexpired}
use Rattle.evidence_words.specs.Entries.{Entry}
use Rattle.evidence_words.specs.Inputs.{Site}
use Rattle.evidence_words.specs.Probed.{Probed}
use Rattle.own_frames4.specs.LeaseEvidence.LeaseBasis.{Calm, CalmFor, FirstAck, LeaseBasis}
use Rattle.lease_judge.specs.Judge.{Granted, judge_in}
use Rattle.lease_judge.specs.Leased.{is_leased}
use Rattle.lease_judge.specs.ProbedTurns.{calm_in, probed_in}

-- what the basis of a lease says of its grant (`granted` of LeaseBasis)
abbrev pub IsGranted : Site → Granted → List Entry → Type 0
IsGranted site granted past = Since (CalmFor site granted.opened) (FirstAck site granted.opened granted.terms) past

-- The judge has a grant exactly where that is so.
abbrev pub GrantsAreJudged : Type 0
GrantsAreJudged = (site : Site) (past : List Entry) (granted : Granted)
    → ((judge_in site past).granted ≡ Some granted) ↔ IsGranted site granted past

-- The judge's grant gives the address and isn't over, and the address was probed, unless none is to be.
pub record IsJudged (site : Site) (net : Net) (now : ℕ) (past : List Entry) : Type 0 where
  pub granted : Granted
  pub stands : (judge_in site past).granted ≡ Some granted
  pub gives : net ≡ V4 granted.terms.net
  pub unexpired : is_unexpired granted.opened.exchange.first granted.terms.lease now ≡ true
  pub probed : site.managed.conf.flags.noarp ≡ false
      → Probed (Calm site) (λ first before. Unit {0}) site granted.terms.net.ip past

-- An address has the basis of a lease exactly where that is so.
abbrev pub BasesAreJudged : Type 0
BasesAreJudged = (site : Site) (net : Net) (now : ℕ) (past : List Entry)
    → LeaseBasis site net now past ↔ IsJudged site net now past

-- An address was probed, each turn after that of the first probe being calm, exactly where the judge has it so.
abbrev pub ProbesAreJudged : Type 0
ProbesAreJudged = (site : Site) (addr : Ip4) (past : List Entry)
    → (probed_in (calm_in site) site addr past ≡ true) ↔ Probed (Calm site) (λ first before. Unit {0}) site addr past

-- So the judge's test tells that an address has its basis.
abbrev pub LeasesAreJudged : Type 0
LeasesAreJudged = (site : Site) (net : Net) (now : ℕ) (past : List Entry)
    → (is_leased site net now past ≡ true) ↔ LeaseBasis site net now past
