-- What is found of an address are the turns on which it rests, and they are found where it rests on some.
use Rattle.std.specs.Prelude.{◌≡◌, ◌↔◌, ℕ, true, List, Option, IfSome}
use Rattle.std.specs.Option.{is_some}
use Rattle.net_types.specs.declared.address.Net.{Net}
use Rattle.evidence_words.specs.Entries.{Entry}
use Rattle.evidence_words.specs.Inputs.{Site}
use Rattle.static_judge.specs.LeaseEvidence.LeaseBasis.{LeaseBasis}
use Rattle.static_judge.specs.LocalEvidence.LinkLocalBasis.{LinkLocalBasis}
use Rattle.basis_turns.specs.LeaseFinds.{lease_found}
use Rattle.basis_turns.specs.LeaseShown.{LeaseShown}
use Rattle.basis_turns.specs.LocalFinds.{local_found}
use Rattle.basis_turns.specs.LocalShown.{LocalShown}

pub record LeaseIsFound (site : Site) (net : Net) (now : ℕ) (past : List Entry) : Type 0 where
  pub shown : IfSome (lease_found site net now past) (λ turns. LeaseShown turns site net now past)
  pub all : (is_some (lease_found site net now past) ≡ true) ↔ LeaseBasis site net now past

abbrev pub FoundLeasesAreShown : Type 0
FoundLeasesAreShown = (site : Site) (net : Net) (now : ℕ) (past : List Entry) → LeaseIsFound site net now past

-- So with a link-local address.
pub record LocalIsFound (site : Site) (net : Net) (past : List Entry) : Type 0 where
  pub shown : IfSome (local_found site net past) (λ turns. LocalShown turns site net past)
  pub all : (is_some (local_found site net past) ≡ true) ↔ LinkLocalBasis site net past

abbrev pub FoundLocalsAreShown : Type 0
FoundLocalsAreShown = (site : Site) (net : Net) (past : List Entry) → LocalIsFound site net past
