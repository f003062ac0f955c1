-- Why an address may be held, and the turns on which that rests.
use Rattle.std.specs.Prelude.{◌≡◌, ◌↔◌, ◌⊎◌, ℕ, true, List, IfSome}
use Rattle.std.specs.Option.{is_some}
use Rattle.net_types.specs.declared.address.Net.{Net}
use Rattle.evidence_words.specs.Entries.{Entry}
use Rattle.evidence_words.specs.Inputs.{Site}
use Rattle.static_judge.specs.Evidence.StaticBasis.{StaticBasis}
use Rattle.static_judge.specs.LeaseEvidence.LeaseBasis.{LeaseBasis}
use Rattle.item_judge.specs.Lease6Judge.HeardBasis.{HeardAddressBasis}
use Rattle.static_judge.specs.LocalEvidence.LinkLocalBasis.{LinkLocalBasis}
use Rattle.basis_turns.specs.BasisFinds.{basis_found}
use Rattle.basis_turns.specs.ItemShown.{ItemShown}
use Rattle.basis_turns.specs.LeaseShown.{LeaseShown}
use Rattle.basis_turns.specs.LocalShown.{LocalShown}
use Rattle.basis_turns.specs.declared.walks.Basis.{Basis}
use Rattle.basis_turns.specs.declared.walks.Basis.TheVariants.{Static, Lease4, Lease6, LinkLocal}

-- The address has a basis of this kind, whose turns are these.
abbrev pub ShownBy : Basis → Site → Net → (now : ℕ) → List Entry → Type 0
ShownBy Static site net now past = StaticBasis site net past
ShownBy (Lease4 turns) site net now past = LeaseShown turns site net now past
ShownBy (Lease6 turns) site net now past = ItemShown turns site net now past
ShownBy (LinkLocal turns) site net now past = LocalShown turns site net past

-- why it may be held, but for a lease of an earlier life
abbrev pub HasOwnBasis : Site → Net → (now : ℕ) → List Entry → Type 0
HasOwnBasis site net now past =
    StaticBasis site net past ⊎ (LinkLocalBasis site net past
    ⊎ (LeaseBasis site net now past ⊎ HeardAddressBasis site net now past))

-- What is shown of an address gives its basis.
abbrev pub ShownHaveBases : Type 0
ShownHaveBases = (basis : Basis) (site : Site) (net : Net) (now : ℕ) (past : List Entry)
    → ShownBy basis site net now past → HasOwnBasis site net now past

-- What is found is shown, and a basis is found exactly where there is one.
pub record IsFound (site : Site) (net : Net) (now : ℕ) (past : List Entry) : Type 0 where
  pub shown : IfSome (basis_found site net now past) (λ basis. ShownBy basis site net now past)
  pub all : (is_some (basis_found site net now past) ≡ true) ↔ HasOwnBasis site net now past

abbrev pub FoundAreShown : Type 0
FoundAreShown = (site : Site) (net : Net) (now : ℕ) (past : List Entry) → IsFound site net now past
