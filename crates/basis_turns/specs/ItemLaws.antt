-- What is found of an address of a DHCPv6 lease is the turn on which it rests, and one is found where it rests on some.
use Rattle.std.specs.Prelude.{◌≡◌, ◌↔◌, ℕ, true, List, IfSome}
use Rattle.std.specs.Option.{is_some}
use Rattle.net_types.specs.declared.address.Net.TheVariants.{V6}
use Rattle.net_types.specs.declared.address.Net6.{Net6}
use Rattle.evidence_words.specs.Entries.{Entry}
use Rattle.evidence_words.specs.Inputs.{Site}
use Rattle.item_judge.specs.Lease6Judge.HeardBasis.{HeardAddressBasis}
use Rattle.basis_turns.specs.ItemFinds.{item_found}
use Rattle.basis_turns.specs.ItemShown.{ItemShown}

pub record ItemIsFound (site : Site) (net : Net6) (now : ℕ) (past : List Entry) : Type 0 where
  pub shown : IfSome (item_found site net now past) (λ turns. ItemShown turns site (V6 net) now past)
  pub all : (is_some (item_found site net now past) ≡ true) ↔ HeardAddressBasis site (V6 net) now past

abbrev pub FoundItemsAreShown : Type 0
FoundItemsAreShown = (site : Site) (net : Net6) (now : ℕ) (past : List Entry) → ItemIsFound site net now past
