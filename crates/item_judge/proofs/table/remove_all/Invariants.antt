use Rattle.std.proofs.Common.{◌≡◌, take}
use Rattle.net_types.specs.declared.address.Net6.{Net6}
use Rattle.lease6_judge.specs.Terms.{names}
use Rattle.item_judge.specs.Tables.{term_at}
use Rattle.item_judge.specs.Walks.{if_revised}
use Rattle.item_judge.proofs.table.remove_all.Given as goal

abbrev pub invariant-saids : goal.invariant-saids
invariant-saids l = (net : Net6) → term_at l.terms net ≡ if_revised (names net (take l.said-index l.saids)) (term_at l.initial.terms net)
