use Rattle.std.proofs.Common.{◌≡◌, true, List, length, eqb}
use Rattle.std.specs.Global.{Global, Vec}
use Rattle.std.specs.String.{string_bytes}
use Rattle.std.specs.Prelude.{String}
use Rattle.std.proofs.lemmas.Bool.{eqb-true}
use Rattle.domain_names.proofs.Names.{nothing_named}
use Rattle.domain_names.proofs.SearchNames.{names_given, nothing_given}
use Rattle.domain_names.proofs.search.search_of.Goals as goal

pub returns-then-is_empty-clause-names : goal.returns-then-is_empty-clause-names
returns-then-is_empty-clause-names c =
    let empty : eqb (length c.args.value.now) 0 ≡ true = cc in
    nothing_named c.args.value.now (eqb-true _ _ empty)

pub returns-then-is_empty-clause-gives : goal.returns-then-is_empty-clause-gives
returns-then-is_empty-clause-gives c =
    let empty : eqb (length c.args.value.now) 0 ≡ true = cc in
    nothing_given c.args.value.now (eqb-true _ _ empty)

pub returns-in-Ok-clause-gives : goal.returns-in-Ok-clause-gives
returns-in-Ok-clause-gives c =
    let items : Vec (String Global) → List (String Global) = λ v. v.items in
    names_given items (λ name. string_bytes name) c.args.value.now c.in-Ok.names c.in-Ok.ensures
