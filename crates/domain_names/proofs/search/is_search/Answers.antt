use Rattle.std.proofs.Common.{◌≡◌, true, false, length, eqb, arith}
use Rattle.std.proofs.lemmas.Bool.{eqb-true, eqb-false}
use Rattle.domain_names.proofs.Names.{name_forward, one_more_walked, no_name_more, names_whole}
use Rattle.domain_names.proofs.SearchNames.{nothing_searched, none_searched, some_searched}
use Rattle.domain_names.proofs.search.is_search.Goals as goal

pub returns-then-is_empty : goal.returns-then-is_empty
returns-then-is_empty c =
    let empty : eqb (length c.args.value.now) 0 ≡ true = cc in
    nothing_searched c.args.value.now (eqb-true _ _ empty)

pub returns-in_default : goal.returns-in_default
returns-in_default c = none_searched c.args.value.now (no_name_more _ _ _ c.names.invariant.read (rw c.in_default.is at c.read_name.ensures) c.names-test.true)

pub names-preserved : goal.names-preserved
names-preserved c = one_more_walked _ _ c.names.invariant _ _ c.in-Some.ensures

pub names-smaller : goal.names-smaller
names-smaller c = let on = name_forward _ _ _ _ c.in-Some.ensures in omega (arith, on.0, on.1)

pub returns : goal.returns
returns c =
    let filled : eqb (length c.args.value.now) 0 ≡ false = cc in
    some_searched c.args.value.now c.names.invariant.done (omega (arith, eqb-false _ _ filled)) (names_whole _ _ _ c.names.invariant.read c.names-test.false)
