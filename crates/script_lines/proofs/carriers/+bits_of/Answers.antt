use Rattle.std.proofs.Common.{◌<◌, arith}
use Rattle.script_lines.proofs.TestLaws.{doubled, doubled_fits}
use Rattle.script_lines.proofs.carriers.+bits_of.Goals as goal

pub overflow_mul-result : goal.overflow_mul-result
overflow_mul-result t c =
    let some : 0 < c.args.count = omega arith in
    omega (arith, doubled_fits c.in_ok-up-in-Some.up c.args.count some c.requires.few c.in_ok-up-in-Some.ensures.below)

pub overflow_add-result : goal.overflow_add-result
overflow_add-result t c =
    let some : 0 < c.args.count = omega arith in
    omega (arith, doubled_fits c.in_ok-up-in-Some.up c.args.count some c.requires.few c.in_ok-up-in-Some.ensures.below)

pub overflow_mul-result-else-next-first : goal.overflow_mul-result-else-next-first
overflow_mul-result-else-next-first t c =
    let some : 0 < c.args.count = omega arith in
    omega (arith, doubled_fits c.in_ok-up-in-Some-2.up c.args.count some c.requires.few c.in_ok-up-in-Some-2.ensures.below)

pub returns-in_ok-up-in-Some-clause-below : goal.returns-in_ok-up-in-Some-clause-below
returns-in_ok-up-in-Some-clause-below t c =
    let some : 0 < c.args.count = omega arith in
    doubled c.in_ok-up-in-Some.up c.args.count some c.in_ok-up-in-Some.ensures.below

pub returns-in_ok-up-in-Some-2-clause-below : goal.returns-in_ok-up-in-Some-2-clause-below
returns-in_ok-up-in-Some-2-clause-below t c =
    let some : 0 < c.args.count = omega arith in
    omega (arith, doubled c.in_ok-up-in-Some-2.up c.args.count some c.in_ok-up-in-Some-2.ensures.below)
