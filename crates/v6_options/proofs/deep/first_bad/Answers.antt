use Rattle.std.proofs.Common.{arith, drop}
use Rattle.std.proofs.lemmas.List.{length-drop}
use Rattle.v6_options.proofs.WholeAreas.{nothing_passed, one_passed, all_passed, bad_passed}
use Rattle.v6_options.proofs.deep.first_bad.Goals as goal

pub options-init : goal.options-init
options-init c = record { passed = nothing_passed c.args.area.now; place = omega arith }

pub options-preserved : goal.options-preserved
options-preserved c =
    let len = c.in-Whole.len in
    let room = c.in-Whole.ensures.room in
    let passed = one_passed _ _ _ _ len c.options.invariant.passed c.in-Whole.ensures.exact in
    record {
      passed = rw (← c.after_header-rest.ensures) at passed;
      place =
          rw c.after_header-rest.ensures
          (omega (arith, room.0, c.options.invariant.place, length-drop len (drop 4 c.options.rest.now), length-drop 4 c.options.rest.now));
    }

pub returns-in-End : goal.returns-in-End
returns-in-End c = all_passed _ _ _ c.options.invariant.passed c.in-End.ensures.room

pub returns-in-Bad : goal.returns-in-Bad
returns-in-Bad c = bad_passed _ _ _ c.options.invariant.passed c.in-Bad.ensures.exact
