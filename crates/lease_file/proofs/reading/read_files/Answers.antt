use Rattle.std.proofs.Common.{[], ◌∙◌, arith}
use Rattle.lease_file.proofs.Readings.{reading_told, count_more, unread_more, calls_more, missing_more}
use Rattle.lease_file.proofs.reading.read_files.Goals as goal

pub loop-name-preserved : goal.loop-name-preserved
loop-name-preserved g c =
    let at = c.loop-name in
    let one = c.in_ok-got.ensures in
    let all = c.in_ok-push.ensures.items in
    let lt = c.loop-name-test.true in
    let told = reading_told _ _ _ c.in_ok-got.got one.told in
    record {
      later = omega arith;
      failing = c.read_file.ensures.failing ∙ at.invariant.failing;
      cause = unread_more at.gots.items _ _ _ _ _ all at.invariant.cause at.invariant.later one.later one.cause;
      count = count_more at.gots.items _ _ _ all at.invariant.count;
      quiet =
          λ quiet. (
            missing_more c.args.names.now at.name-index (record { ref_ptr = (0, 0); now = [] }) at.gots.items _ _ lt all
                (one.quiet (at.invariant.quiet quiet).1).0 (at.invariant.quiet quiet).0,
            (one.quiet (at.invariant.quiet quiet).1).1,
          );
      calls = calls_more c.args.names.now at.name-index _ at.gots.items _ _ _ _ _ lt at.invariant.count all at.invariant.calls told.0;
      files = told.1 ∙ at.invariant.files;
    }
