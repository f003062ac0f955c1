use Rattle.std.proofs.Common.{◌≡◌, ◌<◌, ◌∷◌, false, List, length, refl, subst, ◌∙◌}
use Rattle.std.proofs.lemmas.List.{length-set}
use Rattle.device_calls.specs.Does.{Does}
use Rattle.turn_model.specs.KeptFiles.{KeptFile, keeping}
use Rattle.life_files.specs.Keeping.{may_differ, IsKept}
use Rattle.life_files.proofs.KeepingSteps.{keeping_more, keeping_end, front_more, all_taken, kept_at, kept_more, kept_end, but_first, but_more, in_bounds, out_of_bounds}
use Rattle.life_devices.proofs.Begins.{on_err}
use Rattle.life_files.proofs.BegunFiles.{keeping_begun, keeping_later}
use Rattle.life_files.proofs.keeping.keep_each.Goals as goal

pub loop-file-init : goal.loop-file-init
loop-file-init g c = record {
  so_far = λ rest new text did. did;
  begun = λ new begun. begun;
  count = refl;
  kept = tt;
  later = c.requires;
  waiting = refl;
}

pub keep_one-requires : goal.keep_one-requires
keep_one-requires g c =
    but_first
    (λ (file : KeptFile). may_differ file.keeps c.args.touched ≡ false → IsKept c.args.core.now.ifaces file) c.loop-file.files c.loop-file.file-index _
    (in_bounds c.loop-file.files c.args.files.now c.loop-file.file-index c.loop-file.invariant.count c.loop-file-test.true) c.loop-file.invariant.later

pub loop-file-preserved : goal.loop-file-preserved
loop-file-preserved g c =
    let at = c.loop-file in
    let files : List KeptFile = at.files in
    let lt : at.file-index < length files = in_bounds files c.args.files.now at.file-index at.invariant.count c.loop-file-test.true in
    record {
      so_far = λ rest new text more.
          subst
          (λ (all : List KeptFile). Does (keeping c.args.core.now.ifaces c.args.files.now) all
          (g.W.Outside.seen c.args.outside.now) new c.args.text.now.items text)
          (front_more files at.file-index c.keep_one.new.file rest lt)
          (at.invariant.so_far (c.keep_one.new.file ∷ rest) new text
          (keeping_more c.args.core.now.ifaces files at.file-index _ c.keep_one.new.file rest _ _ new _ _ text lt c.in_ok-keep_one.ensures.does more));
      begun =
          λ new more. at.invariant.begun new
          (keeping_later c.args.core.now.ifaces files at.file-index _ c.keep_one.new.file _ _ new _ _ lt c.in_ok-keep_one.ensures.does more);
      count = length-set files at.file-index c.keep_one.new.file ∙ at.invariant.count;
      kept =
          kept_more (IsKept c.args.core.now.ifaces) files at.file-index c.keep_one.new.file lt at.invariant.kept
          (kept_at c.args.core.now.ifaces files at.file-index _ c.keep_one.new.file _ _ _ _ c.in_ok-keep_one.ensures.does);
      later =
          but_more
          (λ (file : KeptFile). may_differ file.keeps c.args.touched ≡ false → IsKept c.args.core.now.ifaces file) files at.file-index c.keep_one.new.file
          lt at.invariant.later;
      waiting = c.keep_one.ensures.waiting ∙ at.invariant.waiting;
    }

pub returns-clause-does : goal.returns-clause-does
returns-clause-does g c =
    let at = c.loop-file in
    subst
    (λ (all : List KeptFile). Does (keeping c.args.core.now.ifaces c.args.files.now) all (g.W.Outside.seen c.args.outside.now)
    (g.W.Outside.seen at.outside) c.args.text.now.items at.text.items)
    (all_taken at.files at.file-index (out_of_bounds at.files c.args.files.now at.file-index at.invariant.count c.loop-file-test.false))
    (at.invariant.so_far _ _ _
    (keeping_end c.args.core.now.ifaces at.files at.file-index _ _
    (out_of_bounds at.files c.args.files.now at.file-index at.invariant.count c.loop-file-test.false)))

pub returns-clause-kept : goal.returns-clause-kept
returns-clause-kept g c =
    kept_end (IsKept c.args.core.now.ifaces) c.loop-file.files c.loop-file.file-index
    (out_of_bounds c.loop-file.files c.args.files.now c.loop-file.file-index c.loop-file.invariant.count c.loop-file-test.false) c.loop-file.invariant.kept

pub returns-in_err-keep_one-clause-begun : goal.returns-in_err-keep_one-clause-begun
returns-in_err-keep_one-clause-begun g c =
    let at = c.loop-file in
    on_err c.from_residual.result
    (at.invariant.begun _
    (keeping_begun c.args.core.now.ifaces at.files at.file-index _ _ _
    (in_bounds at.files c.args.files.now at.file-index at.invariant.count c.loop-file-test.true) c.in_err-keep_one.ensures.begun))
