use Rattle.std.proofs.Common.{refl}
use Rattle.store_mem.proofs.StoreSteps.{put_more, named_at, named_more}
use Rattle.store_mem.proofs.stores.first_files.Goals as goal

pub loop-file-preserved : goal.loop-file-preserved
loop-file-preserved c = (
  put_more c.file-item.result c.args.files.now _ _ c.loop-file.file-index c.file-item.is c.loop-file-test.true c.in-Ok.ensures c.loop-file.invariant.0,
  λ named. named_more c.file-item.result _ _ c.in-Ok.ensures
      (named_at c.args.files.now c.args.files.now c.file-item.result c.loop-file.file-index c.loop-file-test.true c.file-item.is refl named)
      (c.loop-file.invariant.1 named),
)
