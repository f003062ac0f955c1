use Rattle.std.proofs.Common.{◌∙◌, ap, map}
use Rattle.store_mem.specs.StoreRecord.{entry_file}
use Rattle.store_mem.proofs.FileMaps.{map_drop}
use Rattle.store_mem.proofs.files.take_out.Goals as goal

pub returns : goal.returns
returns c = ap (map entry_file) c.remove.ensures.entries ∙ map_drop c.args.name.now c.args.files.now.entries
