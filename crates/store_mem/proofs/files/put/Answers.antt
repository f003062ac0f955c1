use Rattle.std.proofs.Common.{◌∙◌, ap, map}
use Rattle.store_mem.specs.StoreRecord.{entry_file}
use Rattle.store_mem.proofs.FileMaps.{map_put}
use Rattle.store_mem.proofs.files.put.Goals as goal

pub returns-in-Ok-clause-ok : goal.returns-in-Ok-clause-ok
returns-in-Ok-clause-ok c = ap (map entry_file) c.in-Ok.ensures.entries ∙ map_put c.args.name c.args.bytes c.args.files.now.entries
