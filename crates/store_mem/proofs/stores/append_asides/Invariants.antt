use Rattle.std.proofs.Common.{map}
use Rattle.std.specs.String.{string_bytes}
use Rattle.std.specs.BTreeMap.{keys}
use Rattle.store_mem.proofs.StoreSteps.{FoundAsides}
use Rattle.store_mem.proofs.stores.append_asides.Given as goal

abbrev pub invariant-loop-name : goal.invariant-loop-name
invariant-loop-name l = FoundAsides l.initial.names.items l.names.items (map string_bytes (keys l.files)) (map string_bytes l.name-iterator)
