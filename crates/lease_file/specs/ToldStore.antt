-- What a store tells, in its parts.
use Rattle.std.specs.Prelude.{List, ◌++◌, Option, option_map}
use Rattle.world.specs.FileLists.{StoreFile}
use Rattle.world.specs.StoreCalls.{StoreTold, StoreCall}

abbrev pub told_files : Option StoreTold → Option (List StoreFile)
told_files told = option_map (λ t. t.files) told

abbrev pub told_calls : Option StoreTold → Option (List StoreCall)
told_calls told = option_map (λ t. t.calls) told

-- calls with more after them
abbrev pub with_calls : List StoreCall → Option (List StoreCall) → Option (List StoreCall)
with_calls more calls = option_map (λ earlier. earlier ++ more) calls
