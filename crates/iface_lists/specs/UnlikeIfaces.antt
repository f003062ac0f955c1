-- Interfaces whose names and hardware addresses are unlike.
use Rattle.std.specs.Prelude.{Bool, true, not, ◌&&◌, List, [], ◌∷◌, bytes_eq}
use Rattle.std.specs.List.{list_all}
use Rattle.net_types.specs.declared.interface.IfSpec.{IfSpec}
use Rattle.net_types.specs.NameText.{name_text}

abbrev pub is_unlike : IfSpec → IfSpec → Bool
is_unlike a b = not (bytes_eq (name_text a.name) (name_text b.name)) && not (bytes_eq a.mac.bytes b.mac.bytes)

abbrev pub all_unlike : List IfSpec → Bool
all_unlike [] = true
all_unlike (spec ∷ specs) = list_all (is_unlike spec) specs && all_unlike specs
