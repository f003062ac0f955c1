-- What is asked of all lines of a kind together.
use Rattle.std.specs.Prelude.{ℕ, ◌+◌, ◌≡◌, Bool, true, ◌&&◌, ◌==◌, nat_le, List, [], ◌∷◌, length, map, String}
use Rattle.std.specs.Global.{Global}
use Rattle.std.specs.List.{list_any}
use Rattle.std.specs.Set.{is_member}
use Rattle.std.specs.String.{string_bytes}
use Rattle.net_types.specs.declared.interface.IfSpec.{IfSpec}
use Rattle.iface_lists.specs.UnlikeIfaces.{all_unlike}
use Rattle.world.specs.declared.wakes.Event.{Event}
use Rattle.world.specs.declared.wakes.Event.TheVariants.{Frame, Carrier, Duplicate, Release, Rebind}
use Rattle.world.specs.FileLists.{StoreFile, file_name}
use Rattle.world.specs.FileNames.{is_name}

abbrev pub counts_from : ℕ → List IfSpec → Bool
counts_from index [] = true
counts_from index (spec ∷ specs) = spec.index.number == index && counts_from (index + 1) specs

-- few, numbered from 1, and unlike
unfoldable pub interfaces_fit : List IfSpec → Bool
interfaces_fit specs = nat_le (length specs) 64 && (counts_from 1 specs && all_unlike specs)

-- the keys are the names of the files
abbrev pub AreNames : List (String Global) → List StoreFile → Type 0
AreNames keys files =
    (q : String Global)
    → list_any (λ key. is_name (string_bytes q) (string_bytes key)) keys
    ≡ is_member is_name (map file_name files) (string_bytes q)

abbrev pub is_listed : ℕ → Event → Bool
is_listed count (Frame iface len) = nat_le iface count
is_listed count (Carrier iface up) = nat_le iface count
is_listed count (Duplicate iface addr) = nat_le iface count
is_listed count (Release iface) = nat_le iface count
is_listed count (Rebind iface) = nat_le iface count
is_listed count event = true
