-- The DUID of the host in a life, by what its opening read.
use Rattle.std.specs.Prelude.{ℕ, bytes_eq, if◌then◌else◌, List, [], ◌∷◌, flat_map, Option, Some, None}
use Rattle.world.specs.StoreCalls.{StoreCall, Reading, ReadFile}
use Rattle.turn_model.specs.IfaceSettings.declared.interfaces.Managed.{Managed}
use Rattle.turn_model.specs.ClientModel.HostDuid.{host_duid}
use Rattle.turn_model.specs.DeviceCalls.Calls.{Call, store_call}
use Rattle.turn_model.specs.Loading.{duid_file}

abbrev pub read_in : (name : List ℕ) → StoreCall → Option Reading
read_in name (ReadFile other reading) = if bytes_eq name other then Some reading else None
read_in name call = None

abbrev pub first_of : Option Reading → Option Reading → Option Reading
first_of (Some reading) later = Some reading
first_of None later = later

abbrev pub read_among : (name : List ℕ) → List StoreCall → Option Reading
read_among name [] = None
read_among name (call ∷ calls) = first_of (read_in name call) (read_among name calls)

-- what the first reading of the DUID's file gave, where it was read
abbrev pub duid_read : List Call → Option Reading
duid_read calls = read_among duid_file (flat_map store_call calls)

-- that of its file, else the one that is made of a hardware address
abbrev pub duid_shown : List Managed → (opening : List Call) → List ℕ
duid_shown managed opening = host_duid managed (duid_read opening)
