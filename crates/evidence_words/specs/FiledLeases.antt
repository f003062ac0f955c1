-- The leases with which an interface begins in a life, by what its opening read.
use Rattle.std.specs.Prelude.{List, Option, flat_map, option_and_then}
use Rattle.turn_model.specs.LeaseText.Leases.{LeaseContent}
use Rattle.turn_model.specs.Lease6Text.Leases.{Lease6Content}
use Rattle.turn_model.specs.IfaceSettings.declared.interfaces.Managed.{Managed}
use Rattle.turn_model.specs.ClientModel.KeptLeases.{kept_by}
use Rattle.turn_model.specs.ClientModel.KeptLeases6.{kept6_by}
use Rattle.turn_model.specs.DeviceCalls.Calls.{Call, store_call}
use Rattle.turn_model.specs.Loading.{lease4_file, lease6_file}
use Rattle.evidence_words.specs.HostDuids.{read_among}

-- the lease of DHCPv4 that the first reading of its file gave, where it has the interface's name and hardware address
abbrev pub kept4_shown : (opening : List Call) → Managed → Option LeaseContent
kept4_shown opening m = option_and_then (kept_by m.spec) (read_among (lease4_file m) (flat_map store_call opening))

-- that of DHCPv6
abbrev pub kept6_shown : (opening : List Call) → Managed → Option Lease6Content
kept6_shown opening m = option_and_then (kept6_by m.spec) (read_among (lease6_file m) (flat_map store_call opening))
