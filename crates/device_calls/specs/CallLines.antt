-- The lines of a transcript that a call gives.
use Rattle.std.specs.Prelude.{ℕ, List, [], ◌∷◌, map, length, find, bytes_eq, codes, Some, None, option_map, unwrap_or}
use Rattle.world.specs.LinkCalls.{LinkCall, Waited, Offered}
use Rattle.world.specs.HostCalls.{HostCall, Listed, Added, Removed}
use Rattle.world.specs.StoreCalls.{StoreCall, ListedAsides, ReadFile, WroteAside, SyncedAside, RenamedAside, RemovedFile, SettledFiles}
use Rattle.world.specs.HookCalls.{HookCall, Job, Variable, Started, Polled, Abandoned}
use Rattle.typed_lines.specs.ScriptModel.Lines as lines
use Rattle.typed_lines.specs.ScriptModel.Lines.{Line}
use Rattle.device_calls.specs.Calls.{Call, Link, Host, Store, Hook, Dropped}

-- (a wait has no line of its own: the turn line says what came)
abbrev pub link_lines : LinkCall → List Line
link_lines (Waited until given) = []
link_lines (Offered iface frame taken) = lines.Send (record { number = iface }) frame taken ∷ []

abbrev pub host_lines : HostCall → List Line
host_lines (Listed None) = lines.HostListFailed ∷ []
host_lines (Listed (Some rows)) = lines.HostListed (length rows) ∷ map lines.Row rows
host_lines (Added row done) = lines.HostAdd row done ∷ []
host_lines (Removed row done) = lines.HostDel row done ∷ []

abbrev pub store_lines : StoreCall → List Line
store_lines (ListedAsides None) = lines.AsidesFailed ∷ []
store_lines (ListedAsides (Some names)) = lines.Asides names ∷ []
store_lines (ReadFile name reading) = lines.Read name reading ∷ []
store_lines (WroteAside name bytes done) = lines.Wrote name bytes done ∷ []
store_lines (SyncedAside name done) = lines.Synced name done ∷ []
store_lines (RenamedAside name done) = lines.Renamed name done ∷ []
store_lines (RemovedFile name done) = lines.Removed name done ∷ []
store_lines (SettledFiles done) = lines.Settled done ∷ []

-- the interface of a job, as its variable of that name has it
abbrev pub interface_of : Job → List ℕ
interface_of job =
    unwrap_or
    (option_map (λ variable. variable.value)
    (find (λ variable. bytes_eq variable.name (codes "interface")) job.vars))
    []

abbrev pub variable_line : Variable → Line
variable_line variable = lines.Variable variable.name variable.value

abbrev pub hook_lines : (number : ℕ) → HookCall → List Line
hook_lines number (Started job done) =
    lines.HookStarted job.number job.reason (interface_of job) done ∷ map variable_line job.vars
hook_lines number (Polled answer) = lines.HookPolled number answer ∷ []
hook_lines number Abandoned = lines.HookAbandoned number ∷ []

abbrev pub lines_of : Call → List Line
lines_of (Link call) = link_lines call
lines_of (Host call) = host_lines call
lines_of (Store call) = store_lines call
lines_of (Hook number call) = hook_lines number call
lines_of (Dropped job) = lines.HookDropped job.number job.reason (interface_of job) ∷ []
