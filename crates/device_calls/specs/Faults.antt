-- Calls that were answered that they failed, and how devices count them.
use Rattle.std.specs.Prelude.{ℕ, ◌+◌, ◌≤◌, Bool, false, not, List, flat_map, count_by, is_some}
use Rattle.world.specs.LinkCalls.{LinkCall, Waited, Offered}
use Rattle.world.specs.HostCalls.{HostCall}
use Rattle.world.specs.StoreCalls.{StoreCall}
use Rattle.world.specs.HookCalls.{HookCall, Started, Polled, Abandoned}
use Rattle.host_model.specs.HostTable.{is_done}
use Rattle.file_choices.specs.Choices.{succeeded}
use Rattle.device_calls.specs.Calls.{Call, link_call, host_call, store_call, hook_call}
use Rattle.device_calls.specs.Worlds.{Seen}

-- a frame that wasn't taken (waits that fail have a count of their own)
abbrev pub failed_send : LinkCall → Bool
failed_send (Waited until given) = false
failed_send (Offered iface frame taken) = not taken

abbrev pub failed_host_call : HostCall → Bool
failed_host_call call = not (is_done call)

abbrev pub failed_store_call : StoreCall → Bool
failed_store_call call = not (succeeded call)

abbrev pub failed_hook_call : HookCall → Bool
failed_hook_call (Started job done) = not done
failed_hook_call (Polled answer) = not (is_some answer)
failed_hook_call Abandoned = false

-- the count of faults rose by as many as of these calls failed, or by more
abbrev pub CountsFailed : {C : Type 0} → (C → Bool) → List C → (old new : ℕ) → Type 0
CountsFailed failed calls old new = old + count_by failed calls ≤ new

-- so did that of each device
pub record CountsEach (old new : Seen) (calls : List Call) : Type 0 where
  pub sends : CountsFailed failed_send (flat_map link_call calls) old.link.faults new.link.faults
  pub host : CountsFailed failed_host_call (flat_map host_call calls) old.host.faults new.host.faults
  pub store : CountsFailed failed_store_call (flat_map store_call calls) old.store.faults new.store.faults
  pub hooks : CountsFailed failed_hook_call (flat_map hook_call calls) old.hooks.faults new.hooks.faults
