-- What devices that tell their calls tell of those that were made.
use Rattle.std.specs.Prelude.{◌≡◌, List, ◌++◌, flat_map, Option, Some, None, option_map}
use Rattle.device_calls.specs.Calls.{Call, link_call, host_call, store_call, hook_call}
use Rattle.file_choices.specs.StoreWalks.{Answered}
use Rattle.device_calls.specs.HostWalks.{HostAnswered}
use Rattle.device_calls.specs.Worlds.{Device, Seen}
use Rattle.device_calls.specs.Faults.{CountsEach}

-- where the calls are told, these were added
abbrev pub Adds : {C : Type 0} → Option (List C) → Option (List C) → List C → Type 0
Adds None new calls = Unit {0}
Adds (Some old) None calls = ⊥
Adds (Some old) (Some new) calls = new ≡ old ++ calls

abbrev pub TellsCalls : {T F C : Type 0} → (T → List C) → Device T F → Device T F → List C → Type 0
TellsCalls calls_in old new calls = Adds (option_map calls_in old.told) (option_map calls_in new.told) calls

-- Each device that tells its calls tells those that are its own, and no other; and no life was to begin. The host and
-- the store answered their own truly and left rows and files as they answered, whether or not it is told which fail;
-- each device counted those that failed.
pub record Tells (old new : Seen) (calls : List Call) : Type 0 where
  pub link : TellsCalls (λ told. told.calls) old.link new.link (flat_map link_call calls)
  pub link_calls : Adds old.link_calls new.link_calls (flat_map link_call calls)
  pub host : TellsCalls (λ told. told.calls) old.host new.host (flat_map host_call calls)
  pub store : TellsCalls (λ told. told.calls) old.store new.store (flat_map store_call calls)
  pub hooks : TellsCalls (λ told. told.calls) old.hooks new.hooks (flat_map hook_call calls)
  pub begins : new.waiting.begins ≡ old.waiting.begins
  pub table : HostAnswered (flat_map host_call calls) old.host.told new.host.told
  pub answers : Answered old.store.failing (flat_map store_call calls) old.store.told new.store.told
  pub failing : new.store.failing ≡ old.store.failing
  pub counts : CountsEach old new calls
