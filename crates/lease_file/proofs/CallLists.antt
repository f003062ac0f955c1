-- Calls after calls.
use Rattle.std.proofs.Common.{◌≡◌, List, ◌++◌, Option, Some, None, refl, ap, append_assoc}
use Rattle.world.specs.StoreCalls.{StoreCall}
use Rattle.lease_file.specs.ToldStore.{with_calls}

pub with_calls-append : (a b : List StoreCall) (calls : Option (List StoreCall)) → with_calls b (with_calls a calls) ≡ with_calls (a ++ b) calls
with_calls-append a b None = refl
with_calls-append a b (Some calls) = ap Some (append_assoc calls a b)
