-- Two calls that are made one after the other.
use Rattle.std.proofs.Common.{◌≡◌, true, List, [], ◌∷◌, Option, None, Result, inl}
use Rattle.std.specs.declared.io.ErrorKind.{ErrorKind}
use Rattle.std.specs.declared.process.status.ExitStatus.{ExitStatus}
use Rattle.system_calls.specs.Asking.{Does}
use Rattle.system_calls.proofs.Doing.{then}
use Rattle.child_devices.specs.ChildCalls.{ChildCall, Killed, Waited, Leaves}

pub ended_so : (answer : Result ExitStatus ErrorKind) (old mid new : Option (List ChildCall)) → Does (Killed None ∷ []) old mid
    → Does (Waited answer ∷ []) mid new
    → Leaves true old new
ended_so answer old mid new killed waited = inl (answer, then (Waited answer) (Killed None ∷ []) old mid new killed waited)
