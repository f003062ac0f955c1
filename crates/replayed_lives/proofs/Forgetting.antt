-- A child that runs is forgotten.
use Rattle.std.proofs.Common.{◌≡◌, false, Some}
use Rattle.world.specs.HookCalls.{Abandons}
use Rattle.world_mem.specs.HookRecord.{HooksState}
use Rattle.replayed_lives.specs.Memory.{forgotten}

some_same : {A : Type 0} {a b : A} → Some a ≡ Some b → a ≡ b
some_same e = cc

pub forgets : (old new : HooksState) → new.running ≡ false → Abandons old.running (Some old.told) (Some new.told) → Some new.failing ≡ Some old.failing
    → new ≡ forgotten old
forgets old new runs told fails = λ i. record { told = some_same told i; running = runs i; failing = some_same fails i }
