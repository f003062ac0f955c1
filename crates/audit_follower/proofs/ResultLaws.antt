-- What holds of a result.
use Rattle.std.proofs.Common.{Result, Ok, Err, IfOk}

-- what holds of a result gives more of it
pub ok_as : {A E : Type 0} (P Q : A → Type 0) → ((x : A) → P x → Q x) → (result : Result A E) → IfOk result P → IfOk result Q
ok_as P Q more (Ok x) holds = more x holds
ok_as P Q more (Err e) holds = tt
