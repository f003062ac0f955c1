-- Less than ten seconds after a moment, or before it.
use Rattle.std.proofs.Common.{◌≡◌, ℕ, ◌+◌, ◌-◌, arith}
use Rattle.std.proofs.lemmas.Bool.Decides.{nat_tests}
use Rattle.std.specs.Prelude.{nat_lt}

pub sooner : (since now : ℕ) → nat_lt (now - since) 10000 ≡ nat_lt now (since + 10000)
sooner since now = grind (arith, nat_tests)
