use Rattle.std.proofs.Common.{◌≤◌, List, ℕ, length, sym, subst}
use Rattle.v6_message.proofs.Lengths.{said_short}
use Rattle.v6_message.proofs.writing.write6.Goals as goal

pub returns-in-Ok-clause-short : goal.returns-in-Ok-clause-short
returns-in-Ok-clause-short c =
    subst (λ (bytes : List ℕ). length bytes ≤ 1472) (sym c.in-Ok.ensures) (said_short c.args.said.now c.args.client.now)
