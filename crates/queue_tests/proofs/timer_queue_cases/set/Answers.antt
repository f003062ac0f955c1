use Rattle.std.proofs.Common.{arith}
use Rattle.queue_tests.proofs.timer_queue_cases.set.Goals as goal

pub returns : goal.returns
returns g c = omega (arith, c.set.ensures.steps 8 (omega arith))
