use Rattle.std.proofs.Common.{ℕ, Option, cond, nat_eq, refl, ap, ◌∙◌}
use Rattle.std.specs.FinMap as finite
use Rattle.client_core.specs.Due.{dues_of, number_of}
use Rattle.client_core.proofs.Looking.{looked_all, looked_on}
use Rattle.client_core.proofs.Numbers.{at_rank, rank_at}
use Rattle.client_core.proofs.Putting.{puts_none, puts_more, puts_all}
use Rattle.client_core.proofs.due_queue.put_each.Goals as goal

pub loop-machine-init : goal.loop-machine-init
loop-machine-init c = (refl, puts_none c.args.place (dues_of c.args.iface.now) c.args.queue.now)

pub loop-machine-preserved : goal.loop-machine-preserved
loop-machine-preserved c =
    let rank = c.loop-machine.machine-index in let number = number_of c.args.place (at_rank rank) in (
      looked_on rank c.loop-machine-test.true c.args.looks.now c.loop-machine.looks c.look-due.new.looks c.loop-machine.invariant.0 c.look-due.ensures.counted,
      puts_more c.args.place rank (at_rank rank) (dues_of c.args.iface.now) c.args.queue.now c.loop-machine.queue c.put_one.new.queue
          (rank_at rank c.loop-machine-test.true)
          c.loop-machine.invariant.1
          (λ key. c.put_one.ensures key ∙ ap (λ (due : Option ℕ). cond (nat_eq key number) due (finite.get c.loop-machine.queue key)) c.look-due.ensures.due),
    )

pub returns-clause-puts : goal.returns-clause-puts
returns-clause-puts c =
    puts_all c.args.place c.loop-machine.machine-index
    (dues_of c.args.iface.now) c.args.queue.now c.loop-machine.queue c.requires c.loop-machine-test.false c.loop-machine.invariant.1

pub returns-clause-counted : goal.returns-clause-counted
returns-clause-counted c =
    looked_all c.loop-machine.machine-index c.args.looks.now c.loop-machine.looks c.loop-machine-test.false c.loop-machine.invariant.0
