use Rattle.std.proofs.Common.{ap}
use Rattle.world.specs.HookCalls.{job_of}
use Rattle.hook_child.specs.Supervision.{Supervision}
use Rattle.life_asks.proofs.Hookings.{puts_taken, puts_dropped}
use Rattle.life_devices.proofs.Successes.{if_ok}
use Rattle.life_asks.proofs.hooks.put_named.Goals as goal

pub returns-in-Ok-clause-puts : goal.returns-in-Ok-clause-puts
returns-in-Ok-clause-puts c =
    puts_taken (job_of c.args.job) c.args.hooks.now c.put.new.s _ c.put.result c.args.text.now.items c.put.ensures.answer c.in-Ok.is c.put.ensures.line

pub returns-in-Err-clause-puts : goal.returns-in-Err-clause-puts
returns-in-Err-clause-puts c = if_ok c.say.result
    (λ x prints. puts_dropped
    (job_of c.args.job) c.args.hooks.now c.put.new.s _ c.put.result _ _ _ c.put.ensures.answer c.in-Err.is c.put.ensures.line c.requires prints)
    c.say.ensures

pub returns-in-Ok-clause-child : goal.returns-in-Ok-clause-child
returns-in-Ok-clause-child c = ap (λ (s : Supervision). s.child) c.put.ensures.line

pub returns-in-Err-clause-child : goal.returns-in-Err-clause-child
returns-in-Err-clause-child c = ap (λ (s : Supervision). s.child) c.put.ensures.line
