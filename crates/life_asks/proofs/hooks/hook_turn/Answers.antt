use Rattle.std.proofs.Common.{Option, map, sym, ap, ◌∙◌, refl}
use Rattle.std.specs.Option.{is_some}
use Rattle.world.specs.HookCalls.{job_of}
use Rattle.hook_child.specs.Supervision.{next_order, after_next}
use Rattle.hook_child.specs.declared.child.Child.{Child}
use Rattle.device_calls.proofs.Doing.{does_after}
use Rattle.turn_model.specs.Hooking.{putting, starting, hooking}
use Rattle.life_devices.proofs.Successes.{if_ok}
use Rattle.device_calls.proofs.Begun.{begun_none, begun_later}
use Rattle.life_devices.proofs.Begins.{on_err, err_so}
use Rattle.life_asks.proofs.hooks.hook_turn.Goals as goal

pub returns-clause-does : goal.returns-clause-does
returns-clause-does g c = if_ok c.start_next.result
    (λ x did. does_after (putting (map job_of c.args.jobs.items) c.args.hooks.now)
    (λ line. starting (next_order line) (after_next c.args.at line)) c.put_all.new.hooks c.start_next.new.hooks
    _ _ _ _ _ _ (c.in_ok-put_all.ensures.puts (g.W.Outside.seen c.args.outside.now)) did)
    c.start_next.ensures.does

pub start_next-requires : goal.start_next-requires
start_next-requires g c = c.requires ∙ sym (ap (λ (child : Option Child). is_some child) c.put_all.ensures.child)

pub returns-in_err-put_all-clause-begun : goal.returns-in_err-put_all-clause-begun
returns-in_err-put_all-clause-begun g c =
    on_err c.from_residual.result (begun_none (hooking c.args.at (map job_of c.args.jobs.items) c.args.hooks.now) _ _ refl)

pub returns-clause-begun : goal.returns-clause-begun
returns-clause-begun g c =
    err_so c.start_next.result
    (λ begun. begun_later (putting (map job_of c.args.jobs.items) c.args.hooks.now)
    (λ line. starting (next_order line) (after_next c.args.at line)) c.put_all.new.hooks
    _ _ _ _ _ (c.in_ok-put_all.ensures.puts (g.W.Outside.seen c.args.outside.now)) begun)
    c.start_next.ensures.begun
