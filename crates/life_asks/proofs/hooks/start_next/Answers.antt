use Rattle.std.proofs.Common.{ap, sym, ◌∙◌}
use Rattle.world.specs.HookCalls.{job_of}
use Rattle.hook_child.specs.Supervision.{order_of}
use Rattle.life_asks.proofs.Hookings.{starts_one, starts_no_more, abandons_none, none_ran, runs_now, child_started, child_stays}
use Rattle.life_devices.proofs.Begins.{on_err}
use Rattle.life_asks.proofs.BegunParts.{starts_begun}
use Rattle.life_asks.proofs.hooks.start_next.Goals as goal

pub start-requires : goal.start-requires
start-requires g c =
    c.requires ∙ none_ran c.args.hooks.now (job_of c.in-Start.job) (order_of c.next_job.result) c.next_job.ensures.order (ap order_of c.in-Start.is)

pub note_start-requires : goal.note_start-requires
note_start-requires g c =
    runs_now c.args.hooks.now c.next_job.new.s c.args.at (job_of c.in-Start.job) (order_of c.next_job.result) c.next_job.ensures.order
    (ap order_of c.in-Start.is) c.next_job.ensures.line

pub returns-in_ok-done-in-Start-clause-does : goal.returns-in_ok-done-in-Start-clause-does
returns-in_ok-done-in-Start-clause-does g c =
    starts_one c.args.hooks.now c.next_job.new.s c.note_start.new.hooks c.args.at (job_of c.in-Start.job)
    (order_of c.next_job.result) c.in_ok-done-in-Start.done _ _ _ _ c.next_job.ensures.order (ap order_of c.in-Start.is) c.next_job.ensures.line
    c.note_start.ensures c.in_ok-done-in-Start.ensures.does

pub returns-in_ok-done-in-Start-clause-child : goal.returns-in_ok-done-in-Start-clause-child
returns-in_ok-done-in-Start-clause-child g c =
    c.in_ok-done-in-Start.ensures.child
    ∙ sym (child_started c.next_job.new.s c.note_start.new.hooks c.in_ok-done-in-Start.done
    (runs_now c.args.hooks.now c.next_job.new.s c.args.at (job_of c.in-Start.job) (order_of c.next_job.result) c.next_job.ensures.order
    (ap order_of c.in-Start.is) c.next_job.ensures.line)
    c.note_start.ensures)

pub returns-in-Idle-clause-does : goal.returns-in-Idle-clause-does
returns-in-Idle-clause-does g c =
    starts_no_more c.args.hooks.now c.next_job.new.s c.args.at (order_of c.next_job.result) _ _ c.next_job.ensures.order
    (ap order_of c.in-Idle.is) c.next_job.ensures.line

pub returns-in-Idle-clause-child : goal.returns-in-Idle-clause-child
returns-in-Idle-clause-child g c =
    c.requires
    ∙ sym
    (child_stays c.args.hooks.now c.next_job.new.s c.args.at (order_of c.next_job.result) c.next_job.ensures.order
    (ap order_of c.in-Idle.is) c.next_job.ensures.line)

pub returns-in-Abandon-clause-does : goal.returns-in-Abandon-clause-does
returns-in-Abandon-clause-does g c =
    abandons_none c.args.hooks.now.child c.args.hooks.now.waiting (sym (ap order_of c.in-Abandon.is) ∙ c.next_job.ensures.order)

pub returns-in-Abandon-clause-child : goal.returns-in-Abandon-clause-child
returns-in-Abandon-clause-child g c =
    abandons_none c.args.hooks.now.child c.args.hooks.now.waiting (sym (ap order_of c.in-Abandon.is) ∙ c.next_job.ensures.order)

pub returns-in_err-done-in-Start-clause-begun : goal.returns-in_err-done-in-Start-clause-begun
returns-in_err-done-in-Start-clause-begun g c =
    on_err c.from_residual.result
    (starts_begun c.args.hooks.now c.args.at (job_of c.in-Start.job) (order_of c.next_job.result) _ _ c.next_job.ensures.order
    (ap order_of c.in-Start.is) c.in_err-done-in-Start.ensures.begun)
