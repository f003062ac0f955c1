use Rattle.std.proofs.Common.{◌∙◌}
use Rattle.daemon.proofs.OpeningSteps.{removing_more, removing_end, removed_none, removed_some, none_there, some_there}
use Rattle.life_devices.proofs.Begins.{on_err}
use Rattle.life_files.proofs.BegunFiles.{removing_begun, removing_later, removing_settles, some_begun}
use Rattle.daemon.proofs.openings.remove_all.Goals as goal

pub loop-name-preserved : goal.loop-name-preserved
loop-name-preserved g c = record {
  so_far = λ x new text rest. c.loop-name.invariant.so_far x new text
      (removing_more c.args.names.now c.loop-name.name-index _ c.name-item.result c.in_ok-_done._done x _ _ new _ _ text c.name-item.is c.loop-name-test.true
      (rw c.deref.ensures at c.in_ok-_done.ensures.does) rest);
  begun = λ new rest. c.loop-name.invariant.begun new
      (removing_later c.args.names.now c.loop-name.name-index _ c.name-item.result c.in_ok-_done._done _ _ new _ _ c.name-item.is c.loop-name-test.true
      (rw c.deref.ensures at c.in_ok-_done.ensures.does) rest);
  waiting = c.remove.ensures.waiting ∙ c.loop-name.invariant.waiting;
}

pub returns-then-is_empty-clause-does : goal.returns-then-is_empty-clause-does
returns-then-is_empty-clause-does g c =
    removed_none c.args.names.now tt _ _ (none_there c.args.names.now c.is_empty.result c.is_empty.ensures c.if-is_empty.true)

pub returns-clause-does : goal.returns-clause-does
returns-clause-does g c =
    removed_some c.args.names.now tt _ _ _ _ (some_there c.args.names.now c.is_empty.result c.is_empty.ensures c.if-is_empty.false)
    (c.loop-name.invariant.so_far tt _ _
    (removing_end c.args.names.now c.loop-name.name-index c.in_ok-_done-2._done tt _ _ _ _ c.loop-name-test.false c.in_ok-_done-2.ensures.does))

pub returns-in_err-_done-clause-begun : goal.returns-in_err-_done-clause-begun
returns-in_err-_done-clause-begun g c =
    let at = c.loop-name in
    on_err c.from_residual.result
    (some_begun c.args.names.now _ _ (some_there c.args.names.now c.is_empty.result c.is_empty.ensures c.if-is_empty.false)
    (at.invariant.begun _
    (removing_begun c.args.names.now at.name-index _ c.name-item.result _ _ c.name-item.is c.loop-name-test.true
    (rw c.deref.ensures at c.in_err-_done.ensures.begun))))

pub returns-in_err-_done-2-clause-begun : goal.returns-in_err-_done-2-clause-begun
returns-in_err-_done-2-clause-begun g c =
    let at = c.loop-name in
    on_err c.from_residual-in_err-_done-2.result
    (some_begun c.args.names.now _ _ (some_there c.args.names.now c.is_empty.result c.is_empty.ensures c.if-is_empty.false)
    (at.invariant.begun _ (removing_settles c.args.names.now at.name-index _ _ c.loop-name-test.false c.in_err-_done-2.ensures.begun)))
