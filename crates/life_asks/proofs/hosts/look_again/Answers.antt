use Rattle.std.proofs.Common.{None, refl, ap, ◌∙◌}
use Rattle.std.specs.Prelude.{filter}
use Rattle.settings.specs.ManagedRows.{is_managed}
use Rattle.life_devices.specs.Answered.{rows_in}
use Rattle.life_asks.specs.Tables.{known_in}
use Rattle.life_asks.proofs.Parts.{listed_none, listed_some}
use Rattle.life_devices.proofs.Successes.{if_ok}
use Rattle.life_asks.proofs.HostSteps.{some_in_order, mine_in_order, mine_are, led_fit}
use Rattle.device_calls.specs.Calls.{ListRows}
use Rattle.turn_model.specs.Turns.{hosting_listed}
use Rattle.device_calls.proofs.Begun.{begun_ask}
use Rattle.life_devices.proofs.Begins.{on_err, err_so, asked_only}
use Rattle.life_asks.proofs.BegunParts.{listed_later}
use Rattle.life_asks.proofs.hosts.look_again.Goals as goal

pub diff_between-requires-clause-known : goal.diff_between-requires-clause-known
diff_between-requires-clause-known g c =
    mine_in_order c.args.managed.now c.in-Some.rows.items _
    (c.deref-in-Some.ensures.value ∙ c.in_ok-mine-in-Some.ensures ∙ ap (filter (is_managed c.args.managed.now)) c.deref.ensures.value)
    (some_in_order c.in_ok-list.field-0 c.in-Some.rows c.in-Some.is c.in_ok-list.ensures.in_order)

pub update-requires : goal.update-requires
update-requires g c = led_fit c.in_ok-diff-in-Some.diff _ c.args.wanted.now c.in_ok-diff-in-Some.ensures c.requires.rows

pub returns-in-None-clause-does : goal.returns-in-None-clause-does
returns-in-None-clause-does g c =
    listed_none c.args.managed.now c.args.wanted.now None (rows_in c.in_ok-list.field-0) _ _ _ _ refl (ap rows_in c.in-None.is) c.in_ok-list.ensures.does

pub returns-in_ok-diff-in-Some-clause-does : goal.returns-in_ok-diff-in-Some-clause-does
returns-in_ok-diff-in-Some-clause-does g c =
    let rows = c.in-Some.rows.items in
    let mine = c.deref-in-Some.result.now in
    let mine_is = c.deref-in-Some.ensures.value ∙ c.in_ok-mine-in-Some.ensures ∙ ap (filter (is_managed c.args.managed.now)) c.deref.ensures.value in
    let in_order = some_in_order c.in_ok-list.field-0 c.in-Some.rows c.in-Some.is c.in_ok-list.ensures.in_order in
    if_ok c.update.result
    (λ table updates. listed_some c.args.managed.now c.args.wanted.now rows mine None (rows_in c.in_ok-list.field-0)
    (known_in table c.args.wanted.now) _ _ _ _ _ _ refl (ap rows_in c.in-Some.is)
    (mine_are c.args.managed.now rows mine mine_is in_order) c.in_ok-list.ensures.does
    (updates mine c.args.wanted.now (mine_in_order c.args.managed.now rows mine mine_is in_order) c.requires.in_order c.in_ok-diff-in-Some.ensures))
    c.update.ensures.does

pub returns-in_err-list-clause-begun : goal.returns-in_err-list-clause-begun
returns-in_err-list-clause-begun g c =
    on_err c.from_residual.result (begun_ask ListRows (hosting_listed c.args.managed.now c.args.wanted.now) _ _ c.in_err-list.ensures.begun)

pub returns-in_err-mine-in-Some-clause-begun : goal.returns-in_err-mine-in-Some-clause-begun
returns-in_err-mine-in-Some-clause-begun g c =
    on_err c.from_residual-in_err-mine-in-Some.result
    (asked_only ListRows (hosting_listed c.args.managed.now c.args.wanted.now) (rows_in c.in_ok-list.field-0) _ _ _ _ c.in_ok-list.ensures.does)

pub returns-in_err-diff-in-Some-clause-begun : goal.returns-in_err-diff-in-Some-clause-begun
returns-in_err-diff-in-Some-clause-begun g c =
    on_err c.from_residual-in_err-diff-in-Some.result
    (asked_only ListRows (hosting_listed c.args.managed.now c.args.wanted.now) (rows_in c.in_ok-list.field-0) _ _ _ _ c.in_ok-list.ensures.does)

pub returns-in_ok-diff-in-Some-clause-begun : goal.returns-in_ok-diff-in-Some-clause-begun
returns-in_ok-diff-in-Some-clause-begun g c =
    let rows = c.in-Some.rows.items in
    let mine = c.deref-in-Some.result.now in
    let mine_is = c.deref-in-Some.ensures.value ∙ c.in_ok-mine-in-Some.ensures ∙ ap (filter (is_managed c.args.managed.now)) c.deref.ensures.value in
    let in_order = some_in_order c.in_ok-list.field-0 c.in-Some.rows c.in-Some.is c.in_ok-list.ensures.in_order in
    err_so c.update.result
    (λ begins. listed_later c.args.managed.now c.args.wanted.now rows mine (rows_in c.in_ok-list.field-0) _ _ _ _ _ (ap rows_in c.in-Some.is)
    (mine_are c.args.managed.now rows mine mine_is in_order) c.in_ok-list.ensures.does
    (begins mine c.args.wanted.now (mine_in_order c.args.managed.now rows mine mine_is in_order) c.requires.in_order c.in_ok-diff-in-Some.ensures))
    c.update.ensures.begun
