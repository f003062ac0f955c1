use Rattle.std.proofs.Common.{ℕ, ◌≡◌, ◌<◌, ◌≤◌, ◌+◌, ◌*◌, List, ◌++◌, length, get_or, set, map, sym, ap, subst, ◌∙◌, arith}
use Rattle.std.proofs.lemmas.List.{length-set}
use Rattle.world.specs.HookCalls.{job_of}
use Rattle.settings.specs.Fitting.{FitsManaged}
use Rattle.client_model.specs.declared.interfaces.Iface.{Iface}
use Rattle.client_model.specs.IfaceTurns.{Turn}
use Rattle.iface_core.specs.Inputs.{turn_of}
use Rattle.iface_core.specs.Outcomes.{asked_in}
use Rattle.client_core.specs.Renewing.{IsAt, Renews}
use Rattle.client_core.specs.Touched.{may_keep, noted}
use Rattle.client_core.proofs.AtRest.{busy_here, is_idle, is_near}
use Rattle.client_core.proofs.Counting.{counted_all, counted_first, counted_more}
use Rattle.client_core.proofs.Going.{turned}
use Rattle.client_core.proofs.InPlace.{as_long}
use Rattle.client_core.proofs.Looking.{six_more}
use Rattle.client_core.proofs.Walks.{begun, skipped, has_place, put_there, fits_after, all_fit, is_there, one_more, over, done_goes, done_running, done_untouched, done_jobs, done_leads}
use Rattle.client_core.proofs.turning.turn_all.Goals as goal

pub places-init : goal.places-init
places-init c =
    let turn : Turn = turn_of c.args.turn.now in
    let xs : List Iface = c.args.ifaces.now in (
      omega arith,
      λ (few : _).
          counted_first turn xs c.take-busy.result
          (λ (place : ℕ) (d : Iface) (lt : place < length xs).
          busy_here turn xs c.args.kept.now c.take-busy.new.self c.take-busy.result c.requires.running c.take-busy.ensures place d lt
          (omega (arith, lt, few)))
          c.next_from-place.result c.next_from-place.ensures.from c.next_from-place.ensures.end c.next_from-place.ensures.skips
          c.next_from-place.ensures.found,
      skipped c.args.own.now turn xs _ _ _ _ _ _ _ c.take-busy.result
          (is_near turn xs c.args.kept.now c.take-busy.new.self c.take-busy.result c.requires.running c.take-busy.ensures)
          (is_idle turn xs c.args.kept.now c.take-busy.new.self c.take-busy.result c.requires.running c.take-busy.ensures)
          0 c.next_from-place.result c.next_from-place.ensures.from c.next_from-place.ensures.end c.next_from-place.ensures.skips
          (begun c.args.own.now turn xs c.args.kept.now c.take-busy.new.self c.take-busy.result c.new-walk.result (asked_in c.args.outs.now)
          (map job_of c.args.jobs.now.items)
          c.requires.running c.take-busy.ensures c.new-walk.ensures.touched c.new-walk.ensures.resolver c.new-walk.ensures.rows c.requires.told),
    )

pub renew-requires-clause-fit : goal.renew-requires-clause-fit
renew-requires-clause-fit c =
    subst (λ (one : Iface). FitsManaged one.managed)
    (sym (put_there _ _ _ c.places-test.true c.places.invariant.2 c.index-ifaces-place-in-places.result c.turn_iface.new.iface))
    (fits_after _ _ _ c.places-test.true c.places.invariant.2 c.in_ok-changes.changes c.index-ifaces-place.result c.in_ok-changes.ensures.goes
    c.in_ok-changes.ensures.leaves c.requires.running.fit)

pub renew-requires-clause-place : goal.renew-requires-clause-place
renew-requires-clause-place c = has_place _ _ _ c.places-test.true c.places.invariant.2

pub renew-requires-clause-same : goal.renew-requires-clause-same
renew-requires-clause-same c =
    λ (few : _).
    subst (λ (one : Iface). IsAt c.places.place one c.places.kept)
    (sym (put_there _ _ _ c.places-test.true c.places.invariant.2 c.index-ifaces-place-in-places.result c.turn_iface.new.iface))
    (is_there _ _ _ c.places-test.true c.places.invariant.2 c.in_ok-changes.changes c.index-ifaces-place.result c.in_ok-changes.ensures.goes
    c.in_ok-changes.ensures.leaves few)

pub make_jobs-requires : goal.make_jobs-requires
make_jobs-requires c =
    all_fit _ _ _ c.places-test.true c.places.invariant.2 c.in_ok-changes.changes c.index-ifaces-place.result c.in_ok-changes.ensures.goes
    c.in_ok-changes.ensures.leaves c.requires.running.fit

pub places-preserved : goal.places-preserved
places-preserved c =
    let turn : Turn = turn_of c.args.turn.now in
    let xs : List Iface = c.args.ifaces.now in
    let ys : List Iface = c.places.ifaces in
    let new : Iface = c.turn_iface.new.iface in
    let put : ((one : Iface) → get_or (set ys c.places.place new) c.places.place one ≡ new) =
    λ one. put_there _ _ _ c.places-test.true c.places.invariant.2 one new in
    let long : length (set ys c.places.place new) ≡ length xs =
    length-set ys c.places.place new ∙ as_long (turned c.args.own.now turn) xs ys c.places.place c.places.invariant.2.go_on in
    let same : length ys ≡ length xs = as_long (turned c.args.own.now turn) xs ys c.places.place c.places.invariant.2.go_on in (
      omega (arith, c.places.invariant.0, c.next_from-place-in-places.ensures.from),
      λ (few : length xs ≤ 64).
          let lt : c.places.place < length xs = omega (arith, same, c.places-test.true) in
          counted_more turn xs c.take-busy.result
          (λ (place : ℕ) (d : Iface) (lt : place < length xs).
          busy_here turn xs c.args.kept.now c.take-busy.new.self c.take-busy.result c.requires.running c.take-busy.ensures place d lt
          (omega (arith, lt, few)))
          c.places.place c.places.turns c.places.looks c.renew.new.looks c.next_from-place-in-places.result lt (c.places.invariant.1 few)
          (λ (asked : c.places.looks ≡ 6 * c.places.turns).
          six_more (length xs) c.places.place c.places.turns c.places.looks c.turn_iface.new.looks c.renew.new.looks lt few c.places.invariant.0 asked
          c.in_ok-changes.ensures.counted c.renew.ensures.counted)
          c.next_from-place-in-places.ensures.from (subst (λ (n : ℕ). c.next_from-place-in-places.result ≤ n) long c.next_from-place-in-places.ensures.end)
          c.next_from-place-in-places.ensures.skips
          (λ (below : c.next_from-place-in-places.result < length xs).
          c.next_from-place-in-places.ensures.found (subst (λ (n : ℕ). c.next_from-place-in-places.result < n) (sym long) below)),
      skipped c.args.own.now turn xs _ _ _ _ _ _ _ c.take-busy.result
          (is_near turn xs c.args.kept.now c.take-busy.new.self c.take-busy.result c.requires.running c.take-busy.ensures)
          (is_idle turn xs c.args.kept.now c.take-busy.new.self c.take-busy.result c.requires.running c.take-busy.ensures)
          (c.places.place + 1) c.next_from-place-in-places.result c.next_from-place-in-places.ensures.from
          (subst (λ (n : ℕ). c.next_from-place-in-places.result ≤ n) long c.next_from-place-in-places.ensures.end) c.next_from-place-in-places.ensures.skips
          (one_more _ _ _ c.places-test.true c.places.invariant.2 c.in_ok-changes.changes c.index-ifaces-place.result c.in_ok-changes.ensures.goes
          c.in_ok-changes.ensures.leaves c.add.new.self
          (subst (λ (one : Iface). Renews c.places.place one c.in_ok-renewed.renewed c.places.kept c.renew.new.self)
          (put c.index-ifaces-place-in-places.result) c.in_ok-renewed.ensures.renews)
          (c.in_ok-add.ensures.touched
          ∙ ap (λ (one : Iface). c.places.walk.touched.ifaces.items ++ noted (may_keep c.in_ok-changes.changes) one.managed.spec.index)
          (put c.index-ifaces-place-in-places-2.result))
          c.in_ok-add.ensures.resolver c.in_ok-add.ensures.rows c.in_ok-make_jobs.ensures.jobs c.in_ok-make_jobs.ensures.outs),
    )

pub returns-clause-goes : goal.returns-clause-goes
returns-clause-goes c = done_goes _ _ _ c.places-test.false c.places.invariant.2

pub returns-clause-running : goal.returns-clause-running
returns-clause-running c = done_running _ _ _ c.places-test.false c.places.invariant.2 c.requires.running.fit

pub returns-clause-untouched : goal.returns-clause-untouched
returns-clause-untouched c = done_untouched _ _ _ c.places-test.false c.places.invariant.2

pub returns-clause-jobs : goal.returns-clause-jobs
returns-clause-jobs c = done_jobs _ _ _ c.places-test.false c.places.invariant.2

pub returns-clause-leads : goal.returns-clause-leads
returns-clause-leads c = done_leads _ _ _ c.places-test.false c.places.invariant.2 c.in_ok-into_diff.field-0 c.in_ok-into_diff.ensures

pub returns-clause-looks : goal.returns-clause-looks
returns-clause-looks c = λ (few : _). (c.places.invariant.1 few).six

pub returns-clause-turns : goal.returns-clause-turns
returns-clause-turns c =
    λ (few : _).
    counted_all (turn_of c.args.turn.now) c.args.ifaces.now c.places.place c.places.turns c.places.looks
    (over _ _ _ c.places-test.false c.places.invariant.2) (c.places.invariant.1 few)

pub returns-clause-at_most : goal.returns-clause-at_most
returns-clause-at_most c = omega (arith, c.places.invariant.0, c.places.invariant.2.within)
