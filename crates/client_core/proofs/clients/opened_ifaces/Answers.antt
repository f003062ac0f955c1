use Rattle.std.proofs.Common.{ℕ, ◌≡◌, List, ◌++◌, ◌∷◌, [], sym, ap, subst, ◌∙◌, append_assoc, map}
use Rattle.std.specs.Prelude.{flat_map}
use Rattle.world.specs.HookCalls.{Job, job_of}
use Rattle.client_model.specs.declared.interfaces.Iface.{Iface}
use Rattle.client_model.specs.Fitting.{FitsBeginning, AreIfaces}
use Rattle.client_model.specs.IfaceSteps.{IfaceStep}
use Rattle.client_model.specs.Interfaces.{opened}
use Rattle.client_model.specs.Jobs.{jobs_along, jobs_among, told_in}
use Rattle.client_model.specs.Jobs as jobs
use Rattle.iface_core.specs.IfaceMachines.declared.beginnings.Beginning.{Beginning}
use Rattle.iface_core.specs.Beginnings.{beginning_of}
use Rattle.iface_core.specs.Outcomes.{Asked, asked_in}
use Rattle.client_core.specs.Stepping.{GoAll}
use Rattle.client_core.proofs.Fit.{go_none, go_next, go_mapped, go_untold, next_fits, none_left, all_taken, opened_more}
use Rattle.client_core.proofs.JobsAlong.{jobs_one, jobs_opened}
use Rattle.client_core.proofs.clients.opened_ifaces.Goals as goal

pub loop-beginning-init : goal.loop-beginning-init
loop-beginning-init c =
    let step : (Beginning → IfaceStep) = λ (b : Beginning). opened c.args.begin.up c.clamp_moment.result c.args.begin.salt (beginning_of b) in
    let whole : c.into_iter-beginning-iterator.result.rest.items ≡ c.args.beginnings.items = c.into_iter-beginning-iterator.ensures.into_iter_gives.0 in
    let before : List Job = map job_of c.args.jobs.now.items in
    record {
      whole = whole;
      went = go_none step c.new-ifaces.result.items (asked_in c.args.outs.now) c.new-ifaces.ensures.items;
      fit = subst AreIfaces (sym c.new-ifaces.ensures.items) tt;
      untold = c.requires.told;
      jobs = ap (λ (gone : List Iface). before ++ jobs_along gone [] (map step c.into_iter-beginning-iterator.result.rest.items)) c.new-ifaces.ensures.items
          ∙ ap (λ (all : List Beginning). before ++ jobs_along [] [] (map step all)) whole;
    }

pub iface_open-requires-clause-fits : goal.iface_open-requires-clause-fits
iface_open-requires-clause-fits c =
    next_fits FitsBeginning beginning_of c.loop-beginning.yielded c.next.new.self.rest.items c.args.beginnings.items c.in-Some.beginning
    (ap (λ (rest : List Beginning). c.loop-beginning.yielded ++ rest) (sym c.in-Some.ensures.steps.0) ∙ c.loop-beginning.invariant.whole) c.requires.fit

pub make_jobs-requires : goal.make_jobs-requires
make_jobs-requires c =
    let whole : c.loop-beginning.yielded ++ c.in-Some.beginning ∷ c.next.new.self.rest.items ≡ c.args.beginnings.items =
    ap (λ (rest : List Beginning). c.loop-beginning.yielded ++ rest) (sym c.in-Some.ensures.steps.0) ∙ c.loop-beginning.invariant.whole in
    opened_more c.args.begin.up c.clamp_moment.result c.args.begin.salt (beginning_of c.in-Some.beginning) c.loop-beginning.ifaces.items c.deref.result.now
    c.in_ok-iface.iface (c.deref.ensures.value ∙ c.in_ok-push.ensures.items) c.loop-beginning.invariant.fit
    (next_fits FitsBeginning beginning_of c.loop-beginning.yielded c.next.new.self.rest.items c.args.beginnings.items c.in-Some.beginning whole c.requires.fit)
    c.in_ok-iface.ensures.goes_on

pub loop-beginning-preserved : goal.loop-beginning-preserved
loop-beginning-preserved c =
    let step : (Beginning → IfaceStep) = λ (b : Beginning). opened c.args.begin.up c.clamp_moment.result c.args.begin.salt (beginning_of b) in
    let one : Beginning = c.in-Some.beginning in
    let rest : List Beginning = c.next.new.self.rest.items in
    let ifaces : List Iface = c.loop-beginning.ifaces.items in
    let whole : c.loop-beginning.yielded ++ one ∷ rest ≡ c.args.beginnings.items =
    ap (λ (more : List Beginning). c.loop-beginning.yielded ++ more) (sym c.in-Some.ensures.steps.0) ∙ c.loop-beginning.invariant.whole in
    let before : List Job = map job_of c.loop-beginning.jobs.items in
    let made : List Job = map job_of c.make_jobs.new.jobs.items in
    let all : List Job = map job_of c.args.jobs.now.items ++ jobs_along [] [] (map step c.args.beginnings.items) in
    let longer : c.push.new.self.items ≡ ifaces ++ (step one).iface ∷ [] =
    c.in_ok-push.ensures.items ∙ ap (λ (iface : Iface). ifaces ++ iface ∷ []) c.in_ok-iface.ensures.goes_on in
    let told : (asked_in c.iface_open.new.outs).told ≡ told_in (step one) =
    c.in_ok-iface.ensures.hooks ∙ ap (λ (first : List jobs.Told). first ++ told_in (step one)) c.loop-beginning.invariant.untold in
    record {
      whole = append_assoc c.loop-beginning.yielded (one ∷ []) rest ∙ whole;
      went =
          go_untold step (c.loop-beginning.yielded ++ one ∷ []) c.push.new.self.items (asked_in c.args.outs.now) (asked_in c.iface_open.new.outs)
          (asked_in c.make_jobs.new.outs)
          (go_next step c.loop-beginning.yielded one ifaces c.push.new.self.items c.in_ok-iface.iface (asked_in c.args.outs.now)
          (asked_in c.loop-beginning.outs)
          (asked_in c.iface_open.new.outs) c.in_ok-push.ensures.items c.loop-beginning.invariant.went c.in_ok-iface.ensures)
          c.in_ok-make_jobs.ensures.outs;
      fit = opened_more c.args.begin.up c.clamp_moment.result c.args.begin.salt (beginning_of one) ifaces c.push.new.self.items c.in_ok-iface.iface
          c.in_ok-push.ensures.items c.loop-beginning.invariant.fit
          (next_fits FitsBeginning beginning_of c.loop-beginning.yielded rest c.args.beginnings.items one whole c.requires.fit) c.in_ok-iface.ensures.goes_on;
      untold = ap (λ (asked : Asked). asked.told) c.in_ok-make_jobs.ensures.outs;
      jobs = ap (λ (gone : List Iface). made ++ jobs_along gone [] (map step rest)) longer
          ∙ jobs_one step ifaces [] one rest before made all
          (ap (λ (more : List Beginning). before ++ jobs_along ifaces [] (map step more)) (sym c.in-Some.ensures.steps.0) ∙ c.loop-beginning.invariant.jobs)
          (c.in_ok-make_jobs.ensures.jobs ∙ ap (λ (some : List jobs.Told). before ++ flat_map (jobs_among c.deref.result.now) some) told
          ∙ ap (λ (gone : List Iface). before ++ flat_map (jobs_among gone) (told_in (step one))) (c.deref.ensures.value ∙ longer));
    }

pub returns-clause-goes : goal.returns-clause-goes
returns-clause-goes c =
    let all : List Beginning = c.args.beginnings.items in
    let ifaces : List Iface = c.loop-beginning.ifaces.items in
    subst
    (λ (at : ℕ). GoAll (opened c.args.begin.up at c.args.begin.salt) (map beginning_of all) ifaces (asked_in c.args.outs.now)
    (asked_in c.loop-beginning.outs))
    c.clamp_moment.ensures
    (go_mapped beginning_of (opened c.args.begin.up c.clamp_moment.result c.args.begin.salt) all ifaces (asked_in c.args.outs.now)
    (asked_in c.loop-beginning.outs)
    (subst
    (λ (bs : List Beginning). GoAll (λ (b : Beginning). opened c.args.begin.up c.clamp_moment.result c.args.begin.salt (beginning_of b)) bs ifaces
    (asked_in c.args.outs.now) (asked_in c.loop-beginning.outs))
    (all_taken c.loop-beginning.yielded c.loop-beginning.beginning-iterator.rest.items all c.loop-beginning.beginning-iterator.rest.len
    c.loop-beginning.invariant.whole
    c.loop-beginning.beginning-iterator.rest.ok.0 c.in-None.ensures.steps.0)
    c.loop-beginning.invariant.went))

pub returns-clause-jobs : goal.returns-clause-jobs
returns-clause-jobs c =
    let all : List Beginning = c.args.beginnings.items in
    let rest : List Beginning = c.loop-beginning.beginning-iterator.rest.items in
    subst (λ (at : ℕ). map job_of c.loop-beginning.jobs.items
    ≡ map job_of c.args.jobs.now.items ++ jobs_along [] [] (map (opened c.args.begin.up at c.args.begin.salt) (map beginning_of all)))
    c.clamp_moment.ensures
    (jobs_opened beginning_of (opened c.args.begin.up c.clamp_moment.result c.args.begin.salt) c.loop-beginning.ifaces.items rest all
    (map job_of c.loop-beginning.jobs.items) (map job_of c.args.jobs.now.items)
    (none_left rest c.loop-beginning.beginning-iterator.rest.len c.loop-beginning.beginning-iterator.rest.ok.0 c.in-None.ensures.steps.0)
    c.loop-beginning.invariant.jobs)
