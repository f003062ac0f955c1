use Rattle.std.proofs.Common.{◌≡◌, ◌∷◌, ◌∙◌, ap, length, arith}
use Rattle.std.specs.Vec.Iter.{into_iter_items}
use Rattle.lease_file.proofs.Removals.{cause_more, calls_more, files_more, names_more, taken_more}
use Rattle.lease_file.proofs.StepLaws.{removal_more, begins_none, begins_more, if_err}
use Rattle.lease_file.proofs.clearing.remove_asides.Goals as goal

pub loop-name-preserved : goal.loop-name-preserved
loop-name-preserved g c =
    let at = c.loop-name in
    let one = c.in_ok-ok.ensures in
    let next : into_iter_items at.name-iterator ≡ c.in-Some.name ∷ into_iter_items c.next.new.self = c.in-Some.ensures.steps.0 in
    let all = c.in_ok-push.ensures.items in
    record {
      later = omega arith;
      failing = c.remove_aside.ensures.failing ∙ at.invariant.failing;
      cause = cause_more at.removed.items _ _ _ _ _ all at.invariant.cause at.invariant.later one.later one.cause;
      names = names_more at.removed.items _ _ _ _ _ all next at.invariant.names;
      count = let was = at.invariant.count in let gone = c.in-Some.ensures.steps.1 in let short = ap length next in omega arith;
      fit = (rw next at at.invariant.fit).1;
      calls = calls_more at.removed.items _ _ _ _ _ all at.invariant.calls (rw c.deref.ensures at one.calls);
      taken = taken_more _ _ at.removed.items _ _ _ _ _ _ at.invariant.failing c.deref.ensures all at.invariant.taken one.taken;
      files = λ known. files_more at.removed.items _ _ _ _ _ all (at.invariant.files known) (rw c.deref.ensures at (one.files (rw at.invariant.failing known)));
      answered = removal_more _ _ at.removed.items _ _ _ _ _ _ at.invariant.failing c.deref.ensures all at.invariant.answered one.answered;
    }

pub returns-in_err-ok-clause-begun : goal.returns-in_err-ok-clause-begun
returns-in_err-ok-clause-begun g c =
    let at = c.loop-name in
    if_err _ _ (begins_none _ at.removed.items _ _ _ _ _ at.invariant.names at.invariant.answered c.in_err-ok.ensures.begun)

pub returns-in_err-push-clause-begun : goal.returns-in_err-push-clause-begun
returns-in_err-push-clause-begun g c =
    let at = c.loop-name in
    let one = c.in_ok-ok.ensures in
    let next : into_iter_items at.name-iterator ≡ c.in-Some.name ∷ into_iter_items c.next.new.self = c.in-Some.ensures.steps.0 in
    if_err _ _
    (begins_more _ _ at.removed.items
    (record { name = c.in-Some.name; ok = c.in_ok-ok.ok }) _ _ _ _ _ _ _ at.invariant.failing c.deref.ensures next at.invariant.names
    at.invariant.answered one.answered)
