use Rattle.std.proofs.Common.{[], ◌∷◌, ◌++◌, List, map, refl, sym, ap, subst, ◌∙◌, append-nil, ◌+◌, drop}
use Rattle.client_model.specs.Fitting.{AreBeginnings, FitsBeginning}
use Rattle.client_core.specs.IfaceMachines.declared.beginnings.Beginning.{Beginning}
use Rattle.client_core.specs.IfaceMachines.Beginnings as code
use Rattle.device_calls.specs.Does.{Does}
use Rattle.turn_model.specs.Loading.{Loaded, loading}
use Rattle.life_files.proofs.LoadedFiles.{loading_more, loading_end, loading_all, front_more, beginnings_more, files_more, fit_more}
use Rattle.device_calls.proofs.Begun.{begun_none}
use Rattle.life_devices.proofs.Begins.{on_err}
use Rattle.life_files.proofs.BegunFiles.{loading_begun, loading_later}
use Rattle.life_files.proofs.files.load_leases.Goals as goal

pub loop-m-init : goal.loop-m-init
loop-m-init g c = record {
  front = [];
  so_far = λ rest new text did. did;
  begun = λ new begun. begun;
  beginnings_are = ap (map code.beginning_of) c.new-beginnings.ensures.items;
  files_are = sym (append-nil c.args.files.items);
  fit = subst (λ (all : List Beginning). AreBeginnings (map code.beginning_of all)) (sym c.new-beginnings.ensures.items) tt;
  waiting = refl;
}

pub loop-m-preserved : goal.loop-m-preserved
loop-m-preserved g c =
    let at = c.loop-m in
    let loads = c.in_ok-one.ensures.loads in
    record {
      front = at.invariant.front ++ loads.loaded ∷ [];
      so_far = λ rest new text more.
          subst (λ (all : List Loaded). Does (loading c.args.managed.now) all (g.W.Outside.seen c.args.outside.now) new c.args.text.now.items text)
          (front_more at.invariant.front loads.loaded rest)
          (at.invariant.so_far (loads.loaded ∷ rest) new text
          (loading_more c.args.managed.now at.m-index c.m-item.result loads.loaded rest _ _ new _ _ text c.m-item.is c.loop-m-test.true loads.does more));
      begun =
          λ new more. at.invariant.begun new
          (loading_later c.args.managed.now at.m-index c.m-item.result loads.loaded _ _ new _ _ c.m-item.is c.loop-m-test.true loads.does more);
      beginnings_are =
          beginnings_more code.beginning_of c.args.duid.now.bytes.items at.invariant.front loads.loaded at.beginnings.items _ c.in_ok-one.one.beginning
          c.in_ok-push.ensures.items at.invariant.beginnings_are loads.beginning_is;
      files_are = files_more c.args.files.items at.invariant.front loads.loaded at.files.items _ _ c.in_ok-one.one.file4 c.in_ok-one.one.file6
          c.in_ok-push_file.ensures c.in_ok-push_file-2.ensures at.invariant.files_are loads.files_are;
      fit =
          fit_more FitsBeginning code.beginning_of at.beginnings.items _ c.in_ok-one.one.beginning c.in_ok-push.ensures.items at.invariant.fit
          c.in_ok-one.ensures.fit;
      waiting = c.load_one.ensures.waiting ∙ at.invariant.waiting;
    }

pub returns-clause-loads : goal.returns-clause-loads
returns-clause-loads g c =
    let at = c.loop-m in
    record {
      loaded = at.invariant.front;
      does =
          loading_all c.args.managed.now at.invariant.front _ _ _ _
          (at.invariant.so_far [] _ _ (loading_end c.args.managed.now at.m-index _ _ c.loop-m-test.false));
      beginnings_are = at.invariant.beginnings_are;
      files_are = at.invariant.files_are;
    }

pub returns-in_err-one-clause-begun : goal.returns-in_err-one-clause-begun
returns-in_err-one-clause-begun g c =
    let at = c.loop-m in
    on_err c.from_residual.result
    (at.invariant.begun _ (loading_begun c.args.managed.now at.m-index c.m-item.result _ _ c.m-item.is c.loop-m-test.true c.in_err-one.ensures.begun))

pub returns-in_err-push-clause-begun : goal.returns-in_err-push-clause-begun
returns-in_err-push-clause-begun g c =
    let at = c.loop-m in
    let loads = c.in_ok-one.ensures.loads in
    on_err c.from_residual-in_err-push.result
    (at.invariant.begun _ (loading_later c.args.managed.now at.m-index c.m-item.result loads.loaded _ _ _ _ _ c.m-item.is c.loop-m-test.true loads.does
    (begun_none (loading (drop (at.m-index + 1) c.args.managed.now)) _ _ refl)))

pub returns-in_err-push_file-clause-begun : goal.returns-in_err-push_file-clause-begun
returns-in_err-push_file-clause-begun g c =
    let at = c.loop-m in
    let loads = c.in_ok-one.ensures.loads in
    on_err c.from_residual-in_err-push_file.result
    (at.invariant.begun _ (loading_later c.args.managed.now at.m-index c.m-item.result loads.loaded _ _ _ _ _ c.m-item.is c.loop-m-test.true loads.does
    (begun_none (loading (drop (at.m-index + 1) c.args.managed.now)) _ _ refl)))

pub returns-in_err-push_file-2-clause-begun : goal.returns-in_err-push_file-2-clause-begun
returns-in_err-push_file-2-clause-begun g c =
    let at = c.loop-m in
    let loads = c.in_ok-one.ensures.loads in
    on_err c.from_residual-in_err-push_file-2.result
    (at.invariant.begun _ (loading_later c.args.managed.now at.m-index c.m-item.result loads.loaded _ _ _ _ _ c.m-item.is c.loop-m-test.true loads.does
    (begun_none (loading (drop (at.m-index + 1) c.args.managed.now)) _ _ refl)))
