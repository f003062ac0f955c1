use Rattle.std.proofs.Common.{List, ◌++◌, map, refl, ap, ◌∙◌}
use Rattle.client_core.specs.IfaceMachines.Beginnings.{beginning_of}
use Rattle.lease_file.specs.FileReads.{got_reading}
use Rattle.turn_model.specs.KeptFiles.{KeptFile}
use Rattle.life_files.proofs.LoadedFiles.{loads_all}
use Rattle.device_calls.specs.Calls.{Read}
use Rattle.device_calls.specs.Programs.{Done, Then}
use Rattle.turn_model.specs.Loading.{resolver_file}
use Rattle.device_calls.proofs.Begun.{begun_all}
use Rattle.life_devices.proofs.Begins.{on_err}
use Rattle.life_files.proofs.BegunFiles.{own_begun, resolver_begun}
use Rattle.life_files.proofs.files.load_all.Goals as goal

pub returns-clause-loads : goal.returns-clause-loads
returns-clause-loads g c =
    loads_all c.args.managed.now (map beginning_of c.in_ok-found.found.beginnings.items) _ _ _ (got_reading c.in_ok-got.got) _ _ _ _ _ _
    c.in_ok-found.ensures.loads refl c.in_ok-got.ensures.does
    (c.in_ok-push_file.ensures ∙ ap (λ (file : List KeptFile). c.in_ok-found.found.files.items ++ file) c.in_ok-file.ensures)

pub returns-in_err-found-clause-begun : goal.returns-in_err-found-clause-begun
returns-in_err-found-clause-begun g c = on_err c.from_residual.result (own_begun c.args.managed.now _ _ c.in_err-found.ensures.begun)

pub returns-in_err-got-clause-begun : goal.returns-in_err-got-clause-begun
returns-in_err-got-clause-begun g c =
    on_err c.from_residual-in_err-got.result
    (resolver_begun c.args.managed.now
    (map beginning_of c.in_ok-found.found.beginnings.items) _ _ _ _ _ _ _ refl c.in_ok-found.ensures.loads c.in_err-got.ensures.begun)

pub returns-in_err-file-clause-begun : goal.returns-in_err-file-clause-begun
returns-in_err-file-clause-begun g c =
    on_err c.from_residual-in_err-file.result
    (resolver_begun c.args.managed.now (map beginning_of c.in_ok-found.found.beginnings.items) _ _ _ _ _ _ _ refl c.in_ok-found.ensures.loads
    (begun_all (Then (Read resolver_file) Done) (got_reading c.in_ok-got.got) _ _ _ _ c.in_ok-got.ensures.does))

pub returns-in_err-push_file-clause-begun : goal.returns-in_err-push_file-clause-begun
returns-in_err-push_file-clause-begun g c =
    on_err c.from_residual-in_err-push_file.result
    (resolver_begun c.args.managed.now (map beginning_of c.in_ok-found.found.beginnings.items) _ _ _ _ _ _ _ refl c.in_ok-found.ensures.loads
    (begun_all (Then (Read resolver_file) Done) (got_reading c.in_ok-got.got) _ _ _ _ c.in_ok-got.ensures.does))
