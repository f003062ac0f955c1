use Rattle.std.proofs.Common.{map, refl}
use Rattle.client_core.specs.IfaceMachines.Beginnings.{beginning_of}
use Rattle.life_devices.proofs.Successes.{if_ok}
use Rattle.life_files.proofs.LoadedFiles.{loads_with}
use Rattle.std.specs.Prelude.{option_map}
use Rattle.lease_file.specs.FileReads.{got_reading}
use Rattle.turn_model.specs.Loading.{reading_if, duid_file}
use Rattle.device_calls.proofs.Begun.{begun_all}
use Rattle.life_devices.proofs.Begins.{on_err, err_so}
use Rattle.life_files.proofs.BegunFiles.{duid_begun, leases_begun}
use Rattle.life_files.proofs.files.load_with.Goals as goal

pub returns-clause-loads : goal.returns-clause-loads
returns-clause-loads g c = if_ok c.load_leases.result
    (λ found loads. loads_with c.args.managed.now c.args.first.now c.some_need_duid-is_kept.result _ _ _ c.in_ok-files.files.items
    (map beginning_of found.beginnings.items) found.files.items
    _ _ _ _ _ _ c.requires.first c.some_need_duid-is_kept.ensures refl c.in_ok-duid.ensures c.in_ok-files.ensures c.in_ok-read.ensures.does loads)
    c.load_leases.ensures.loads

pub returns-in_err-read-clause-begun : goal.returns-in_err-read-clause-begun
returns-in_err-read-clause-begun g c =
    on_err c.from_residual.result
    (duid_begun c.args.managed.now c.some_need_duid-is_kept.result _ c.some_need_duid-is_kept.ensures refl _ _ c.in_err-read.ensures.begun)

pub returns-in_err-duid-clause-begun : goal.returns-in_err-duid-clause-begun
returns-in_err-duid-clause-begun g c =
    on_err c.from_residual-in_err-duid.result
    (duid_begun c.args.managed.now c.some_need_duid-is_kept.result _ c.some_need_duid-is_kept.ensures refl _ _
    (begun_all (reading_if c.some_need_duid-is_kept.result duid_file) (option_map got_reading c.in_ok-read.read) _ _ _ _ c.in_ok-read.ensures.does))

pub returns-in_err-files-clause-begun : goal.returns-in_err-files-clause-begun
returns-in_err-files-clause-begun g c =
    on_err c.from_residual-in_err-files.result
    (duid_begun c.args.managed.now c.some_need_duid-is_kept.result _ c.some_need_duid-is_kept.ensures refl _ _
    (begun_all (reading_if c.some_need_duid-is_kept.result duid_file) (option_map got_reading c.in_ok-read.read) _ _ _ _ c.in_ok-read.ensures.does))

pub returns-clause-begun : goal.returns-clause-begun
returns-clause-begun g c =
    err_so c.load_leases.result
    (λ begun. leases_begun c.args.managed.now c.some_need_duid-is_kept.result _ c.some_need_duid-is_kept.ensures refl
    (option_map got_reading c.in_ok-read.read) _ _ _ _ _ c.in_ok-read.ensures.does begun)
    c.load_leases.ensures.begun
