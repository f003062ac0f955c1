use Rattle.lease_file.specs.FileReads.{got_reading}
use Rattle.life_files.proofs.LoadedFiles.{reads_none, reads_some}
use Rattle.life_devices.proofs.Begins.{on_err}
use Rattle.life_files.proofs.BegunFiles.{reads_begun}
use Rattle.life_files.proofs.files.read_if.Goals as goal

pub returns-then-not-is_kept-clause-does : goal.returns-then-not-is_kept-clause-does
returns-then-not-is_kept-clause-does g c = reads_none c.args.is_kept c.args.name.now _ _ c.if-not-is_kept.true

pub returns-clause-does : goal.returns-clause-does
returns-clause-does g c = reads_some c.args.is_kept c.args.name.now (got_reading c.in_ok-got.got) _ _ _ _ c.if-not-is_kept.false c.in_ok-got.ensures.does

pub returns-in_err-got-clause-begun : goal.returns-in_err-got-clause-begun
returns-in_err-got-clause-begun g c =
    on_err c.from_residual.result (reads_begun c.args.is_kept c.args.name.now _ _ c.if-not-is_kept.false c.in_err-got.ensures.begun)
