use Rattle.std.proofs.Common.{sym, ap, map, ◌∙◌}
use Rattle.std.specs.Option.{option_copied}
use Rattle.client_core.specs.IfaceMachines.Beginnings.{beginning_of}
use Rattle.life_files.proofs.LoadedFiles.{loads_nothing}
use Rattle.life_files.proofs.files.load_own.Goals as goal

pub returns-in-None-clause-loads : goal.returns-in-None-clause-loads
returns-in-None-clause-loads g c =
    loads_nothing c.args.managed.now _ _ _ _ (sym c.first.ensures.value ∙ ap option_copied c.in-None.is)
    (ap (map beginning_of) c.new.ensures.items) c.new-in-None.ensures.items
