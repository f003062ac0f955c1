use Rattle.life_files.proofs.KeepingSteps.{keeps_untouched}
use Rattle.life_files.proofs.keeping.keep_one.Goals as goal

pub returns-then-not-is_due-clause-does : goal.returns-then-not-is_due-clause-does
returns-then-not-is_due-clause-does g c =
    keeps_untouched c.args.core.now.ifaces c.args.touched c.args.file.now c.is_due.result _ _ c.is_due.ensures c.if-not-is_due.true c.requires
