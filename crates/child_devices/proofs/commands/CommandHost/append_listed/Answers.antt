use Rattle.std.proofs.Common.{sym}
use Rattle.std.specs.String.{string_bytes}
use Rattle.child_devices.proofs.TableSteps.{printed_told}
use Rattle.child_devices.proofs.commands.CommandHost.append_listed.Goals as goal

pub returns-in-Ok-print-clause-listed : goal.returns-in-Ok-print-clause-listed
returns-in-Ok-print-clause-listed g c =
    printed_told (string_bytes c.args.self.now.script) _ c.in-Ok-print.output c.append_printed.result _ _ _ _ (rw (sym c.deref.ensures) c.in-Ok.ensures)
    c.in-Ok-print.ensures.tables c.append_printed.ensures.done c.append_printed.ensures.listed
