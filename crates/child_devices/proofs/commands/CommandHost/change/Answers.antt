use Rattle.std.proofs.Common.{sym}
use Rattle.std.specs.String.{string_bytes}
use Rattle.child_devices.specs.HostScripts.{ChangesRow, change_word}
use Rattle.child_devices.proofs.ScriptCalls.{changed}
use Rattle.child_devices.proofs.TableSteps.{noted_so, changed_told}
use Rattle.child_devices.proofs.commands.CommandHost.change.Goals as goal

pub returns-clause-told : goal.returns-clause-told
returns-clause-told g c =
    changed_told c.args.change c.args.row.now _ _ _ _ _ _ _
    (c.run-ran.ensures.tables (string_bytes c.args.self.now.script) c.args.change c.args.row.now (rw (sym c.deref.ensures) c.in-Ok.ensures))
    c.is_ok.ensures.value c.note.ensures c.note-2.ensures.told (c.answered.ensures.as_asked (rw c.note-2.ensures.same.1 c.in_ok-room.ensures.room))

pub returns-clause-asked : goal.returns-clause-asked
returns-clause-asked g c =
    noted_so
    (ChangesRow (string_bytes c.args.self.now.script) (change_word c.args.change) c.args.row.now (g.C.Children.calls c.args.self.now.children))
    _ _ _ _ _ c.note-2.ensures.asked
    (changed _ _ _ _ _ _ _ (rw (sym c.deref.ensures) c.in-Ok.ensures.1) c.run-ran.ensures.asked)
    (c.answered.ensures.as_asked (rw c.note-2.ensures.same.1 c.in_ok-room.ensures.room))
