use Rattle.std.proofs.Common.{Err, refl, sym}
use Rattle.std.specs.String.{string_bytes}
use Rattle.world.specs.declared.faults.DeviceAnswer.TheVariants as Answer
use Rattle.system_calls.proofs.Doing.{asked_between}
use Rattle.folder_store.specs.FolderCalls.{Appends}
use Rattle.folder_store.proofs.FolderTold.{listed_so, unlisted_so, unlisted_unnoted}
use Rattle.folder_store.proofs.folder.FolderStoreStore.list_asides.Goals as goal

pub returns-in-Ok-clause-told : goal.returns-in-Ok-clause-told
returns-in-Ok-clause-told g c =
    listed_so _ _ _ _ c.note.ensures.held _ _ (c.append_asides.ensures.held (string_bytes c.args.self.now.dir))
    (rw c.deref.ensures at c.in-Ok.ensures.asides) c.note-in-Ok.ensures.held

pub returns-in-Err-Failed-clause-told : goal.returns-in-Err-Failed-clause-told
returns-in-Err-Failed-clause-told g c =
    unlisted_so _ _ _ _ c.note.ensures.held _ _ c.counted.result (c.counted.ensures.same c.in_ok-room.ensures.room)
    (c.append_asides.ensures.held (string_bytes c.args.self.now.dir)) c.note-in-Err-Failed.ensures.held

pub returns-in-Err-NoMemory-clause-told : goal.returns-in-Err-NoMemory-clause-told
returns-in-Err-NoMemory-clause-told g c =
    unlisted_unnoted _ _ _ c.note.ensures.held _ _ (c.append_asides.ensures.held (string_bytes c.args.self.now.dir))

pub returns-in-Err-Failed-clause-asked : goal.returns-in-Err-Failed-clause-asked
returns-in-Err-Failed-clause-asked g c =
    asked_between
    (λ old new. Appends {T = Unit {0}} (string_bytes c.args.self.now.dir) old new c.args.names.now.items c.append_asides.new.names.items (Err c.counted.result))
    _ _ _ _ c.note.ensures.asked c.note-in-Err-Failed.ensures.asked
    (rw (sym c.deref.ensures, c.counted.ensures.same c.in_ok-room.ensures.room) (rw c.in-Err-Failed.field-0-is at c.in-Err-Failed.ensures.listed))

pub returns-in-Err-NoMemory-clause-asked : goal.returns-in-Err-NoMemory-clause-asked
returns-in-Err-NoMemory-clause-asked g c =
    asked_between
    (λ old new. Appends {T = Unit {0}} (string_bytes c.args.self.now.dir) old new c.args.names.now.items c.append_asides.new.names.items (Err Answer.NoMemory))
    _ _ _ _ c.note.ensures.asked refl (rw (sym c.deref.ensures) (rw c.in-Err-NoMemory.field-0-is at c.in-Err-NoMemory.ensures.listed))
