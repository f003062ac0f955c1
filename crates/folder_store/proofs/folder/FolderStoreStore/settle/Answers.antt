use Rattle.std.proofs.Common.{sym}
use Rattle.std.specs.String.{string_bytes}
use Rattle.system_calls.proofs.Doing.{noted_between}
use Rattle.folder_store.specs.FolderCalls.{Syncs}
use Rattle.folder_store.proofs.FolderTold.{settled_so}
use Rattle.folder_store.proofs.folder.FolderStoreStore.settle.Goals as goal

pub returns-clause-told : goal.returns-clause-told
returns-clause-told g c =
    settled_so _ _ _ _ _ _ _ c.is_ok.ensures.value c.note.ensures.held (c.answered.ensures.as_asked c.in_ok-room.ensures.room)
    (c.sync-synced.ensures.held (string_bytes c.args.self.now.dir)) c.note-2.ensures.held

pub returns-clause-asked : goal.returns-clause-asked
returns-clause-asked g c =
    noted_between (Syncs (string_bytes c.args.self.now.dir)) _ _ _ _ _ _
    c.note.ensures.asked c.note-2.ensures.asked (rw (sym c.deref.ensures) c.sync-synced.ensures.asked)
    (c.answered.ensures.as_asked c.in_ok-room.ensures.room)
