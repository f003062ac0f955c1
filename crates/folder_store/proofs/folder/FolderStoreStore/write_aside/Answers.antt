use Rattle.std.proofs.Common.{sym, ◌∙◌}
use Rattle.std.specs.String.{string_bytes}
use Rattle.world.specs.FileNames.{aside_of}
use Rattle.system_calls.specs.Paths.{file_path}
use Rattle.system_calls.proofs.Doing.{noted_between}
use Rattle.folder_store.specs.FolderCalls.{Writes}
use Rattle.folder_store.proofs.FolderTold.{aside_named, wrote_so}
use Rattle.folder_store.proofs.folder.FolderStoreStore.write_aside.Goals as goal

pub returns-clause-told : goal.returns-clause-told
returns-clause-told g c = λ named.
    wrote_so _ _ _ _ _ _ _ c.is_ok.ensures.value c.note.ensures.held (c.answered.ensures.as_asked c.in_ok-room.ensures.room) c.args.name.now c.args.bytes.now
    (c.write-written.ensures.held (string_bytes c.args.self.now.dir) (aside_of c.args.name.now) (aside_named c.args.name.now named)
    (c.deref.ensures ∙ c.in_ok-aside.ensures.path))
    c.note-2.ensures.held

pub returns-clause-asked : goal.returns-clause-asked
returns-clause-asked g c =
    noted_between (Writes (file_path (string_bytes c.args.self.now.dir) (aside_of c.args.name.now)) c.args.bytes.now) _ _ _ _ _ _
    c.note.ensures.asked c.note-2.ensures.asked (rw (sym (c.deref.ensures ∙ c.in_ok-aside.ensures.path)) c.write-written.ensures.asked)
    (c.answered.ensures.as_asked c.in_ok-room.ensures.room)
