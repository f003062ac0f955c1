use Rattle.std.proofs.Common.{sym, ◌∙◌}
use Rattle.std.specs.String.{string_bytes}
use Rattle.world.specs.FileNames.{aside_of}
use Rattle.system_calls.specs.Paths.{file_path}
use Rattle.system_calls.proofs.Doing.{noted_between}
use Rattle.folder_store.specs.FolderCalls.{Renames}
use Rattle.folder_store.proofs.FolderTold.{renamed_so, finds_so}
use Rattle.folder_store.proofs.folder.FolderStoreStore.rename_aside.Goals as goal

pub returns-clause-told : goal.returns-clause-told
returns-clause-told g c = λ named.
    renamed_so _ _ _ _ _ _ _ c.is_ok.ensures.value c.note.ensures.held (c.answered.ensures.as_asked c.in_ok-room.ensures.room)
    (string_bytes c.args.self.now.dir) c.args.name.now _ _ named (c.deref.ensures ∙ c.in_ok-aside.ensures.path) (c.deref-2.ensures ∙ c.in_ok-path.ensures.path)
    (c.rename-renamed.ensures.held (string_bytes c.args.self.now.dir)) c.note-2.ensures.held

pub returns-clause-asked : goal.returns-clause-asked
returns-clause-asked g c =
    noted_between
    (Renames (file_path (string_bytes c.args.self.now.dir) (aside_of c.args.name.now)) (file_path (string_bytes c.args.self.now.dir) c.args.name.now))
    _ _ _ _ _ _ c.note.ensures.asked c.note-2.ensures.asked
    (rw (sym (c.deref.ensures ∙ c.in_ok-aside.ensures.path), sym (c.deref-2.ensures ∙ c.in_ok-path.ensures.path)) c.rename-renamed.ensures.told)
    (c.answered.ensures.as_asked c.in_ok-room.ensures.room)

pub returns-clause-aside : goal.returns-clause-aside
returns-clause-aside g c = λ named.
    finds_so (string_bytes c.args.self.now.dir) c.args.name.now _ _ _ _ _ _ _ named (c.deref.ensures ∙ c.in_ok-aside.ensures.path)
    (c.deref-2.ensures ∙ c.in_ok-path.ensures.path) c.note.ensures.held (c.rename-renamed.ensures.held (string_bytes c.args.self.now.dir))
    (c.answered.ensures.as_asked c.in_ok-room.ensures.room)
