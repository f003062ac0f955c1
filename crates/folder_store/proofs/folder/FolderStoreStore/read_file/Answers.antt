use Rattle.std.proofs.Common.{◌∙◌}
use Rattle.std.specs.String.{string_bytes}
use Rattle.folder_store.proofs.FolderTold.{found_so, unread_so, unread_unnoted}
use Rattle.folder_store.proofs.folder.FolderStoreStore.read_file.Goals as goal

pub returns-in-Ok-clause-told : goal.returns-in-Ok-clause-told
returns-in-Ok-clause-told g c = λ named.
    found_so _ _ _ _ c.note.ensures.held c.args.name.now _ _ c.in-Ok.found
    (c.in-Ok.ensures.held (string_bytes c.args.self.now.dir) c.args.name.now named (c.deref.ensures ∙ c.in_ok-path.ensures.path)) c.note-in-Ok.ensures.held

pub returns-in-Err-Failed-clause-told : goal.returns-in-Err-Failed-clause-told
returns-in-Err-Failed-clause-told g c = λ named.
    unread_so _ _ _ _ c.note.ensures.held c.args.name.now _ _ c.counted.result (c.counted.ensures.same c.in_ok-room.ensures.room)
    (c.in-Err-Failed.ensures.held (string_bytes c.args.self.now.dir) c.args.name.now named (c.deref.ensures ∙ c.in_ok-path.ensures.path))
    c.note-in-Err-Failed.ensures.held

pub returns-clause-told : goal.returns-clause-told
returns-clause-told g c = λ named.
    unread_unnoted _ _ _ c.note.ensures.held c.args.name.now _ _
    (c.in-Err-NoMemory.ensures.held (string_bytes c.args.self.now.dir) c.args.name.now named (c.deref.ensures ∙ c.in_ok-path.ensures.path))
