-- What a store in memory tells is sound after every record, and the next life finds one of the images that a crash may leave.
use Rattle.std.proofs.Common.{◌≡◌, ℕ, ◌<◌, ◌+◌, Bool, true, false, cond, inl, inr, List, [], ◌∷◌, ◌++◌, All, Option, Some, None, map, length, take, get_or, refl, sym, ap, subst, ◌∙◌}
use Rattle.std.specs.Prelude.{fold, String, Result, Ok, Err, IfOk}
use Rattle.std.specs.Global.{Global, Vec}
use Rattle.std.specs.BTreeMap.{BTreeMap}
use Rattle.std.specs.declared.cmp.Ordering.{Ordering}
use Rattle.std.specs.declared.cmp.Ordering.TheVariants.{Less, Equal, Greater}
use Rattle.std.specs.Ordering.{match_ordering}
use Rattle.std.proofs.lemmas.List.{take_more}
use Rattle.std.proofs.lemmas.List.Elements.{All-cons, All-head, All-tail, All-nil, All-filter}
use Rattle.std.proofs.lemmas.List.Sums.{fold-append}
use Rattle.world.specs.FileNames.{IsFileName, aside_of, is_name, name_cmp}
use Rattle.world.specs.NamedLists.{InNameOrder, drop_named}
use Rattle.world.specs.FileLists.{StoreFile, file_name, file_at, asides, put_file, drop_file, rename_file}
use Rattle.world.specs.CrashImages.{IsImage}
use Rattle.world.specs.Undoing.{Empties, Restores, UndoneFile, undone_name, undone_at, content_of, is_emptied, put_undo, restoring, undo_synced, undo_renamed, undone, set_file}
use Rattle.world.specs.StoreCalls.{StoreTold, ListedAsides, ReadFile, Unread, WroteAside, SyncedAside, RenamedAside, RemovedFile, SettledFiles, reading_of}
use Rattle.world.specs.SoundStores.{IsSound, reads_of}
use Rattle.world.proofs.NameOrder.{put_in_order, drop_in_order}
use Rattle.world.proofs.SoundStores.{known_unchanged}
use Rattle.world.proofs.SoundLaws.{sound_start, sound_after, reads_image, undone_image}
use Rattle.store_mem.specs.declared.crashes.Pick.{Pick}
use Rattle.store_mem.specs.declared.crashes.Pick.TheVariants.{Old, New}
use Rattle.store_mem.specs.declared.stores.MemFile.{MemFile}
use Rattle.store_mem.specs.declared.stores.StoreEntry.{StoreEntry}
use Rattle.store_mem.specs.declared.stores.StoreEntry.TheVariants.{List as Lists, Read, Write, Sync, Rename, Remove, Settle, Crash}
use Rattle.store_mem.specs.CrashRecord.{files_left, after_crash}
use Rattle.store_mem.specs.StoreRecord.{HoldsFiles, IsNamedEntry, KeepsNames, UndoesNamed, entry_file, file_of, put_files, in_name_order, store_step, store_start, told_after}
use Rattle.store_mem.proofs.StoreSteps.{All-put_file, All-drop_file, aside_named}

-- ---- order

set_order : (name : List ℕ) (content : Option (List ℕ)) (files : List StoreFile) → InNameOrder file_name files
    → InNameOrder file_name (set_file name content files)
set_order name None files h = drop_in_order file_name name files h
set_order name (Some bytes) files h = put_in_order file_name (record { name = name; bytes = bytes }) files h

undone_order : (undo : List UndoneFile) (files : List StoreFile) → InNameOrder file_name files → InNameOrder file_name (undone undo files)
undone_order [] files h = h
undone_order (u ∷ undo) files h = set_order u.name (content_of u.undo) (undone undo files) (undone_order undo files h)

put_order : (sorted files : List StoreFile) → InNameOrder file_name sorted → InNameOrder file_name (put_files sorted files)
put_order sorted [] h = h
put_order sorted (file ∷ files) h = put_order (put_file file sorted) files (put_in_order file_name file sorted h)

-- ---- soundness

crash_sound : (pick : Pick) (told : StoreTold) → IsSound told → IsSound (after_crash pick told)
crash_sound pick told sound =
    record { files_in_order = order pick; undo_in_order = tt; knows = λ name. known_unchanged name (file_at name (files_left pick told)) }
  where
    order : (pick : Pick) → InNameOrder file_name (files_left pick told)
    order Old = undone_order told.undo told.files sound.files_in_order
    order New = sound.files_in_order

step_sound : (told : StoreTold) (entry : StoreEntry) → IsSound told → IsSound (store_step told entry)
step_sound told (Lists true) s = sound_after told s (ListedAsides (Some (asides told.files))) told.files (inl refl)
step_sound told (Lists false) s = sound_after told s (ListedAsides None) told.files (inl refl)
step_sound told (Read name true) s = sound_after told s (ReadFile name (reading_of (file_at name told.files))) told.files (inl refl)
step_sound told (Read name false) s = sound_after told s (ReadFile name Unread) told.files (inl refl)
step_sound told (Write name bytes true) s =
    sound_after told s (WroteAside name bytes.items true) (put_file (record { name = aside_of name; bytes = bytes.items }) told.files) (inl refl)
step_sound told (Write name bytes false) s = sound_after told s (WroteAside name bytes.items false) told.files (inr (refl, inl refl))
step_sound told (Sync name true) s = sound_after told s (SyncedAside name true) told.files (inl refl)
step_sound told (Sync name false) s = sound_after told s (SyncedAside name false) told.files (inl refl)
step_sound told (Rename name true) s = sound_after told s (RenamedAside name true) (rename_file name (file_at (aside_of name) told.files) told.files) (inl refl)
step_sound told (Rename name false) s = sound_after told s (RenamedAside name false) told.files (inr (refl, inl refl))
step_sound told (Remove name true) s = sound_after told s (RemovedFile name true) (drop_file name told.files) (inl refl)
step_sound told (Remove name false) s = sound_after told s (RemovedFile name false) told.files (inr (refl, inl refl))
step_sound told (Settle true) s = sound_after told s (SettledFiles true) told.files (inl refl)
step_sound told (Settle false) s = sound_after told s (SettledFiles false) told.files (inl refl)
step_sound told (Crash pick) s = crash_sound pick told s

fold_sound : (entries : List StoreEntry) (told : StoreTold) → IsSound told → IsSound (fold store_step told entries)
fold_sound [] told s = s
fold_sound (e ∷ es) told s = fold_sound es (store_step told e) (step_sound told e s)

pub told_sound : (first : List MemFile) (entries : List StoreEntry) → IsSound (told_after first entries)
told_sound first entries = fold_sound entries (store_start first) (sound_start (in_name_order (map file_of first)) (put_order [] (map file_of first) tt))

pub crash_image : (pick : Pick) (told : StoreTold) → IsSound told → IsImage told.disk (reads_of told) (reads_of (after_crash pick told))
crash_image Old told sound = undone_image told sound
crash_image New told sound = reads_image told sound

-- ---- names

abbrev Named : UndoneFile → Type 0
Named file = IsFileName file.name

put_named_undo : (file : UndoneFile) (undo : List UndoneFile) → All Named undo → Named file → All Named (put_undo file.name file.undo undo)
put_named_undo file [] a p = All-cons Named file [] p (All-nil Named)
put_named_undo file (u ∷ undo) a p = by (name_cmp file.name u.name) (put_named_undo file undo (All-tail Named _ _ a) p)
  where
    by : (r : Ordering) → All Named (put_undo file.name file.undo undo)
        → All Named (match_ordering r (file ∷ u ∷ undo) (file ∷ undo) (u ∷ put_undo file.name file.undo undo))
    by Less h = All-cons Named file (u ∷ undo) p a
    by Equal h = All-cons Named file undo p (All-tail Named _ _ a)
    by Greater h = All-cons Named u (put_undo file.name file.undo undo) (All-head Named _ _ a) h

drop_named_undo : (name : List ℕ) (undo : List UndoneFile) → All Named undo → All Named (drop_named undone_name name undo)
drop_named_undo name [] a = a
drop_named_undo name (u ∷ undo) a = by (is_name name u.name) (drop_named_undo name undo (All-tail Named _ _ a))
  where
    by : (b : Bool) → All Named (drop_named undone_name name undo) → All Named (cond b undo (u ∷ drop_named undone_name name undo))
    by true h = All-tail Named _ _ a
    by false h = All-cons Named u (drop_named undone_name name undo) (All-head Named _ _ a) h

restored_named : (name : List ℕ) (reads : Option (List ℕ)) (undo : List UndoneFile) → IsFileName name → All Named undo → All Named (restoring name reads undo)
restored_named name reads undo is a = put_named_undo (record { name = name; undo = Restores (undone_at name reads undo) }) undo a is

synced_named : (aside : List ℕ) (reads : Option (List ℕ)) (undo : List UndoneFile) → All Named undo → All Named (undo_synced aside reads undo)
synced_named aside None undo a = a
synced_named aside (Some bytes) undo a = drop_named_undo aside undo a

renamed_named : (name : List ℕ) (reads content : Option (List ℕ)) (undo : List UndoneFile) → IsFileName name → All Named undo
    → All Named (undo_renamed name reads content undo)
renamed_named name reads None undo is a = a
renamed_named name reads (Some bytes) undo is a =
    restored_named (aside_of name) (Some bytes) (restoring name reads undo) (aside_named name is) (restored_named name reads undo is a)

pub step_named : (told : StoreTold) (entry : StoreEntry) → IsNamedEntry entry → UndoesNamed told → UndoesNamed (store_step told entry)
step_named told (Lists true) is a = a
step_named told (Lists false) is a = a
step_named told (Read name true) is a = a
step_named told (Read name false) is a = a
step_named told (Write name bytes true) is a = put_named_undo (record { name = aside_of name; undo = Empties }) told.undo a (aside_named name is)
step_named told (Write name bytes false) is a = a
step_named told (Sync name true) is a = synced_named (aside_of name) (file_at (aside_of name) told.files) told.undo a
step_named told (Sync name false) is a = a
step_named told (Rename name true) is a = renamed_named name (file_at name told.files) (file_at (aside_of name) told.files) told.undo is a
step_named told (Rename name false) is a = a
step_named told (Remove name true) is a = restored_named name (file_at name told.files) told.undo is a
step_named told (Remove name false) is a = a
step_named told (Settle true) is a = All-filter (λ (u : UndoneFile). is_emptied u.undo) Named told.undo a
step_named told (Settle false) is a = a
step_named told (Crash pick) is a = All-nil Named

abbrev NamedFile : StoreFile → Type 0
NamedFile file = IsFileName file.name

set_named : (name : List ℕ) (content : Option (List ℕ)) (files : List StoreFile) → IsFileName name → All NamedFile files
    → All NamedFile (set_file name content files)
set_named name None files is a = All-drop_file NamedFile name files a
set_named name (Some bytes) files is a = All-put_file NamedFile (record { name = name; bytes = bytes }) files a is

pub undone_named : (undo : List UndoneFile) (files : List StoreFile) → All Named undo → All NamedFile files → All NamedFile (undone undo files)
undone_named [] files u f = f
undone_named (x ∷ undo) files u f =
    set_named x.name (content_of x.undo) (undone undo files) (All-head Named _ _ u) (undone_named undo files (All-tail Named _ _ u) f)

-- ---- one entry more

pub told_last : (first : List MemFile) (entries : List StoreEntry) (entry : StoreEntry)
    → told_after first (entries ++ entry ∷ []) ≡ store_step (told_after first entries) entry
told_last first entries entry = fold-append store_step (store_start first) entries (entry ∷ [])

pub told_more : (first : List MemFile) (entries : List StoreEntry) (i : ℕ) (entry : StoreEntry) → i < length entries → entry ≡ get_or entries i entry
    → told_after first (take (i + 1) entries) ≡ store_step (told_after first (take i entries)) entry
told_more first entries i entry lt is =
    ap (told_after first) (take_more entries i entry lt) ∙ told_last first (take i entries) (get_or entries i entry)
    ∙ ap (store_step (told_after first (take i entries))) (sym is)

-- ---- a crash

pub old_named : {E : Type 0} (told : StoreTold) (result : Result (BTreeMap (String Global) (Vec ℕ)) E)
    → IfOk result (λ files. map entry_file files.entries ≡ files_left Old told)
    → IfOk result (λ files. UndoesNamed told) → IfOk result (λ files. KeepsNames told (map entry_file files.entries))
old_named told (Ok files) are named = λ files_named. subst (All NamedFile) (sym are) (undone_named told.undo told.files named files_named)
old_named told (Err e) are named = tt

pub crash_holds : (first : List MemFile) (entries after : List StoreEntry) (pick : Pick) (held left : List (String Global × Vec ℕ)) (answered : ℕ)
    → after ≡ entries ++ Crash pick ∷ []
    → HoldsFiles (told_after first entries) held answered → map entry_file left ≡ files_left pick (told_after first entries)
    → KeepsNames (told_after first entries) (map entry_file left) → HoldsFiles (told_after first after) left answered
crash_holds first entries after pick held left answered is holds files named =
    subst (λ t. HoldsFiles t left answered) (sym (ap (told_after first) is ∙ told_last first entries (Crash pick)))
    (record { files = sym files; names = subst (All NamedFile) files (named holds.names); counted = holds.counted })

pub crash_left : (first : List MemFile) (entries after : List StoreEntry) (pick : Pick) (told : StoreTold) → told_after first entries ≡ told
    → after ≡ entries ++ Crash pick ∷ []
    → IsImage told.disk (reads_of told) (reads_of (told_after first after))
crash_left first entries after pick told view is =
    subst (λ t. IsImage told.disk (reads_of told) (reads_of t))
    (sym (ap (told_after first) is ∙ told_last first entries (Crash pick) ∙ ap (after_crash pick) view))
    (crash_image pick told (subst IsSound view (told_sound first entries)))
