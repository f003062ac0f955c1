-- What a store tells is sound at each moment.
use Rattle.std.proofs.Common.{◌≡◌, ℕ, Bool, true, false, ◌⊎◌, inl, inr, List, [], ◌∷◌, Option, Some, None, refl, sym, ap, subst, ◌∙◌}
use Rattle.world.specs.FileNames.{aside_of, is_name}
use Rattle.world.specs.NamedLists.{InNameOrder}
use Rattle.world.specs.FileLists.{StoreFile, file_name, file_at, put_file, drop_file, rename_file}
use Rattle.world.specs.CrashImages.{changed_file, IsImage, MayBe}
use Rattle.world.specs.DiskChanges.{renamed, synced}
use Rattle.world.specs.Undoing.{Empties, Restores, UndoneFile, undone_name, content_of, undone_at, undone, set_file, is_emptied, put_undo, restoring, undo_renamed, undo_synced}
use Rattle.world.specs.StoreCalls.{StoreCall, ListedAsides, ReadFile, WroteAside, SyncedAside, RenamedAside, RemovedFile, SettledFiles, StoreTold, store_answered, store_holding}
use Rattle.world.specs.SoundStores.{KnowsFile, IsSound, LeavesFiles, reads_of, undone_of}
use Rattle.world.proofs.NameOrder.{same_name, unlike_aside, named_here, named_there, put_in_order, drop_in_order, filter_in_order}
use Rattle.world.proofs.SoundStores.{known_unchanged}
use Rattle.world.proofs.SoundCalls.{Knows, file_found, file_kept, file_gone, file_left, writes}
use Rattle.world.proofs.SoundSteps.{removes, syncs, settles}
use Rattle.world.proofs.SoundRenames.{renames, RestoresBoth}

pub sound_start : (files : List StoreFile) → InNameOrder file_name files → IsSound (store_holding files)
sound_start files h = record { files_in_order = h; undo_in_order = tt; knows = λ name. known_unchanged name (file_at name files) }

module _ (told : StoreTold) (sound : IsSound told) where
  abbrev After : StoreCall → List StoreFile → Type 0
  After call files = IsSound (store_answered call files told)

  abbrev old : List ℕ → Option (List ℕ)
  old name = file_at name told.files

  -- nothing changed but the list of calls
  same : (call : StoreCall) (files : List StoreFile) → files ≡ told.files
      → store_answered call told.files told ≡ record told { calls = (store_answered call told.files told).calls } → After call files
  same call files is nothing =
      subst (λ (f : List StoreFile). After call f) (sym is)
      (subst IsSound (sym nothing) (record { files_in_order = sound.files_in_order; undo_in_order = sound.undo_in_order; knows = sound.knows }))

  -- ---- writing

  -- (what it left in the aside may be other bytes than it was to write)
  module _ (name bytes left : List ℕ) where
    abbrev aside : StoreFile
    aside = record { name = aside_of name; bytes = left }

    written_sound : (done : Bool) (files : List StoreFile) → (files ≡ put_file aside told.files) ⊎ (files ≡ told.files)
        → After (WroteAside name bytes done) files
    written_sound done files is = record { files_in_order = order is; undo_in_order = undo_order done; knows = knows done }
      where
        order : (files ≡ put_file aside told.files) ⊎ (files ≡ told.files) → InNameOrder file_name files
        order (inl put) = subst (InNameOrder file_name) (sym put) (put_in_order file_name aside told.files sound.files_in_order)
        order (inr kept) = subst (InNameOrder file_name) (sym kept) sound.files_in_order

        undo_order : (d : Bool) → InNameOrder undone_name (store_answered (WroteAside name bytes d) files told).undo
        undo_order true = put_in_order undone_name (record { name = aside_of name; undo = Empties }) told.undo sound.undo_in_order
        undo_order false = sound.undo_in_order

        reads : (n : List ℕ) → is_name n (aside_of name) ≡ false → (files ≡ put_file aside told.files) ⊎ (files ≡ told.files) → file_at n files ≡ old n
        reads n other (inl put) = ap (file_at n) put ∙ file_kept aside n told.files other
        reads n other (inr kept) = ap (file_at n) kept

        knows : (d : Bool) (n : List ℕ) → KnowsFile (store_answered (WroteAside name bytes d) files told) n
        knows true n =
            writes (aside_of name) bytes n (old (aside_of name)) (old n) (file_at n files) told.disk told.undo (put_undo (aside_of name) Empties told.undo)
            (inr refl) (λ other. reads n other is) (sound.knows n)
        knows false n =
            writes (aside_of name) bytes n (old (aside_of name)) (old n) (file_at n files) told.disk told.undo told.undo (inl refl) (λ other. reads n other is)
            (sound.knows n)

  -- ---- removing

  module _ (name : List ℕ) where
    removed_sound : (done : Bool) (files : List StoreFile) → (files ≡ drop_file name told.files) ⊎ (files ≡ told.files) → After (RemovedFile name done) files
    removed_sound done files is = record { files_in_order = order is; undo_in_order = undo_order done; knows = knows done }
      where
        order : (files ≡ drop_file name told.files) ⊎ (files ≡ told.files) → InNameOrder file_name files
        order (inl gone) = subst (InNameOrder file_name) (sym gone) (drop_in_order file_name name told.files sound.files_in_order)
        order (inr kept) = subst (InNameOrder file_name) (sym kept) sound.files_in_order

        undo_order : (d : Bool) → InNameOrder undone_name (store_answered (RemovedFile name d) files told).undo
        undo_order true = put_in_order undone_name (record { name = name; undo = Restores (undone_at name (old name) told.undo) }) told.undo sound.undo_in_order
        undo_order false = sound.undo_in_order

        reads : (n : List ℕ) → is_name n name ≡ false → (files ≡ drop_file name told.files) ⊎ (files ≡ told.files) → file_at n files ≡ old n
        reads n other (inl gone) = ap (file_at n) gone ∙ file_left name n told.files other
        reads n other (inr kept) = ap (file_at n) kept

        here : (n : List ℕ) → is_name n name ≡ true → (files ≡ drop_file name told.files) ⊎ (files ≡ told.files)
            → (file_at n files ≡ old n) ⊎ (file_at n files ≡ None)
        here n e (inl gone) =
            inr (ap (λ (k : List ℕ). file_at k files) (same_name n name e) ∙ ap (file_at name) gone ∙ file_gone name told.files sound.files_in_order)
        here n e (inr kept) = inl (ap (file_at n) kept)

        knows : (d : Bool) (n : List ℕ) → KnowsFile (store_answered (RemovedFile name d) files told) n
        knows true n =
            removes name n true (old name) (old n) (file_at n files) told.disk told.undo (restoring name (old name) told.undo) refl (λ other. reads n other is)
            (λ e. here n e is)
            (λ e. ap old (same_name n name e)) (sound.knows n)
        knows false n =
            removes name n false (old name) (old n) (file_at n files) told.disk told.undo told.undo refl (λ other. reads n other is) (λ e. here n e is)
            (λ e. ap old (same_name n name e)) (sound.knows n)

  -- ---- renaming

  module _ (name bytes : List ℕ) (there : old (aside_of name) ≡ Some bytes) where
    abbrev put : List StoreFile
    put = put_file (record { name = name; bytes = bytes }) told.files

    abbrev moved : List StoreFile
    moved = drop_file (aside_of name) put

    abbrev both : List UndoneFile
    both = restoring (aside_of name) (Some bytes) (restoring name (old name) told.undo)

    abbrev KnowsAll : List StoreFile → Bool → List UndoneFile → Type 0
    KnowsAll files done undo = (n : List ℕ) → Knows n (file_at n files) (renamed name done (old name) (Some bytes) told.disk) undo

    moved_aside : file_at (aside_of name) moved ≡ None
    moved_aside = file_gone (aside_of name) put (put_in_order file_name (record { name = name; bytes = bytes }) told.files sound.files_in_order)

    moved_name : file_at name moved ≡ Some bytes
    moved_name = file_left (aside_of name) name put (unlike_aside name) ∙ file_found name bytes told.files

    moved_other : (n : List ℕ) → is_name n (aside_of name) ≡ false → is_name n name ≡ false → file_at n moved ≡ old n
    moved_other n a m = file_left (aside_of name) n put a ∙ file_kept (record { name = name; bytes = bytes }) n told.files m

    abbrev IsUndo : Bool → List UndoneFile → Type 0
    IsUndo true undo' = undo' ≡ both
    IsUndo false undo' = undo' ≡ told.undo

    pub renamed_knows : (done : Bool) (files : List StoreFile) (undo' : List UndoneFile) → (files ≡ moved) ⊎ (files ≡ told.files) → IsUndo done undo'
        → KnowsAll files done undo'
    renamed_knows done files undo' is u n =
        renames name bytes done (old name) told.disk told.undo undo' (λ d e. as_undone d (subst (λ (b : Bool). IsUndo b undo') e u)) n (old n) (file_at n files)
        (sound.knows n) (of_aside is) (of_file is) (of_other is)
      where
        as_undone : (d : Bool) → IsUndo d undo' → RestoresBoth name bytes done (old name) told.disk told.undo undo' d
        as_undone true k = k
        as_undone false k = k

        of_aside : (files ≡ moved) ⊎ (files ≡ told.files) → is_name n (aside_of name) ≡ true
            → (old n ≡ Some bytes) × ((file_at n files ≡ Some bytes) ⊎ (file_at n files ≡ None))
        of_aside (inl m) e = (
          ap old (same_name n (aside_of name) e) ∙ there,
          inr (ap (λ (k : List ℕ). file_at k files) (same_name n (aside_of name) e) ∙ ap (file_at (aside_of name)) m ∙ moved_aside),
        )
        of_aside (inr k) e = (ap old (same_name n (aside_of name) e) ∙ there, inl (ap (file_at n) k ∙ ap old (same_name n (aside_of name) e) ∙ there))

        of_file : (files ≡ moved) ⊎ (files ≡ told.files) → is_name n (aside_of name) ≡ false → is_name n name ≡ true
            → (old n ≡ old name) × ((file_at n files ≡ old name) ⊎ (file_at n files ≡ Some bytes))
        of_file (inl m) a e = (ap old (same_name n name e), inr (ap (λ (k : List ℕ). file_at k files) (same_name n name e) ∙ ap (file_at name) m ∙ moved_name))
        of_file (inr k) a e = (ap old (same_name n name e), inl (ap (file_at n) k ∙ ap old (same_name n name e)))

        of_other : (files ≡ moved) ⊎ (files ≡ told.files) → is_name n (aside_of name) ≡ false → is_name n name ≡ false → file_at n files ≡ old n
        of_other (inl m) a e = ap (file_at n) m ∙ moved_other n a e
        of_other (inr k) a e = ap (file_at n) k

  module _ (name : List ℕ) where
    renamed_by : (content : Option (List ℕ)) → old (aside_of name) ≡ content → (done : Bool) (files : List StoreFile)
        → (files ≡ rename_file name content told.files) ⊎ (files ≡ told.files)
        → After (RenamedAside name done) files
    renamed_by None there done files is = by done
      where
        unmoved : files ≡ told.files
        unmoved = either is
          where
            either : (files ≡ told.files) ⊎ (files ≡ told.files) → files ≡ told.files
            either (inl e) = e
            either (inr e) = e

        by : (d : Bool) → After (RenamedAside name d) files
        by true = same (RenamedAside name true) files unmoved (rw there refl)
        by false = same (RenamedAside name false) files unmoved (rw there refl)
    renamed_by (Some bytes) there done files is = record { files_in_order = order is; undo_in_order = undo_order done; knows = knows done }
      where
        order : (files ≡ rename_file name (Some bytes) told.files) ⊎ (files ≡ told.files) → InNameOrder file_name files
        order (inl m) =
            subst (InNameOrder file_name) (sym m)
            (drop_in_order file_name (aside_of name) (put_file (record { name = name; bytes = bytes }) told.files)
            (put_in_order file_name (record { name = name; bytes = bytes }) told.files sound.files_in_order))
        order (inr k) = subst (InNameOrder file_name) (sym k) sound.files_in_order

        undo_order : (d : Bool) → InNameOrder undone_name (store_answered (RenamedAside name d) files told).undo
        undo_order true =
            subst (λ (o : Option (List ℕ)). InNameOrder undone_name (undo_renamed name (old name) o told.undo)) (sym there)
            (put_in_order undone_name
            (record { name = aside_of name; undo = Restores (undone_at (aside_of name) (Some bytes) (restoring name (old name) told.undo)) })
            (restoring name (old name) told.undo)
            (put_in_order undone_name (record { name = name; undo = Restores (undone_at name (old name) told.undo) }) told.undo sound.undo_in_order))
        undo_order false = sound.undo_in_order

        knows : (d : Bool) (n : List ℕ) → KnowsFile (store_answered (RenamedAside name d) files told) n
        knows true n =
            subst (λ (o : Option (List ℕ)). Knows n (file_at n files) (renamed name true (old name) o told.disk) (undo_renamed name (old name) o told.undo))
            (sym there)
            (renamed_knows name bytes there true files (restoring (aside_of name) (Some bytes) (restoring name (old name) told.undo)) is refl n)
        knows false n =
            subst (λ (o : Option (List ℕ)). Knows n (file_at n files) (renamed name false (old name) o told.disk) told.undo) (sym there)
            (renamed_knows name bytes there false files told.undo is refl n)

  -- ---- syncing and settling

  synced_by : (name : List ℕ) (content : Option (List ℕ)) → old (aside_of name) ≡ content → (files : List StoreFile) → files ≡ told.files
      → After (SyncedAside name true) files
  synced_by name None there files is = same (SyncedAside name true) files is (rw there refl)
  synced_by name (Some bytes) there files is =
      subst (λ (f : List StoreFile). After (SyncedAside name true) f) (sym is) (record {
        files_in_order = sound.files_in_order;
        undo_in_order =
            subst (λ (o : Option (List ℕ)). InNameOrder undone_name (undo_synced (aside_of name) o told.undo)) (sym there)
            (drop_in_order undone_name (aside_of name) told.undo sound.undo_in_order);
        knows = λ n. subst (λ (o : Option (List ℕ)). Knows n (old n) (synced (aside_of name) o told.disk) (undo_synced (aside_of name) o told.undo)) (sym there)
            (syncs (aside_of name) bytes n (old n) told.disk told.undo sound.undo_in_order (sound.knows n));
      })

  settled_by : (files : List StoreFile) → files ≡ told.files → After (SettledFiles true) files
  settled_by files is =
      subst (λ (f : List StoreFile). After (SettledFiles true) f) (sym is) (record {
        files_in_order = sound.files_in_order;
        undo_in_order = filter_in_order undone_name (λ f. is_emptied f.undo) told.undo sound.undo_in_order;
        knows = λ n. settles n (old n) told.disk told.undo sound.undo_in_order (sound.knows n);
      })

  changed_files : (files by : List StoreFile) (done : Bool) → (files ≡ by) ⊎ ((done ≡ false) × ((files ≡ told.files) ⊎ (files ≡ by)))
      → (files ≡ by) ⊎ (files ≡ told.files)
  changed_files files by done (inl e) = inl e
  changed_files files by done (inr (failed, inl e)) = inr e
  changed_files files by done (inr (failed, inr e)) = inl e

  kept_files : (files : List StoreFile) (done : Bool) → (files ≡ told.files) ⊎ ((done ≡ false) × ((files ≡ told.files) ⊎ (files ≡ told.files)))
      → files ≡ told.files
  kept_files files done is = either (changed_files files told.files done is)
    where
      either : (files ≡ told.files) ⊎ (files ≡ told.files) → files ≡ told.files
      either (inl e) = e
      either (inr e) = e

  written_after : (name bytes : List ℕ) (done : Bool) (files : List StoreFile) → LeavesFiles (WroteAside name bytes done) told.files files
      → After (WroteAside name bytes done) files
  written_after name bytes done files (inl e) = written_sound name bytes bytes done files (inl e)
  written_after name bytes done files (inr (failed, inl e)) = written_sound name bytes bytes done files (inr e)
  written_after name bytes done files (inr (failed, inr (left, e))) = written_sound name bytes left done files (inl e)

  pub sound_after : (call : StoreCall) (files : List StoreFile) → LeavesFiles call told.files files → After call files
  sound_after (ListedAsides names) files is = same (ListedAsides names) files (kept_files files true is) refl
  sound_after (ReadFile name reading) files is = same (ReadFile name reading) files (kept_files files true is) refl
  sound_after (WroteAside name bytes done) files is = written_after name bytes done files is
  sound_after (SyncedAside name true) files is = synced_by name (old (aside_of name)) refl files (kept_files files true is)
  sound_after (SyncedAside name false) files is = same (SyncedAside name false) files (kept_files files true is) refl
  sound_after (RenamedAside name done) files is =
      renamed_by name (old (aside_of name)) refl done files (changed_files files (rename_file name (old (aside_of name)) told.files) done is)
  sound_after (RemovedFile name done) files is = removed_sound name done files (changed_files files (drop_file name told.files) done is)
  sound_after (SettledFiles true) files is = settled_by files (kept_files files true is)
  sound_after (SettledFiles false) files is = same (SettledFiles false) files (kept_files files true is) refl

  -- ---- images

  set_order : (name : List ℕ) (content : Option (List ℕ)) (files : List StoreFile) → InNameOrder file_name files
      → InNameOrder file_name (set_file name content files)
  set_order name None files h = drop_in_order file_name name files h
  set_order name (Some bytes) files h = put_in_order file_name (record { name = name; bytes = bytes }) files h

  undone_order : (undo : List UndoneFile) (files : List StoreFile) → InNameOrder file_name files → InNameOrder file_name (undone undo files)
  undone_order [] files h = h
  undone_order (u ∷ undo) files h = set_order u.name (content_of u.undo) (undone undo files) (undone_order undo files h)

  set_found : (name : List ℕ) (content : Option (List ℕ)) (files : List StoreFile) → InNameOrder file_name files
      → file_at name (set_file name content files) ≡ content
  set_found name None files h = file_gone name files h
  set_found name (Some bytes) files h = file_found name bytes files

  set_kept : (name gone : List ℕ) (content : Option (List ℕ)) (files : List StoreFile) → is_name name gone ≡ false
      → file_at name (set_file gone content files) ≡ file_at name files
  set_kept name gone None files other = file_left gone name files other
  set_kept name gone (Some bytes) files other = file_kept (record { name = gone; bytes = bytes }) name files other

  pub undone_reads : (name : List ℕ) (undo : List UndoneFile) (files : List StoreFile) → InNameOrder file_name files
      → file_at name (undone undo files) ≡ undone_at name (file_at name files) undo
  undone_reads name [] files h = refl
  undone_reads name (u ∷ undo) files h = by (is_name name u.name) refl (undone_reads name undo files h)
    where
      by : (b : Bool) → is_name name u.name ≡ b → file_at name (undone undo files) ≡ undone_at name (file_at name files) undo
          → file_at name (set_file u.name (content_of u.undo) (undone undo files)) ≡ undone_at name (file_at name files) (u ∷ undo)
      by true e rest =
          ap (λ (k : List ℕ). file_at k (set_file u.name (content_of u.undo) (undone undo files))) (same_name name u.name e)
          ∙ set_found u.name (content_of u.undo) (undone undo files) (undone_order undo files h)
          ∙ sym (named_here undone_name (λ (f : UndoneFile). content_of f.undo) (file_at name files) name u undo e)
      by false e rest =
          set_kept name u.name (content_of u.undo) (undone undo files) e ∙ rest
          ∙ sym (named_there undone_name (λ (f : UndoneFile). content_of f.undo) (file_at name files) name u undo e)

  pub reads_image : IsImage told.disk (reads_of told) (reads_of told)
  reads_image name = (sound.knows name).reads_so

  pub undone_image : IsImage told.disk (reads_of told) (undone_of told)
  undone_image name =
      subst (MayBe (changed_file name (old name) told.disk)) (sym (undone_reads name told.undo told.files sound.files_in_order)) (sound.knows name).undone_so
