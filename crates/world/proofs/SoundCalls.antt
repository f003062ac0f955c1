-- Each call of a store leaves what it tells sound.
use Rattle.std.proofs.Common.{◌≡◌, ℕ, Bool, true, false, ◌⊎◌, inl, inr, List, ◌∷◌, Option, Some, None, refl, sym, ap, subst, ◌∙◌}
use Rattle.world.specs.FileNames.{is_name}
use Rattle.world.specs.NamedLists.{InNameOrder}
use Rattle.world.specs.FileLists.{StoreFile, file_name, file_at, put_file, drop_file}
use Rattle.world.specs.CrashImages.{ChangedFile, changed_name, changed_file, unchanged, MayBe}
use Rattle.world.specs.DiskChanges.{with_content, written}
use Rattle.world.specs.Undoing.{Undo, Empties, UndoneFile, undone_name, content_of, undone_at, is_emptied, put_undo}
use Rattle.world.specs.SoundStores.{emptied_at, IsKnown}
use Rattle.world.proofs.NameOrder.{name_itself, named_here, named_there, put_found, put_kept, drop_gone, drop_kept}
use Rattle.world.proofs.SoundStores.{known_by, may_still, may_now, known_content, known_written, changed_is_named, undone_or}

abbrev pub Knows : List ℕ → Option (List ℕ) → List ChangedFile → List UndoneFile → Type 0
Knows name reads disk undo = IsKnown (changed_file name reads disk) reads (undone_at name reads undo) (emptied_at name undo)

-- ---- lookups

pub file_found : (name bytes : List ℕ) (files : List StoreFile) → file_at name (put_file (record { name = name; bytes = bytes }) files) ≡ Some bytes
file_found name bytes files = put_found file_name (λ (f : StoreFile). Some f.bytes) None name (record { name = name; bytes = bytes }) (name_itself name) files

pub file_kept : (put : StoreFile) (name : List ℕ) (files : List StoreFile) → is_name name put.name ≡ false
    → file_at name (put_file put files) ≡ file_at name files
file_kept put name files other = put_kept file_name (λ (f : StoreFile). Some f.bytes) None name put other files

pub file_gone : (name : List ℕ) (files : List StoreFile) → InNameOrder file_name files → file_at name (drop_file name files) ≡ None
file_gone name files h = drop_gone file_name (λ (f : StoreFile). Some f.bytes) None name files h

pub file_left : (gone name : List ℕ) (files : List StoreFile) → is_name name gone ≡ false → file_at name (drop_file gone files) ≡ file_at name files
file_left gone name files other = drop_kept file_name (λ (f : StoreFile). Some f.bytes) None name gone other files

pub changed_there : (name : List ℕ) (reads : Option (List ℕ)) (file : ChangedFile) (disk : List ChangedFile) → is_name name file.name ≡ false
    → changed_file name reads (file ∷ disk) ≡ changed_file name reads disk
changed_there name reads file disk other = named_there changed_name (λ (f : ChangedFile). f) (unchanged name reads) name file disk other

pub changed_here : (name : List ℕ) (reads : Option (List ℕ)) (file : ChangedFile) (disk : List ChangedFile) → is_name name file.name ≡ true
    → changed_file name reads (file ∷ disk) ≡ file
changed_here name reads file disk here = named_here changed_name (λ (f : ChangedFile). f) (unchanged name reads) name file disk here

pub undo_kept : (name : List ℕ) (reads : Option (List ℕ)) (put : List ℕ) (u : Undo) (undo : List UndoneFile) → is_name name put ≡ false
    → undone_at name reads (put_undo put u undo) ≡ undone_at name reads undo
undo_kept name reads put u undo other = put_kept undone_name (λ (f : UndoneFile). content_of f.undo) reads name (record { name = put; undo = u }) other undo

pub undo_found : (name : List ℕ) (reads : Option (List ℕ)) (put : List ℕ) (u : Undo) (undo : List UndoneFile) → is_name name put ≡ true
    → undone_at name reads (put_undo put u undo) ≡ content_of u
undo_found name reads put u undo here = put_found undone_name (λ (f : UndoneFile). content_of f.undo) reads name (record { name = put; undo = u }) here undo

pub emptied_kept : (name put : List ℕ) (u : Undo) (undo : List UndoneFile) → is_name name put ≡ false
    → emptied_at name (put_undo put u undo) ≡ emptied_at name undo
emptied_kept name put u undo other = put_kept undone_name (λ (f : UndoneFile). is_emptied f.undo) false name (record { name = put; undo = u }) other undo

pub emptied_found : (name put : List ℕ) (u : Undo) (undo : List UndoneFile) → is_name name put ≡ true → emptied_at name (put_undo put u undo) ≡ is_emptied u
emptied_found name put u undo here = put_found undone_name (λ (f : UndoneFile). is_emptied f.undo) false name (record { name = put; undo = u }) here undo

-- what is known of a name under which nothing changed
pub stays : (name : List ℕ) (reads now : Option (List ℕ)) (disk disk' : List ChangedFile) (undo undo' : List UndoneFile) → now ≡ reads
    → changed_file name now disk' ≡ changed_file name now disk → undone_at name now undo' ≡ undone_at name now undo
    → emptied_at name undo' ≡ emptied_at name undo
    → Knows name reads disk undo → Knows name now disk' undo'
stays name reads now disk disk' undo undo' same d u e known =
    let here = subst (λ (r : Option (List ℕ)). Knows name r disk undo) (sym same) known in
    known_by (changed_file name now disk) (changed_file name now disk') now now (undone_at name now undo) (undone_at name now undo') (emptied_at name undo)
    (emptied_at name undo') d refl u e here

-- ---- writing an aside

module _ (aside bytes name : List ℕ) (old reads now : Option (List ℕ)) (disk : List ChangedFile) (undo undo' : List UndoneFile) where
  abbrev entry : ChangedFile
  entry = with_content (Some bytes) true (changed_file aside old disk)

  pub writes : (undo' ≡ undo) ⊎ (undo' ≡ put_undo aside Empties undo) → (is_name name aside ≡ false → now ≡ reads)
      → Knows name reads disk undo → Knows name now (written aside bytes old disk) undo'
  writes u r known = by (is_name name aside) refl
    where
      by : (b : Bool) → is_name name aside ≡ b → Knows name now (written aside bytes old disk) undo'
      by true here =
          let is : changed_file name now (written aside bytes old disk) ≡ entry =
          changed_here name now entry disk (ap (is_name name) (changed_is_named aside old disk) ∙ here) in
          known_by entry (changed_file name now (written aside bytes old disk)) now now (undone_at name now undo') (undone_at name now undo')
          (emptied_at name undo') (emptied_at name undo') is refl refl refl
          (known_written (changed_file aside old disk) (Some bytes) now (undone_at name now undo') (emptied_at name undo'))
      by false other =
          let there : changed_file name now (written aside bytes old disk) ≡ changed_file name now disk =
          changed_there name now entry disk (ap (is_name name) (changed_is_named aside old disk) ∙ other) in
          undoes u
        where
          undoes : (undo' ≡ undo) ⊎ (undo' ≡ put_undo aside Empties undo) → Knows name now (written aside bytes old disk) undo'
          undoes (inl same) =
              stays name reads now disk (written aside bytes old disk) undo undo' (r other)
              (changed_there name now entry disk (ap (is_name name) (changed_is_named aside old disk) ∙ other)) (ap (undone_at name now) same)
              (ap (emptied_at name) same) known
          undoes (inr put) =
              stays name reads now disk (written aside bytes old disk) undo undo' (r other)
              (changed_there name now entry disk (ap (is_name name) (changed_is_named aside old disk) ∙ other))
              (ap (undone_at name now) put ∙ undo_kept name now aside Empties undo other)
              (ap (emptied_at name) put ∙ emptied_kept name aside Empties undo other) known

-- ---- one more content of a file

module _ (name : List ℕ) (reads now content : Option (List ℕ)) (unsynced : Bool) (disk : List ChangedFile) (undo : List UndoneFile) where
  abbrev file : ChangedFile
  file = changed_file name reads disk

  abbrev more : ChangedFile
  more = with_content content unsynced file

  reading : (now ≡ reads) ⊎ (now ≡ content) → Knows name reads disk undo → MayBe more now
  reading (inl same) known = subst (MayBe more) (sym same) (may_still file content unsynced reads known.reads_so)
  reading (inr is) known = may_now file content unsynced now is

  still_undone : (now ≡ reads) ⊎ (now ≡ content) → Knows name reads disk undo → MayBe more (undone_at name now undo)
  still_undone r known = by (undone_or name reads now undo)
    where
      by : (undone_at name now undo ≡ undone_at name reads undo) ⊎ (undone_at name now undo ≡ now) → MayBe more (undone_at name now undo)
      by (inl same) = subst (MayBe more) (sym same) (may_still file content unsynced (undone_at name reads undo) known.undone_so)
      by (inr is) = subst (MayBe more) (sym is) (reading r known)

  -- nothing more is to be undone
  pub knows_more : (now ≡ reads) ⊎ (now ≡ content) → (file.unsynced ≡ true → unsynced ≡ true) → Knows name reads disk undo
      → IsKnown more now (undone_at name now undo) (emptied_at name undo)
  knows_more r u known =
      known_content file content unsynced now (undone_at name now undo) (emptied_at name undo) (reading r known) (still_undone r known)
      (λ e. u (known.emptied_so e))

  -- what it would have been restored to is restored
  pub knows_restored : (undo' : List UndoneFile) → undone_at name now undo' ≡ undone_at name reads undo → emptied_at name undo' ≡ false
      → (now ≡ reads) ⊎ (now ≡ content)
      → Knows name reads disk undo → IsKnown more now (undone_at name now undo') (emptied_at name undo')
  knows_restored undo' is e r known = known_content file content unsynced now (undone_at name now undo') (emptied_at name undo') (reading r known)
      (subst (MayBe more) (sym is) (may_still file content unsynced (undone_at name reads undo) known.undone_so))
      (λ k. absurd (let bad : true ≡ false = sym k ∙ e in cc))
