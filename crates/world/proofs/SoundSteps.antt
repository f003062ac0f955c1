-- A removal, a renaming, a sync and a settling leave what a store tells sound.
use Rattle.std.proofs.Common.{◌≡◌, ℕ, Bool, true, false, not, ◌||◌, ◌&&◌, ◌⊎◌, inl, List, Option, Some, None, refl, sym, ap, subst, ◌∙◌}
use Rattle.world.specs.FileNames.{is_name}
use Rattle.world.specs.NamedLists.{drop_named, InNameOrder}
use Rattle.world.specs.CrashImages.{ChangedFile, changed_name, changed_file, unchanged}
use Rattle.world.specs.DiskChanges.{with_content, synced, removed, settled}
use Rattle.world.specs.Undoing.{Restores, UndoneFile, undone_name, content_of, undone_at, is_emptied, restoring, undo_synced, undo_settled}
use Rattle.world.specs.SoundStores.{emptied_at, IsKnown}
use Rattle.world.proofs.NameOrder.{name_itself, same_name, drop_gone, drop_kept, filter_stays, filter_goes}
use Rattle.world.proofs.SoundStores.{known_by, known_unchanged, changed_is_named, settled_stays, settled_goes, unemptied_goes}
use Rattle.world.proofs.SoundCalls.{Knows, changed_there, changed_here, undo_kept, undo_found, emptied_kept, emptied_found, stays, knows_more, knows_restored}

-- a file's undoing after a change that was done or not done
abbrev pub Restored : Bool → List ℕ → Option (List ℕ) → List UndoneFile → List UndoneFile → Type 0
Restored true name reads undo undo' = undo' ≡ restoring name reads undo
Restored false name reads undo undo' = undo' ≡ undo

-- another name than those that changed
other_restored : (done : Bool) (name gone : List ℕ) (old now : Option (List ℕ)) (undo undo' : List UndoneFile) → is_name name gone ≡ false
    → Restored done gone old undo undo'
    → (undone_at name now undo' ≡ undone_at name now undo) × (emptied_at name undo' ≡ emptied_at name undo)
other_restored true name gone old now undo undo' other is = (
  ap (undone_at name now) is ∙ undo_kept name now gone (Restores (undone_at gone old undo)) undo other,
  ap (emptied_at name) is ∙ emptied_kept name gone (Restores (undone_at gone old undo)) undo other,
)
other_restored false name gone old now undo undo' other is = (ap (undone_at name now) is, ap (emptied_at name) is)

pub if_failed : (done a b : Bool) → done ≡ false → b ≡ true → (a || (not done && b)) ≡ true
if_failed done true b e is = refl
if_failed false false b e is = is
if_failed true false b e is = cc

pub kept_if_failed : (done b : Bool) → done ≡ false → b ≡ true → (not done && b) ≡ true
kept_if_failed false b e is = is
kept_if_failed true b e is = cc

-- one more content of the file of a name, by a change that was done or not done
module _ (name : List ℕ) (reads now content : Option (List ℕ)) (unsynced : Bool) (disk : List ChangedFile) (undo undo' : List UndoneFile) where
  abbrev more : ChangedFile
  more = with_content content unsynced (changed_file name reads disk)

  pub changes : (done : Bool) → Restored done name reads undo undo' → (now ≡ reads) ⊎ (now ≡ content)
      → (done ≡ false → (changed_file name reads disk).unsynced ≡ true → unsynced ≡ true)
      → Knows name reads disk undo → IsKnown more now (undone_at name now undo') (emptied_at name undo')
  changes true is r u known =
      knows_restored name reads now content unsynced disk undo undo'
      (ap (undone_at name now) is ∙ undo_found name now name (Restores (undone_at name reads undo)) undo (name_itself name))
      (ap (emptied_at name) is ∙ emptied_found name name (Restores (undone_at name reads undo)) undo (name_itself name)) r known
  changes false is r u known =
      subst (λ (v : List UndoneFile). IsKnown more now (undone_at name now v) (emptied_at name v)) (sym is)
      (knows_more name reads now content unsynced disk undo r (u refl) known)

-- ---- a removal

module _ (gone name : List ℕ) (done : Bool) (old reads now : Option (List ℕ)) (disk : List ChangedFile) (undo undo' : List UndoneFile) where
  abbrev taken : ChangedFile
  taken = with_content None (not done && (changed_file gone old disk).unsynced) (changed_file gone old disk)

  pub removes : Restored done gone old undo undo' → (is_name name gone ≡ false → now ≡ reads) → (is_name name gone ≡ true → (now ≡ reads) ⊎ (now ≡ None))
      → (is_name name gone ≡ true → reads ≡ old)
      → Knows name reads disk undo → Knows name now (removed gone done old disk) undo'
  removes u r here was known = by (is_name name gone) refl
    where
      by : (b : Bool) → is_name name gone ≡ b → Knows name now (removed gone done old disk) undo'
      by false other =
          let un = other_restored done name gone old now undo undo' other u in
          stays name reads now disk (removed gone done old disk) undo undo' (r other)
          (changed_there name now taken disk (ap (is_name name) (changed_is_named gone old disk) ∙ other)) un.0 un.1 known
      by true e =
          let same : name ≡ gone = same_name name gone e in
          let reads_old : reads ≡ old = was e in
          let at : changed_file name now (removed gone done old disk) ≡ taken =
          changed_here name now taken disk (ap (is_name name) (changed_is_named gone old disk) ∙ e) in
          let known_gone : Knows gone old disk undo =
          subst (λ (n : List ℕ). Knows n old disk undo) same (subst (λ (o : Option (List ℕ)). Knows name o disk undo) reads_old known) in
          let now_is : (now ≡ old) ⊎ (now ≡ None) = subst (λ (o : Option (List ℕ)). (now ≡ o) ⊎ (now ≡ None)) reads_old (here e) in
          let is_known : IsKnown taken now (undone_at gone now undo') (emptied_at gone undo') =
          changes gone old now None (not done && (changed_file gone old disk).unsynced) disk undo undo' done u now_is
          (λ d k. kept_if_failed done (changed_file gone old disk).unsynced d k) known_gone in
          known_by taken (changed_file name now (removed gone done old disk)) now now (undone_at gone now undo') (undone_at name now undo')
          (emptied_at gone undo') (emptied_at name undo')
          at refl (ap (λ (n : List ℕ). undone_at n now undo') same) (ap (λ (n : List ℕ). emptied_at n undo') same) is_known

-- ---- a sync

module _ (aside bytes name : List ℕ) (reads : Option (List ℕ)) (disk : List ChangedFile) (undo : List UndoneFile) where
  pub syncs : InNameOrder undone_name undo → Knows name reads disk undo
      → Knows name reads (synced aside (Some bytes) disk) (undo_synced aside (Some bytes) undo)
  syncs h known = by (is_name name aside) refl
    where
      by : (b : Bool) → is_name name aside ≡ b → Knows name reads (synced aside (Some bytes) disk) (undo_synced aside (Some bytes) undo)
      by true here =
          let same : name ≡ aside = same_name name aside here in
          let goes : changed_file name reads (synced aside (Some bytes) disk) ≡ unchanged name reads =
          filter_goes changed_name (λ (f : ChangedFile). f) (unchanged name reads) name (λ f. not (is_name aside f.name))
          (λ x k. ap (λ (n : List ℕ). not (is_name n x.name)) (sym same) ∙ ap not k) disk in
          let un : undone_at name reads (drop_named undone_name aside undo) ≡ reads =
          ap (λ (n : List ℕ). undone_at name reads (drop_named undone_name n undo)) (sym same)
          ∙ drop_gone undone_name (λ (f : UndoneFile). content_of f.undo) reads name undo h in
          let em : emptied_at name (drop_named undone_name aside undo) ≡ false =
          ap (λ (n : List ℕ). emptied_at name (drop_named undone_name n undo)) (sym same)
          ∙ drop_gone undone_name (λ (f : UndoneFile). is_emptied f.undo) false name undo h in
          known_by (unchanged name reads) (changed_file name reads (synced aside (Some bytes) disk)) reads reads reads
          (undone_at name reads (drop_named undone_name aside undo)) false (emptied_at name (drop_named undone_name aside undo))
          goes refl un em (known_unchanged name reads)
      by false other =
          let kept : changed_file name reads (synced aside (Some bytes) disk) ≡ changed_file name reads disk =
          filter_stays changed_name (λ (f : ChangedFile). f) (unchanged name reads) name (λ f. not (is_name aside f.name))
          (λ x k. not_both name aside x.name other k) disk in
          stays name reads reads disk (synced aside (Some bytes) disk) undo (drop_named undone_name aside undo) refl kept
          (drop_kept undone_name (λ (f : UndoneFile). content_of f.undo) reads name aside other undo)
          (drop_kept undone_name (λ (f : UndoneFile). is_emptied f.undo) false name aside other undo) known
        where
          not_both : (n a x : List ℕ) → is_name n a ≡ false → is_name n x ≡ true → not (is_name a x) ≡ true
          not_both n a x o k = case (is_name a x) refl
            where
              case : (b : Bool) → is_name a x ≡ b → not b ≡ true
              case true e = absurd (let bad : true ≡ false = sym (ap (is_name n) (same_name a x e) ∙ k) ∙ o in cc)
              case false e = refl

-- ---- a settling

module _ (name : List ℕ) (reads : Option (List ℕ)) (disk : List ChangedFile) (undo : List UndoneFile) where
  pub settles : InNameOrder undone_name undo → Knows name reads disk undo → Knows name reads (settled disk) (undo_settled undo)
  settles h known = by (changed_file name reads disk).unsynced refl
    where
      by : (b : Bool) → (changed_file name reads disk).unsynced ≡ b → Knows name reads (settled disk) (undo_settled undo)
      by true is =
          let same : changed_file name reads (settled disk) ≡ changed_file name reads disk = settled_stays name reads disk is in
          known_by (changed_file name reads disk) (changed_file name reads (settled disk)) reads reads (undone_at name reads (undo_settled undo))
          (undone_at name reads (undo_settled undo)) (emptied_at name (undo_settled undo)) (emptied_at name (undo_settled undo))
          same refl refl refl (record { reads_so = known.reads_so; undone_so = inl (known.torn_so is); emptied_so = λ e. is; torn_so = known.torn_so })
      by false is =
          let same : changed_file name reads (settled disk) ≡ unchanged name reads = settled_goes name reads disk is in
          let whole : emptied_at name undo ≡ false = unemptied (emptied_at name undo) refl in
          known_by (unchanged name reads) (changed_file name reads (settled disk)) reads reads reads (undone_at name reads (undo_settled undo)) false
          (emptied_at name (undo_settled undo))
          same refl (unemptied_goes (λ (f : UndoneFile). content_of f.undo) reads name undo h whole)
          (unemptied_goes (λ (f : UndoneFile). is_emptied f.undo) false name undo h whole) (known_unchanged name reads)
        where
          unemptied : (e : Bool) → emptied_at name undo ≡ e → emptied_at name undo ≡ false
          unemptied true e = absurd (let bad : true ≡ false = sym (known.emptied_so e) ∙ is in cc)
          unemptied false e = e
