-- A renaming leaves what a store tells sound.
use Rattle.std.proofs.Common.{◌≡◌, ℕ, Bool, true, false, not, ◌||◌, ◌&&◌, ◌⊎◌, List, ◌∷◌, Option, Some, None, refl, sym, ap, subst, ◌∙◌}
use Rattle.world.specs.FileNames.{aside_of, is_name}
use Rattle.world.specs.CrashImages.{ChangedFile, changed_file}
use Rattle.world.specs.DiskChanges.{with_content, renamed}
use Rattle.world.specs.Undoing.{Restores, UndoneFile, undone_at, restoring}
use Rattle.world.specs.SoundStores.{emptied_at, IsKnown}
use Rattle.world.proofs.NameOrder.{name_itself, same_name, aside_unlike, unlike_aside}
use Rattle.world.proofs.SoundStores.{known_by, changed_is_named}
use Rattle.world.proofs.SoundCalls.{Knows, changed_there, changed_here, undo_kept, undo_found, emptied_kept, emptied_found, stays, knows_more, knows_restored}
use Rattle.world.proofs.SoundSteps.{if_failed, kept_if_failed}

module _ (name bytes : List ℕ) (done : Bool) (old : Option (List ℕ)) (disk : List ChangedFile) (undo undo' : List UndoneFile) where
  abbrev aside : List ℕ
  aside = aside_of name

  abbrev file : ChangedFile
  file = changed_file name old disk

  abbrev aside_file : ChangedFile
  aside_file = changed_file aside (Some bytes) disk

  abbrev gone : ChangedFile
  gone = with_content None (not done && aside_file.unsynced) aside_file

  abbrev come : ChangedFile
  come = with_content (Some bytes) (aside_file.unsynced || (not done && file.unsynced)) file

  abbrev disk_to : List ChangedFile
  disk_to = renamed name done old (Some bytes) disk

  abbrev both : List UndoneFile
  both = restoring aside (Some bytes) (restoring name old undo)

  abbrev pub RestoresBoth : Bool → Type 0
  RestoresBoth true = undo' ≡ both
  RestoresBoth false = undo' ≡ undo

  gone_named : (n : List ℕ) (b : Bool) → is_name n aside ≡ b → is_name n gone.name ≡ b
  gone_named n b e = ap (is_name n) (changed_is_named aside (Some bytes) disk) ∙ e

  come_named : (n : List ℕ) (b : Bool) → is_name n name ≡ b → is_name n come.name ≡ b
  come_named n b e = ap (is_name n) (changed_is_named name old disk) ∙ e

  -- the aside
  module _ (now : Option (List ℕ)) (r : (now ≡ Some bytes) ⊎ (now ≡ None)) (known : Knows aside (Some bytes) disk undo) where
    aside_known : (d : Bool) → done ≡ d → RestoresBoth d → IsKnown gone now (undone_at aside now undo') (emptied_at aside undo')
    aside_known true d is =
        knows_restored aside (Some bytes) now None (not done && aside_file.unsynced) disk undo undo'
        (ap (undone_at aside now) is
        ∙ undo_found aside now aside (Restores (undone_at aside (Some bytes) (restoring name old undo))) (restoring name old undo) (name_itself aside)
        ∙ undo_kept aside (Some bytes) name (Restores (undone_at name old undo)) undo (aside_unlike name))
        (ap (emptied_at aside) is
        ∙ emptied_found aside aside (Restores (undone_at aside (Some bytes) (restoring name old undo))) (restoring name old undo) (name_itself aside))
        r known
    aside_known false d is =
        subst (λ (v : List UndoneFile). IsKnown gone now (undone_at aside now v) (emptied_at aside v)) (sym is)
        (knows_more aside (Some bytes) now None (not done && aside_file.unsynced) disk undo r (λ k. kept_if_failed done aside_file.unsynced d k) known)

  -- the file
  module _ (now : Option (List ℕ)) (r : (now ≡ old) ⊎ (now ≡ Some bytes)) (known : Knows name old disk undo) where
    file_known : (d : Bool) → done ≡ d → RestoresBoth d → IsKnown come now (undone_at name now undo') (emptied_at name undo')
    file_known true d is =
        knows_restored name old now (Some bytes) (aside_file.unsynced || (not done && file.unsynced)) disk undo undo'
        (ap (undone_at name now) is
        ∙ undo_kept name now aside (Restores (undone_at aside (Some bytes) (restoring name old undo))) (restoring name old undo) (unlike_aside name)
        ∙ undo_found name now name (Restores (undone_at name old undo)) undo (name_itself name))
        (ap (emptied_at name) is
        ∙ emptied_kept name aside (Restores (undone_at aside (Some bytes) (restoring name old undo))) (restoring name old undo) (unlike_aside name)
        ∙ emptied_found name name (Restores (undone_at name old undo)) undo (name_itself name)) r known
    file_known false d is =
        subst (λ (v : List UndoneFile). IsKnown come now (undone_at name now v) (emptied_at name v)) (sym is)
        (knows_more name old now (Some bytes) (aside_file.unsynced || (not done && file.unsynced)) disk undo r
        (λ k. if_failed done aside_file.unsynced file.unsynced d k) known)

  others : (n : List ℕ) (now : Option (List ℕ)) → is_name n aside ≡ false → is_name n name ≡ false → (d : Bool) → RestoresBoth d
      → (undone_at n now undo' ≡ undone_at n now undo) × (emptied_at n undo' ≡ emptied_at n undo)
  others n now a m true is = (
    ap (undone_at n now) is ∙ undo_kept n now aside (Restores (undone_at aside (Some bytes) (restoring name old undo))) (restoring name old undo) a
        ∙ undo_kept n now name (Restores (undone_at name old undo)) undo m,
    ap (emptied_at n) is ∙ emptied_kept n aside (Restores (undone_at aside (Some bytes) (restoring name old undo))) (restoring name old undo) a
        ∙ emptied_kept n name (Restores (undone_at name old undo)) undo m,
  )
  others n now a m false is = (ap (undone_at n now) is, ap (emptied_at n) is)

  module _ (restores : (d : Bool) → done ≡ d → RestoresBoth d) (n : List ℕ) (reads now : Option (List ℕ)) (known : Knows n reads disk undo) where
    pub renames : (is_name n aside ≡ true → (reads ≡ Some bytes) × ((now ≡ Some bytes) ⊎ (now ≡ None)))
        → (is_name n aside ≡ false → is_name n name ≡ true → (reads ≡ old) × ((now ≡ old) ⊎ (now ≡ Some bytes)))
        → (is_name n aside ≡ false → is_name n name ≡ false → now ≡ reads) → Knows n now disk_to undo'
    renames of_aside of_file of_other = by (is_name n aside) (is_name n name) refl refl
      where
        by : (a m : Bool) → is_name n aside ≡ a → is_name n name ≡ m → Knows n now disk_to undo'
        by true m a e =
            let same : n ≡ aside = same_name n aside a in
            let r = of_aside a in
            let here : Knows aside (Some bytes) disk undo =
            subst (λ (k : List ℕ). Knows k (Some bytes) disk undo) same (subst (λ (o : Option (List ℕ)). Knows n o disk undo) r.0 known) in
            known_by gone (changed_file n now disk_to) now now (undone_at aside now undo') (undone_at n now undo') (emptied_at aside undo') (emptied_at n undo')
            (changed_here n now gone (come ∷ disk) (gone_named n true a)) refl (ap (λ (k : List ℕ). undone_at k now undo') same)
            (ap (λ (k : List ℕ). emptied_at k undo') same)
            (aside_known now r.1 here done refl (restores done refl))
        by false true a e =
            let same : n ≡ name = same_name n name e in
            let r = of_file a e in
            let here : Knows name old disk undo =
            subst (λ (k : List ℕ). Knows k old disk undo) same (subst (λ (o : Option (List ℕ)). Knows n o disk undo) r.0 known) in
            known_by come (changed_file n now disk_to) now now (undone_at name now undo') (undone_at n now undo') (emptied_at name undo') (emptied_at n undo')
            (changed_there n now gone (come ∷ disk) (gone_named n false a) ∙ changed_here n now come disk (come_named n true e)) refl
            (ap (λ (k : List ℕ). undone_at k now undo') same) (ap (λ (k : List ℕ). emptied_at k undo') same)
            (file_known now r.1 here done refl (restores done refl))
        by false false a e =
            let un = others n now a e done (restores done refl) in
            stays n reads now disk disk_to undo undo' (of_other a e)
            (changed_there n now gone (come ∷ disk) (gone_named n false a) ∙ changed_there n now come disk (come_named n false e)) un.0 un.1 known
