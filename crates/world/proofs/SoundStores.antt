-- What a store tells stays sound with each call.
use Rattle.std.proofs.Common.{◌≡◌, ℕ, Bool, true, false, ◌||◌, ◌⊎◌, inl, inr, List, [], ◌∷◌, Option, None, refl, sym, ap, subst, ◌∙◌, cond}
use Rattle.std.specs.Prelude.{filter}
use Rattle.std.specs.List.{AllByRecursion}
use Rattle.std.specs.declared.cmp.Ordering.TheVariants.{Less}
use Rattle.world.specs.FileNames.{is_name, name_cmp}
use Rattle.world.specs.NamedLists.{named, InNameOrder}
use Rattle.world.specs.CrashImages.{ChangedFile, changed_name, changed_file, unchanged, MayBe}
use Rattle.world.specs.DiskChanges.{with_content, settled}
use Rattle.world.specs.Undoing.{UndoneFile, undone_name, content_of, undone_at, is_emptied}
use Rattle.world.specs.SoundStores.{emptied_at, IsKnown}
use Rattle.world.proofs.NameOrder.{same_name, named_there, filter_stays, filter_goes, none_after, kept_after}

-- ---- one file

pub known_by : (file file' : ChangedFile) (reads reads' before before' : Option (List ℕ)) (emptied emptied' : Bool)
    → file' ≡ file → reads' ≡ reads → before' ≡ before → emptied' ≡ emptied → IsKnown file reads before emptied → IsKnown file' reads' before' emptied'
known_by file file' reads reads' before before' emptied emptied' f r b e known = rw (f, r, b, e) known

or_right : (a b : Bool) → b ≡ true → (a || b) ≡ true
or_right true b e = refl
or_right false b e = e

or_left : (a b : Bool) → a ≡ true → (a || b) ≡ true
or_left true b e = refl
or_left false b e = cc

module _ (file : ChangedFile) (content : Option (List ℕ)) (unsynced : Bool) where
  pub may_still : (c : Option (List ℕ)) → MayBe file c → MayBe (with_content content unsynced file) c
  may_still c (inl torn) = inl (or_right unsynced file.torn torn)
  may_still c (inr among) = inr (inr among)

  pub may_now : (c : Option (List ℕ)) → c ≡ content → MayBe (with_content content unsynced file) c
  may_now c is = inr (inl is)

  pub known_content : (reads before : Option (List ℕ)) (emptied : Bool) → MayBe (with_content content unsynced file) reads
      → MayBe (with_content content unsynced file) before
      → (emptied ≡ true → unsynced ≡ true) → IsKnown (with_content content unsynced file) reads before emptied
  known_content reads before emptied r b e = record { reads_so = r; undone_so = b; emptied_so = e; torn_so = λ u. or_left unsynced file.torn u }

pub known_written : (file : ChangedFile) (content reads before : Option (List ℕ)) (emptied : Bool)
    → IsKnown (with_content content true file) reads before emptied
known_written file content reads before emptied = record { reads_so = inl refl; undone_so = inl refl; emptied_so = λ e. refl; torn_so = λ u. refl }

pub known_unchanged : (name : List ℕ) (reads : Option (List ℕ)) → IsKnown (unchanged name reads) reads reads false
known_unchanged name reads = record { reads_so = inr (inl refl); undone_so = inr (inl refl); emptied_so = λ e. e; torn_so = λ u. u }

pub changed_is_named : (name : List ℕ) (reads : Option (List ℕ)) (disk : List ChangedFile) → (changed_file name reads disk).name ≡ name
changed_is_named name reads [] = refl
changed_is_named name reads (x ∷ xs) = by (is_name name x.name) refl (changed_is_named name reads xs)
  where
    by : (b : Bool) → is_name name x.name ≡ b → (changed_file name reads xs).name ≡ name → (cond b x (changed_file name reads xs)).name ≡ name
    by true e h = sym (same_name name x.name e)
    by false e h = h

-- what undoing gives is what it gave, or what the file reads as
pub undone_or : (name : List ℕ) (reads now : Option (List ℕ)) (undo : List UndoneFile)
    → (undone_at name now undo ≡ undone_at name reads undo) ⊎ (undone_at name now undo ≡ now)
undone_or name reads now [] = inr refl
undone_or name reads now (x ∷ xs) = by (is_name name x.name) (undone_or name reads now xs)
  where
    by : (b : Bool) → (undone_at name now xs ≡ undone_at name reads xs) ⊎ (undone_at name now xs ≡ now)
        → (cond b (content_of x.undo) (undone_at name now xs) ≡ cond b (content_of x.undo) (undone_at name reads xs))
        ⊎ (cond b (content_of x.undo) (undone_at name now xs) ≡ now)
    by true h = inl refl
    by false h = h

-- ---- a settling

pub unsynced_same : (name : List ℕ) (reads now : Option (List ℕ)) (disk : List ChangedFile)
    → (changed_file name now disk).unsynced ≡ (changed_file name reads disk).unsynced
unsynced_same name reads now [] = refl
unsynced_same name reads now (x ∷ xs) = by (is_name name x.name) (unsynced_same name reads now xs)
  where
    by : (b : Bool) → (changed_file name now xs).unsynced ≡ (changed_file name reads xs).unsynced
        → (cond b x (changed_file name now xs)).unsynced ≡ (cond b x (changed_file name reads xs)).unsynced
    by true h = refl
    by false h = h

module _ (name : List ℕ) (reads : Option (List ℕ)) (disk : List ChangedFile) where
  of_name : (v : Bool) → (changed_file name reads disk).unsynced ≡ v → (x : ChangedFile) → is_name name (changed_name x) ≡ true
      → (changed_file x.name None disk).unsynced ≡ v
  of_name v is x here = ap (λ (n : List ℕ). (changed_file n None disk).unsynced) (sym (same_name name x.name here)) ∙ unsynced_same name reads None disk ∙ is

  pub settled_stays : (changed_file name reads disk).unsynced ≡ true → changed_file name reads (settled disk) ≡ changed_file name reads disk
  settled_stays is =
      filter_stays changed_name (λ file. file) (unchanged name reads) name (λ file. (changed_file file.name None disk).unsynced) (of_name true is) disk

  -- once settled a file that was synced is as it reads
  pub settled_goes : (changed_file name reads disk).unsynced ≡ false → changed_file name reads (settled disk) ≡ unchanged name reads
  settled_goes is =
      filter_goes changed_name (λ file. file) (unchanged name reads) name (λ file. (changed_file file.name None disk).unsynced) (of_name false is) disk

module _ {B : Type 0} (has : UndoneFile → B) (none : B) (name : List ℕ) where
  abbrev kept : List UndoneFile → List UndoneFile
  kept undo = filter (λ file. is_emptied file.undo) undo

  pub unemptied_goes : (undo : List UndoneFile) → InNameOrder undone_name undo → emptied_at name undo ≡ false
      → named undone_name has none name (kept undo) ≡ none
  unemptied_goes [] h e = refl
  unemptied_goes (x ∷ xs) h e = by (is_name name x.name) (is_emptied x.undo) refl refl (unemptied_goes xs h.1) e
    where
      by : (here empties : Bool) → is_name name x.name ≡ here → is_emptied x.undo ≡ empties
          → (emptied_at name xs ≡ false → named undone_name has none name (kept xs) ≡ none)
          → cond here empties (emptied_at name xs) ≡ false → named undone_name has none name (cond empties (x ∷ kept xs) (kept xs)) ≡ none
      by true true here is rest bad = cc
      by true false here is rest bad =
          let same : x.name ≡ name = sym (same_name name x.name here) in
          none_after undone_name has none name (kept xs)
          (kept_after undone_name (λ file. is_emptied file.undo) name xs
          (subst (λ (n : List ℕ). AllByRecursion (λ (y : UndoneFile). name_cmp n y.name ≡ Less) xs) same h.0))
      by false true here is rest left = named_there undone_name has none name x (kept xs) here ∙ rest left
      by false false here is rest left = rest left
