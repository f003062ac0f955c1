-- What the calls for one file make of the files of a store.
use Rattle.std.proofs.Common.{◌≡◌, ℕ, Bool, true, false, ◌&&◌, List, [], ◌∷◌, ◌++◌, Option, Some, None, refl, sym, ap, ◌∙◌}
use Rattle.std.specs.Prelude.{flat_map}
use Rattle.std.specs.List.{list_all}
use Rattle.std.proofs.lemmas.Bool.{and_parts}
use Rattle.std.proofs.lemmas.List.Folds.{list_all-append}
use Rattle.std.proofs.lemmas.List.Concat.{flat_map-append}
use Rattle.world.specs.FileLists.{StoreFile, file_name, file_at, put_file, drop_file, rename_file}
use Rattle.world.specs.FileNames.{aside_of, is_name}
use Rattle.world.specs.NamedLists.{InNameOrder}
use Rattle.world.proofs.NameOrder.{name_itself, unlike_aside, put_found, put_kept, drop_gone, drop_kept, put_in_order, drop_in_order}
use Rattle.device_calls.specs.Calls.{Call, WriteAside, SyncAside, RenameAside, RemoveFile, Settle, made, store_call}
use Rattle.device_calls.specs.Programs.{Asks, Done, Then}
use Rattle.device_calls.specs.Worlds.{World, Ran, run, asked_first, answer_to, world_with}
use Rattle.turn_model.specs.KeptFiles.{if_done, bringing}
use Rattle.turn_model.specs.FilesInLife.{was_done, all_done}

abbrev pub files_in : World → List StoreFile
files_in world = world.store.told.files

-- ---- calls

pub done_parts : (a b : List Call) → all_done (a ++ b) ≡ true → (all_done a ≡ true) × (all_done b ≡ true)
done_parts a b e =
    and_parts (all_done a) (all_done b)
    (sym (list_all-append was_done (flat_map store_call a) (flat_map store_call b)) ∙ ap (list_all was_done) (sym (flat_map-append store_call a b)) ∙ e)

-- ---- a list of files

module _ (name : List ℕ) where
  abbrev has : StoreFile → Option (List ℕ)
  has file = Some file.bytes

  -- the file of the name, and its aside, alone may have changed
  pub record Changed (before after : List StoreFile) : Type 0 where
    pub order : InNameOrder file_name before → InNameOrder file_name after
    pub others : (n : List ℕ) → is_name n name ≡ false → is_name n (aside_of name) ≡ false → file_at n after ≡ file_at n before

  pub unchanged : (files : List StoreFile) → Changed files files
  unchanged files = record { order = λ o. o; others = λ n file aside. refl }

  pub both : (a b c : List StoreFile) → Changed a b → Changed b c → Changed a c
  both a b c first later = record {
    order = λ o. later.order (first.order o);
    others = λ n file aside. later.others n file aside ∙ first.others n file aside;
  }

  pub put_aside : (bytes : List ℕ) (files : List StoreFile) → Changed files (put_file (record { name = aside_of name; bytes = bytes }) files)
  put_aside bytes files = record {
    order = put_in_order file_name (record { name = aside_of name; bytes = bytes }) files;
    others = λ n file aside. put_kept file_name has None n (record { name = aside_of name; bytes = bytes }) aside files;
  }

  pub dropped : (files : List StoreFile) → Changed files (drop_file name files)
  dropped files = record {
    order = drop_in_order file_name name files;
    others = λ n file aside. drop_kept file_name has None n name file files;
  }

  pub renamed : (found : Option (List ℕ)) (files : List StoreFile) → Changed files (rename_file name found files)
  renamed None files = unchanged files
  renamed (Some bytes) files =
      let put : List StoreFile = put_file (record { name = name; bytes = bytes }) files in
      record {
        order = λ o. drop_in_order file_name (aside_of name) put (put_in_order file_name (record { name = name; bytes = bytes }) files o);
        others = λ n file aside.
            drop_kept file_name has None n (aside_of name) aside put ∙ put_kept file_name has None n (record { name = name; bytes = bytes }) file files;
      }

  pub come : (bytes : List ℕ) (files : List StoreFile) → file_at name (rename_file name (Some bytes) files) ≡ Some bytes
  come bytes files =
      let put : List StoreFile = put_file (record { name = name; bytes = bytes }) files in
      drop_kept file_name has None name (aside_of name) (unlike_aside name) put
      ∙ put_found file_name has None name (record { name = name; bytes = bytes }) (name_itself name) files

  -- ---- what the calls leave, and what they bring where all are done

  -- no other file is changed; the result tells whether all was done, and then the file reads so
  pub record Brings (wanted : Option (List ℕ)) (before : List StoreFile) (ran : Ran Bool) : Type 0 where
    pub changed : Changed before (files_in ran.world)
    pub reads : ran.result ≡ true → file_at name (files_in ran.world) ≡ wanted
    pub told : all_done ran.calls ≡ true → ran.result ≡ true

  -- a call that was done, and what comes then
  then_brings : (wanted : Option (List ℕ)) (before : List StoreFile) (between : World) (call : Call) (ran : Ran Bool)
      → Changed before (files_in between) → Brings wanted (files_in between) ran → Brings wanted before (asked_first call ran)
  then_brings wanted before between call ran first later = record {
    changed = both before (files_in between) (files_in ran.world) first later.changed;
    reads = later.reads;
    told = λ e. later.told (done_parts (call ∷ []) ran.calls e).1;
  }

  abbrev settle : Asks Bool
  settle = Then Settle (λ settled. Done settled)

  settles : (wanted : Option (List ℕ)) (world : World) → file_at name (files_in world) ≡ wanted → Brings wanted (files_in world) (run settle world)
  settles wanted world is = record { changed = unchanged (files_in world); reads = λ e. is; told = by (answer_to Settle world) }
    where
      by : (b : Bool) → (b && true) ≡ true → b ≡ true
      by true e = refl
      by false e = e

  -- ---- a file that is to be gone

  pub removes : (world : World) → InNameOrder file_name (files_in world) → Brings None (files_in world) (run (bringing name None) world)
  removes world order = by (answer_to (RemoveFile name) world)
    where
      by : (done : Bool)
          → Brings None (files_in world) (asked_first (made (RemoveFile name) done) (run (if_done done settle) (world_with (RemoveFile name) done world)))
      by true =
          let after : World = world_with (RemoveFile name) true world in
          then_brings None (files_in world) after (made (RemoveFile name) true) (run settle after) (dropped (files_in world))
          (settles None after (drop_gone file_name has None name (files_in world) order))
      by false = record { changed = unchanged (files_in world); reads = λ e. absurd cc; told = λ e. e }

  -- ---- a file that is to hold bytes

  module _ (bytes : List ℕ) where
    abbrev rename : Asks Bool
    rename = Then (RenameAside name) (λ renamed. if_done renamed settle)

    abbrev sync : Asks Bool
    sync = Then (SyncAside name) (λ synced. if_done synced rename)

    abbrev HasAside : World → Type 0
    HasAside world = file_at (aside_of name) (files_in world) ≡ Some bytes

    renames : (world : World) → HasAside world → Brings (Some bytes) (files_in world) (run rename world)
    renames world here = by (answer_to (RenameAside name) world)
      where
        by : (done : Bool)
            → Brings (Some bytes) (files_in world)
            (asked_first (made (RenameAside name) done) (run (if_done done settle) (world_with (RenameAside name) done world)))
        by true =
            let after : World = world_with (RenameAside name) true world in
            then_brings (Some bytes) (files_in world) after (made (RenameAside name) true) (run settle after)
            (renamed (file_at (aside_of name) (files_in world)) (files_in world))
            (settles (Some bytes) after
            (ap (λ (found : Option (List ℕ)). file_at name (rename_file name found (files_in world))) here ∙ come bytes (files_in world)))
        by false = record { changed = unchanged (files_in world); reads = λ e. absurd cc; told = λ e. e }

    syncs : (world : World) → HasAside world → Brings (Some bytes) (files_in world) (run sync world)
    syncs world here = by (answer_to (SyncAside name) world)
      where
        by : (done : Bool)
            → Brings (Some bytes) (files_in world)
            (asked_first (made (SyncAside name) done) (run (if_done done rename) (world_with (SyncAside name) done world)))
        by true =
            let after : World = world_with (SyncAside name) true world in
            then_brings (Some bytes) (files_in world) after (made (SyncAside name) true) (run rename after) (unchanged (files_in world)) (renames after here)
        by false = record { changed = unchanged (files_in world); reads = λ e. absurd cc; told = λ e. e }

    pub writes : (world : World) → Brings (Some bytes) (files_in world) (run (bringing name (Some bytes)) world)
    writes world = by (answer_to (WriteAside name bytes) world)
      where
        by : (done : Bool)
            → Brings (Some bytes) (files_in world)
            (asked_first (made (WriteAside name bytes) done) (run (if_done done sync) (world_with (WriteAside name bytes) done world)))
        by true =
            let after : World = world_with (WriteAside name bytes) true world in
            then_brings (Some bytes) (files_in world) after (made (WriteAside name bytes) true) (run sync after) (put_aside bytes (files_in world))
            (syncs after
            (put_found file_name has None (aside_of name) (record { name = aside_of name; bytes = bytes }) (name_itself (aside_of name)) (files_in world)))
        by false = record { changed = unchanged (files_in world); reads = λ e. absurd cc; told = λ e. e }

  pub brings : (wanted : Option (List ℕ)) (world : World) → InNameOrder file_name (files_in world)
      → Brings wanted (files_in world) (run (bringing name wanted) world)
  brings (Some bytes) world order = writes bytes world
  brings None world order = removes world order
