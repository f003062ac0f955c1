-- The store holds what it shall, in one life and in those of a script.
use Rattle.std.proofs.Common.{ℕ, Ok, List, [], ◌∷◌, Option, Some, None}
use Rattle.world.specs.FileLists.{StoreFile, file_name, put_file}
use Rattle.world.specs.NamedLists.{InNameOrder}
use Rattle.world.specs.StoreCalls.{StoreTold}
use Rattle.world.specs.Undoing.{UndoneFile, content_of, set_file, undone}
use Rattle.world.proofs.NameOrder.{put_in_order, drop_in_order}
use Rattle.world_mem.specs.StoreMem.StoreRecord.{put_files}
use Rattle.world_mem.specs.StoreMem.CrashRecord.{files_left}
use Rattle.world_mem.specs.StoreMem.declared.crashes.Pick.{Pick}
use Rattle.world_mem.specs.StoreMem.declared.crashes.Pick.TheVariants.{Old, New}
use Rattle.settings.specs.declared.interfaces.Managed.{Managed}
use Rattle.script_model.specs.Crashes.{CrashScript}
use Rattle.script_model.specs.ScriptTexts.{ScriptLines, LifeScript}
use Rattle.conf_text.specs.Configurations.{Configuration, IsConfOf}
use Rattle.conf_text.specs.Settings.{managed_of}
use Rattle.device_calls.specs.Worlds.{World}
use Rattle.script_model.specs.Scripts.{FitInterfaces}
use Rattle.net_types.specs.declared.interface.IfSpec.{IfSpec}
use Rattle.turn_model.specs.FilesInLife.{AreNamedApart}
use Rattle.turn_model.specs.Foretold.{foretold_life}
use Rattle.turn_model.proofs.FilesInLifeTurns.{opening_files, turn_files}
use Rattle.turn_model.proofs.FilesInOrder.{files_left_in_order}
use Rattle.turn_model.proofs.UnlikeNames.{named_apart}
use Rattle.replayed_lives.specs.FilesHeld.{KeepsRightly, AllKeepRightly}
use Rattle.text_works.specs.SpelledScripts.{IsScript, configuration_text, managed_in}
use Rattle.replayed_lives.specs.Replays.{Failing, Between, failing_in, at_first, pick_of, store_left, world_in, after_life}
use Rattle.text_works.proofs.ManagedApart.{managed_unlike}
use Rattle.text_works.proofs.Refusals.{in_force, ifaces_fit}

-- ---- the files of a store stand in order

abbrev InOrder : List StoreFile → Type 0
InOrder files = InNameOrder file_name files

pub put_in_turn : (sorted files : List StoreFile) → InOrder sorted → InOrder (put_files sorted files)
put_in_turn sorted [] order = order
put_in_turn sorted (file ∷ files) order = put_in_turn (put_file file sorted) files (put_in_order file_name file sorted order)

set_in_order : (name : List ℕ) (content : Option (List ℕ)) (files : List StoreFile) → InOrder files → InOrder (set_file name content files)
set_in_order name None files order = drop_in_order file_name name files order
set_in_order name (Some bytes) files order = put_in_order file_name (record { name = name; bytes = bytes }) files order

undone_in_order : (undo : List UndoneFile) (files : List StoreFile) → InOrder files → InOrder (undone undo files)
undone_in_order [] files order = order
undone_in_order (u ∷ undo) files order = set_in_order u.name (content_of u.undo) (undone undo files) (undone_in_order undo files order)

pub picked_in_order : (pick : Pick) (told : StoreTold) → InOrder told.files → InOrder (files_left pick told)
picked_in_order Old told order = undone_in_order told.undo told.files order
picked_in_order New told order = order

crashed_in_order : (crash : Option CrashScript) (told : StoreTold) → InOrder told.files → InOrder (store_left crash told).files
crashed_in_order None told order = order
crashed_in_order (Some crash) told order = picked_in_order (pick_of crash.kind) told order

-- ---- a life with a configuration over these interfaces

module _ (text : List ℕ) (conf : Configuration) (is : IsConfOf text (Ok conf)) (specs : List IfSpec) (fits : FitInterfaces specs) where
  abbrev managed : List Managed
  managed = managed_of conf specs

  -- the managed interfaces are some of these, whose names are unlike
  pub apart : AreNamedApart managed
  apart = let all = in_force text conf is specs fits in named_apart managed all.fit (managed_unlike conf specs fits.unlike)

  pub life_keeps : (world : World) → InOrder world.store.told.files → KeepsRightly managed specs world
  life_keeps world order = record {
    opening_keeps = opening_files managed apart specs world order;
    turns_keep = λ earlier given. turn_files managed apart specs world order earlier given;
  }

-- ---- the lives of a script

module _ (bytes : List ℕ) (script : ScriptLines) (conf : Configuration) (is : IsScript bytes script conf) where
  abbrev in_script : List Managed
  in_script = managed_in script conf

  -- in each life, whatever those before it left
  keeps_on : (failing : Failing) (between : Between) → InOrder between.store.files → (lives : List LifeScript)
      → AllKeepRightly in_script script.ifaces failing between lives
  keeps_on failing between order [] = tt
  keeps_on failing between order (life ∷ lives) = (
    life_keeps (configuration_text script) conf is.configured script.ifaces (ifaces_fit bytes script conf is) (world_in failing between life) order,
    keeps_on failing (after_life in_script script.ifaces failing between life)
        (crashed_in_order life.crash (foretold_life in_script script.ifaces (world_in failing between life)).left.store.told
        (files_left_in_order in_script script.ifaces (world_in failing between life) order)) lives,
  )

  pub keeps_rightly : AllKeepRightly in_script script.ifaces (failing_in script.fails) (at_first script.rows script.files script.polls) script.lives
  keeps_rightly = keeps_on (failing_in script.fails) (at_first script.rows script.files script.polls) (put_in_turn [] script.files tt) script.lives
