-- In each life of a script the store is sound, and its files are whole.
use Rattle.std.proofs.Common.{List, [], ◌∷◌, Option, Some, None}
use Rattle.net_types.specs.declared.interface.IfSpec.{IfSpec}
use Rattle.world.specs.FileLists.{file_at}
use Rattle.world.specs.StoreCalls.{StoreTold}
use Rattle.world.specs.SoundStores.{IsSound}
use Rattle.world.proofs.SoundStores.{known_unchanged}
use Rattle.world.proofs.SoundLaws.{sound_start}
use Rattle.world_mem.specs.StoreMem.StoreRecord.{put_files}
use Rattle.world_mem.specs.StoreMem.CrashRecord.{files_left}
use Rattle.settings.specs.declared.interfaces.Managed.{Managed}
use Rattle.script_model.specs.Crashes.{CrashScript}
use Rattle.script_model.specs.ScriptTexts.{ScriptLines, LifeScript}
use Rattle.conf_text.specs.Configurations.{Configuration}
use Rattle.turn_model.specs.Foretold.{foretold_life}
use Rattle.daemon.proofs.FileEvidence.StoreRuns.{foretold_whole}
use Rattle.replayed_lives.specs.FilesHeld.{AllStayWhole}
use Rattle.text_works.specs.SpelledScripts.{managed_in}
use Rattle.replayed_lives.specs.Replays.{Failing, Between, failing_in, at_first, pick_of, store_left, world_in, after_life}
use Rattle.replayed_lives.proofs.FilesRightly.{put_in_turn, picked_in_order}

-- a crash leaves a store of which nothing is unsettled
left_sound : (crash : Option CrashScript) (told : StoreTold) → IsSound told → IsSound (store_left crash told)
left_sound None told sound = sound
left_sound (Some crash) told sound = record {
  files_in_order = picked_in_order (pick_of crash.kind) told sound.files_in_order;
  undo_in_order = tt;
  knows = λ name. known_unchanged name (file_at name (files_left (pick_of crash.kind) told));
}

module _ (managed : List Managed) (specs : List IfSpec) (failing : Failing) where
  -- in each life, whatever those before it left
  whole_on : (between : Between) → IsSound between.store → (lives : List LifeScript) → AllStayWhole managed specs failing between lives
  whole_on between sound [] = tt
  whole_on between sound (life ∷ lives) =
      let here = foretold_whole managed specs (world_in failing between life) sound in (
        here,
        whole_on (after_life managed specs failing between life)
            (left_sound life.crash (foretold_life managed specs (world_in failing between life)).left.store.told here.sound) lives,
      )

pub stay_whole_in : (script : ScriptLines) (conf : Configuration)
    → AllStayWhole (managed_in script conf) script.ifaces (failing_in script.fails) (at_first script.rows script.files script.polls) script.lives
stay_whole_in script conf =
    whole_on (managed_in script conf) script.ifaces (failing_in script.fails) (at_first script.rows script.files script.polls)
    (sound_start (put_files [] script.files) (put_in_turn [] script.files tt)) script.lives
