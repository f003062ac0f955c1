-- The devices of a script stay within the bounds of a transcript's lines, from life to life.
use Rattle.std.proofs.Common.{ℕ, ◌≤◌, Bool, true, false, List, [], ◌∷◌, Option, Some, None, arith}
use Rattle.std.specs.List.{AllByRecursion}
use Rattle.std.proofs.Math.Pow.{pow_mono}
use Rattle.std.proofs.lemmas.List.Elements.{recursion_from_All}
use Rattle.net_types.proofs.AllLaws.{all_both, all_map}
use Rattle.world.specs.declared.hooking.Poll.{Poll}
use Rattle.world.specs.declared.hooking.Poll.TheVariants.{Running, Ended}
use Rattle.world.specs.declared.wakes.Event.{Event}
use Rattle.world.specs.declared.wakes.Event.TheVariants.{Frame, Carrier, Duplicate, Release, Rebind, Stop, Quiet, End}
use Rattle.world.specs.FileLists.{StoreFile, put_file}
use Rattle.world.specs.HookCalls.{HooksTold, abandoned}
use Rattle.world.specs.LinkCalls.{Given}
use Rattle.world.specs.Rows.{IsRow}
use Rattle.world.specs.StoreCalls.{StoreTold}
use Rattle.world_mem.specs.StoreMem.CrashRecord.{after_crash}
use Rattle.world_mem.specs.StoreMem.StoreRecord.{put_files}
use Rattle.world_mem.specs.StoreMem.declared.crashes.Pick.{Pick}
use Rattle.world_mem.specs.StoreMem.declared.crashes.Pick.TheVariants.{Old, New}
use Rattle.script_model.specs.Crashes.{CrashScript}
use Rattle.script_model.specs.FirstFiles.{FitsFile}
use Rattle.script_model.specs.HookAnswers.{FitsAnswer}
use Rattle.script_model.specs.Scripts.{FitsEvent, FitsGiven, FitsLife, FitsScript}
use Rattle.script_model.specs.ScriptTexts.{LifeScript, ScriptLines}
use Rattle.host_model.proofs.HostTableRows.{in_order_sorted}
use Rattle.transcript_text.specs.Fits.{FitsPoll}
use Rattle.told_lives.specs.FittingWorlds.{AreFitting, FitsComing, FitsHooks, FitsInput, FitsStore, FitsWorld}
use Rattle.told_lives.proofs.FittingLists.{AreStored, order_fits, put_stored, undone_stored}
use Rattle.replayed_lives.specs.Memory.{first_hooks, first_host, first_store}
use Rattle.replayed_lives.specs.Replays.{Between, Failing, pick_of, store_left, world_in}
use Rattle.replayed_lives.specs.Sound.{BringsBytes}
use Rattle.replayed_lives.proofs.HostRightly.{life_octets}

-- ---- before the first life

files_fit : (sorted files : List StoreFile) → AreStored sorted → AllByRecursion FitsFile files → AreStored (put_files sorted files)
files_fit sorted [] stored fit = stored
files_fit sorted (file ∷ files) stored fit =
    files_fit (put_file file sorted) files
    (put_stored file.name file.bytes sorted (record { bytes = fit.0.name; some = fit.0.some }) fit.0.octets stored) fit.1

poll_fits : (answer : Option Poll) → FitsAnswer answer → FitsPoll answer
poll_fits (Some Running) fits = tt
poll_fits (Some (Ended status)) fits = omega (arith, fits)
poll_fits None fits = tt

pub first_fit : (script : ScriptLines) → FitsScript script
    → AreFitting (first_host script.rows) (first_store script.files) (first_hooks script.polls)
first_fit script fits = record {
  host = record { rows = order_fits [] script.rows tt (recursion_from_All IsRow script.rows fits.rows); order = in_order_sorted script.rows };
  store = record { files = files_fit [] script.files tt (recursion_from_All FitsFile script.files fits.files); undo = tt };
  hooks = record { polls = all_map FitsAnswer FitsPoll poll_fits script.polls (recursion_from_All FitsAnswer script.polls fits.polls) };
}

-- ---- between two lives

picked_fits : (pick : Pick) (told : StoreTold) → FitsStore told → FitsStore (after_crash pick told)
picked_fits Old told fits = record { files = undone_stored told.undo told.files fits.undo fits.files; undo = tt }
picked_fits New told fits = record { files = fits.files; undo = tt }

pub store_left_fits : (crash : Option CrashScript) (told : StoreTold) → FitsStore told → FitsStore (store_left crash told)
store_left_fits None told fits = fits
store_left_fits (Some crash) told fits = picked_fits (pick_of crash.kind) told fits

pub hooks_left_fit : (running : Bool) (told : HooksTold) → FitsHooks told → FitsHooks (abandoned running told)
hooks_left_fit true told fits = record { polls = fits.polls }
hooks_left_fit false told fits = fits

-- ---- in a life

module _ (count : ℕ) (few : count ≤ 64) where
  input_fits : (event : Event) → FitsEvent count event → FitsInput event
  input_fits (Frame iface len) fits = let within = fits.1 in omega (arith, few, within)
  input_fits (Carrier iface up) fits = let within = fits.1 in omega (arith, few, within)
  input_fits (Duplicate iface addr) fits = let within = fits.0.1 in (omega (arith, few, within), fits.1)
  input_fits (Release iface) fits = let within = fits.1 in omega (arith, few, within)
  input_fits (Rebind iface) fits = let within = fits.1 in omega (arith, few, within)
  input_fits Stop fits = tt
  input_fits Quiet fits = tt
  input_fits End fits = tt

  coming_fits : (given : Given) → FitsGiven count given → BringsBytes given → FitsComing given
  coming_fits given fits octets = record { salt = fits.salt; event = input_fits given.wake.event fits.event; octets = octets }

  pub world_fits : (failing : Failing) (between : Between) (life : LifeScript) → FitsLife count life
      → AreFitting between.host between.store between.hooks → FitsWorld (world_in failing between life)
  world_fits failing between life fits others =
      let up = fits.up in
      let most = pow_mono {i = count} {j = 64} few in
      record {
        link = record {
          begin = record { at = fits.at; salt = fits.salt; up = omega (arith, up, most) };
          coming =
              all_both (FitsGiven count) BringsBytes FitsComing coming_fits life.turns
              (recursion_from_All (FitsGiven count) life.turns fits.turns) (life_octets count life fits);
        };
        others = others;
      }
