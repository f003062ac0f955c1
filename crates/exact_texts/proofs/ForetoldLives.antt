-- The life that devices foretell is a life, and where what they bring is bytes so is what it hears.
use Rattle.std.proofs.Common.{ℕ, Bool, true, false, cond, List, [], ◌∷◌, refl, sym, subst, Ok}
use Rattle.std.specs.Prelude.{◌||◌}
use Rattle.std.specs.List.{AllByRecursion}
use Rattle.net_types.proofs.Checksum.{take_bytes}
use Rattle.net_types.specs.Marks.{AreBytes}
use Rattle.net_types.specs.declared.interface.IfSpec.{IfSpec}
use Rattle.world.specs.LinkCalls.{Given, frame_len}
use Rattle.settings.specs.declared.interfaces.Managed.{Managed}
use Rattle.conf_text.specs.Configurations.{Configuration, IsConfOf}
use Rattle.conf_text.specs.Fits.{FitsSpec}
use Rattle.conf_text.specs.Settings.{managed_of}
use Rattle.device_calls.proofs.Running.{run_coming, run_makes}
use Rattle.device_calls.specs.Worlds.{Ran, World}
use Rattle.turn_model.specs.Foretold.{foretold_life, met_of, ran_opening, ran_turn, told_turns, told_wake}
use Rattle.turn_model.specs.Opening.{opening_asks}
use Rattle.turn_model.specs.Turns.{Life, is_end, is_over}
use Rattle.file_evidence.proofs.StoreRuns.{told_are_turns}
use Rattle.safe_texts.specs.ConfiguredTexts.{IsConfiguredLife}
use Rattle.safe_texts.specs.ResolverLines.{AreOctets}
use Rattle.exact_texts.proofs.ExactLives.{configured_jobs_are_exact}
use Rattle.exact_texts.specs.ExactJobs.{ForetoldJobsAreExact}

abbrev pub BringsBytes : Given → Type 0
BringsBytes given = AreBytes given.bytes

-- a frame that is cut to the room for it is bytes too
pub told_octets : (managed : List Managed) (coming : List Given) (life : Life) (world : World) → AllByRecursion BringsBytes coming
    → AreOctets (told_turns managed life world coming)
told_octets managed [] life world octets = tt
told_octets managed (given ∷ coming) life world octets =
    by (is_over life || is_end given.wake.event)
    (take_bytes (frame_len (told_wake given).event) given.bytes octets.0, told_octets managed coming ran.result ran.world octets.1)
  where
    ran : Ran Life
    ran = ran_turn managed life world given

    by : (b : Bool) → AreOctets (met_of given ran ∷ told_turns managed ran.result ran.world coming)
        → AreOctets (cond b [] (met_of given ran ∷ told_turns managed ran.result ran.world coming))
    by true rest = tt
    by false rest = rest

module _ (text : List ℕ) (conf : Configuration) (is : IsConfOf text (Ok conf)) (specs : List IfSpec) (each : AllByRecursion FitsSpec specs) (world : World)
    (octets : AllByRecursion BringsBytes world.link.told.coming) where
  abbrev managed : List Managed
  managed = managed_of conf specs

  abbrev begun : Ran Life
  begun = ran_opening managed specs world

  configured : IsConfiguredLife text managed specs (foretold_life managed specs world).opening (foretold_life managed specs world).mets
  configured = record {
    conf = conf;
    reads = is;
    each = each;
    manages = refl;
    opens = run_makes (opening_asks managed specs world.link.told.begin) world;
    turns = told_are_turns managed begun.world.link.told.coming begun.result begun.world;
  }

  heard : AreOctets (foretold_life managed specs world).mets
  heard =
      told_octets managed begun.world.link.told.coming begun.result begun.world
      (subst (AllByRecursion BringsBytes) (sym (run_coming (opening_asks managed specs world.link.told.begin) world)) octets)

pub foretold_jobs_are_exact : ForetoldJobsAreExact
foretold_jobs_are_exact text conf specs world is each octets =
    configured_jobs_are_exact text (managed_of conf specs) specs (foretold_life (managed_of conf specs) specs world).opening
    (foretold_life (managed_of conf specs) specs world).mets (configured text conf is specs each world octets)
    (heard text conf is specs each world octets)
