-- In each life hooks and the resolver are told texts that are safe to read, and variables that are what their names say.
use Rattle.std.proofs.Common.{ℕ, List, [], ◌∷◌, length, refl, sym, subst, Ok}
use Rattle.std.specs.List.{AllByRecursion}
use Rattle.std.proofs.lemmas.List.Elements.{recursion_from_All}
use Rattle.net_types.specs.declared.interface.IfSpec.{IfSpec}
use Rattle.settings.specs.declared.interfaces.Managed.{Managed}
use Rattle.script_model.specs.ScriptTexts.{ScriptLines, LifeScript}
use Rattle.script_model.specs.Scripts.{FitInterfaces, FitsScript, FitsLife}
use Rattle.device_calls.specs.Worlds.{World, Ran}
use Rattle.device_calls.proofs.Running.{run_coming, run_makes}
use Rattle.turn_model.specs.Foretold.{foretold_life, ran_opening}
use Rattle.turn_model.specs.Opening.{opening_asks}
use Rattle.turn_model.specs.Turns.{Life}
use Rattle.conf_text.specs.Configurations.{Configuration, IsConfOf}
use Rattle.conf_text.specs.Settings.{managed_of}
use Rattle.daemon.proofs.FileEvidence.StoreRuns.{told_are_turns}
use Rattle.daemon.specs.SafeTexts.ConfiguredTexts.{IsConfiguredLife}
use Rattle.daemon.specs.SafeTexts.ResolverLines.{AreOctets, IsLife}
use Rattle.daemon.proofs.SafeTexts.ConfiguredLives.{configured_lives_are_lives, variables_are_printable}
use Rattle.daemon.proofs.SafeTexts.LifeJobs.{life_jobs_are_safe}
use Rattle.daemon.proofs.SafeTexts.LifeLines.{written_lines_are_safe}
use Rattle.daemon.proofs.ExactTexts.ExactLives.{configured_jobs_are_exact}
use Rattle.daemon.proofs.ExactTexts.ForetoldLives.{told_octets}
use Rattle.text_works.specs.SpelledScripts.{IsScript, configuration_text, managed_in}
use Rattle.replayed_lives.specs.Replays.{failing_in, at_first, Failing, Between, world_in, after_life}
use Rattle.replayed_lives.specs.Sound.{BringsBytes}
use Rattle.replayed_lives.specs.ToldSafely.{TellsSafely, AllTellSafely}
use Rattle.replayed_lives.proofs.HostRightly.{life_octets}
use Rattle.text_works.proofs.Refusals.{each_fits, spelled_fits, ifaces_fit}

module _ (text : List ℕ) (conf : Configuration) (is : IsConfOf text (Ok conf)) (specs : List IfSpec) (fits : FitInterfaces specs) where
  abbrev managed : List Managed
  managed = managed_of conf specs

  module _ (world : World) (octets : AllByRecursion BringsBytes world.link.told.coming) where
    abbrev begun : Ran Life
    begun = ran_opening managed specs world

    configured : IsConfiguredLife text managed specs (foretold_life managed specs world).opening (foretold_life managed specs world).mets
    configured = record {
      conf = conf;
      reads = is;
      each = each_fits specs fits;
      manages = refl;
      opens = run_makes (opening_asks managed specs world.link.told.begin) world;
      turns = told_are_turns managed begun.world.link.told.coming begun.result begun.world;
    }

    heard : AreOctets (foretold_life managed specs world).mets
    heard = told_octets managed begun.world.link.told.coming begun.result begun.world
        (subst (AllByRecursion BringsBytes) (sym (run_coming (opening_asks managed specs world.link.told.begin) world)) octets)

    lived : IsLife managed specs (foretold_life managed specs world).opening (foretold_life managed specs world).mets
    lived = configured_lives_are_lives text managed specs (foretold_life managed specs world).opening (foretold_life managed specs world).mets configured heard

    pub life_tells : TellsSafely managed specs world
    life_tells = record {
      jobs =
          life_jobs_are_safe managed specs (foretold_life managed specs world).opening
          (foretold_life managed specs world).mets lived.fit lived.opens lived.turns;
      exact =
          configured_jobs_are_exact text managed specs (foretold_life managed specs world).opening (foretold_life managed specs world).mets configured
          heard;
      variables = variables_are_printable text managed specs (foretold_life managed specs world).opening (foretold_life managed specs world).mets configured;
      resolver = written_lines_are_safe managed specs (foretold_life managed specs world).opening (foretold_life managed specs world).mets lived;
    }

-- ---- the lives of a script

module _ (bytes : List ℕ) (script : ScriptLines) (conf : Configuration) (is : IsScript bytes script conf) where
  -- in each life, whatever those before it left
  tell_on : (failing : Failing) (between : Between) (lives : List LifeScript) → AllByRecursion (FitsLife (length script.ifaces)) lives
      → AllTellSafely (managed_in script conf) script.ifaces failing between lives
  tell_on failing between [] fits = tt
  tell_on failing between (life ∷ lives) fits = (
    life_tells (configuration_text script) conf is.configured script.ifaces (ifaces_fit bytes script conf is) (world_in failing between life)
        (life_octets (length script.ifaces) life fits.0),
    tell_on failing (after_life (managed_in script conf) script.ifaces failing between life) lives fits.1,
  )

  pub tells_safely : AllTellSafely (managed_in script conf) script.ifaces (failing_in script.fails)
      (at_first script.rows script.files script.polls) script.lives
  tells_safely =
      let fits : FitsScript script = spelled_fits bytes script is.spelled in
      tell_on (failing_in script.fails) (at_first script.rows script.files script.polls) script.lives
      (recursion_from_All (FitsLife (length script.ifaces)) script.lives fits.lives)
