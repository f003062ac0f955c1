-- What the lives of a script show is justified.
use Rattle.std.proofs.Common.{ℕ, List, [], ◌∷◌, length, sym, subst}
use Rattle.std.specs.List.{AllByRecursion}
use Rattle.std.proofs.lemmas.List.Elements.{recursion_from_All}
use Rattle.world.specs.LinkCalls.{Given}
use Rattle.settings.specs.declared.interfaces.Managed.{Managed}
use Rattle.settings.specs.Fitting.{AreManaged}
use Rattle.settings.specs.ManagedRows.{SharesAreManaged}
use Rattle.script_model.specs.Scripts.{FitInterfaces, FitsLife, FitsScript}
use Rattle.script_model.specs.ScriptTexts.{LifeScript, ScriptLines}
use Rattle.conf_text.specs.Configurations.{Configuration}
use Rattle.host_model.specs.HostTable.{InRowOrder}
use Rattle.host_model.proofs.HostTableRows.{in_order_sorted}
use Rattle.device_calls.specs.Worlds.{World}
use Rattle.device_calls.proofs.Running.{run_coming}
use Rattle.turn_model.specs.FilesInLife.{AreNamedApart}
use Rattle.turn_model.specs.Foretold.{ran_opening}
use Rattle.turn_model.specs.Opening.{opening_asks}
use Rattle.life_audit.specs.Evidence.Laws.{AreNumbered, AreSharedWithOthers}
use Rattle.audit_model.specs.Verdicts.{BasisWord, LifeIsJust}
use Rattle.life_audit.specs.Laws.{LinesRestOnEvidence, meets_told}
use Rattle.replayed_lives.specs.Replays.{Between, Failing, after_life, at_first, failing_in, world_in}
use Rattle.replayed_lives.specs.TextWorks.SpelledScripts.{IsScript, configuration_text, managed_in}
use Rattle.replayed_lives.specs.Sound.{BringsBytes}
use Rattle.replayed_lives.proofs.FilesRightly.{apart}
use Rattle.replayed_lives.proofs.HostRightly.{life_octets, shares}
use Rattle.replayed_lives.proofs.LifeLeft.{left_in_order}
use Rattle.replayed_lives.proofs.TextWorks.ManagedApart.{managed_numbered}
use Rattle.replayed_lives.proofs.TextWorks.Refusals.{ifaces_fit, managed_fit, spelled_fits}
use Rattle.replayed_lives.proofs.TextWorks.SharesApart.{shared_with_others}
use Rattle.replay_audit.specs.Laws.{LivesAreJustified}
use Rattle.replay_audit.specs.ScriptsTold.{life_told, lives_told, told_of}

module _ (Rests : BasisWord) (rest : LinesRestOnEvidence Rests meets_told) where
  module _ (bytes : List ℕ) (script : ScriptLines) (conf : Configuration) (is : IsScript bytes script conf) where
    abbrev managed : List Managed
    managed = managed_in script conf

    ifaces : FitInterfaces script.ifaces
    ifaces = ifaces_fit bytes script conf is

    fit : AreManaged managed
    fit = managed_fit bytes script conf is

    led : SharesAreManaged managed
    led = shares (configuration_text script) conf is.configured script.ifaces ifaces

    others : AreSharedWithOthers managed
    others = shared_with_others conf script.ifaces ifaces.counted

    numbered : AreNumbered managed
    numbered = managed_numbered conf script.ifaces ifaces.counted

    named : AreNamedApart managed
    named = apart (configuration_text script) conf is.configured script.ifaces ifaces

    -- in one life
    life_just : (failing : Failing) (between : Between) (life : LifeScript) → FitsLife (length script.ifaces) life → InRowOrder between.host.rows
        → LifeIsJust Rests (told_of script conf) (life_told managed script.ifaces failing between life)
    life_just failing between life fits sorted =
        let world : World = world_in failing between life in
        let coming : List Given = (ran_opening managed script.ifaces world).world.link.told.coming in
        let octets : AllByRecursion BringsBytes coming =
        subst (AllByRecursion BringsBytes) (sym (run_coming (opening_asks managed script.ifaces life.begin) world))
        (life_octets (length script.ifaces) life fits) in
        rest managed script.ifaces world coming fit led others numbered named octets sorted fits.at

    -- in all, whatever those before left
    lives_just : (failing : Failing) (between : Between) → InRowOrder between.host.rows → (lives : List LifeScript)
        → AllByRecursion (FitsLife (length script.ifaces)) lives
        → AllByRecursion (LifeIsJust Rests (told_of script conf)) (lives_told managed script.ifaces failing between lives)
    lives_just failing between sorted [] fits = tt
    lives_just failing between sorted (life ∷ lives) fits = (
      life_just failing between life fits.0 sorted,
      lives_just failing (after_life managed script.ifaces failing between life)
          (left_in_order managed script.ifaces (world_in failing between life) led sorted) lives fits.1,
    )

  pub lives_are_justified : LivesAreJustified Rests
  lives_are_justified bytes script conf is =
      let fits : FitsScript script = spelled_fits bytes script is.spelled in
      lives_just bytes script conf is (failing_in script.fails) (at_first script.rows script.files script.polls) (in_order_sorted script.rows) script.lives
      (recursion_from_All (FitsLife (length script.ifaces)) script.lives fits.lives)
