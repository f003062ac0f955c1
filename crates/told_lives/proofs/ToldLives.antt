-- The lives of interfaces that a configuration manages are well told.
use Rattle.settings.specs.Fitting.{AreManaged}
use Rattle.std.proofs.Common.{List}
use Rattle.std.specs.List.{AllByRecursion}
use Rattle.settings.specs.declared.interfaces.Managed.{Managed}
use Rattle.conf_text.specs.Settings.{managed_of}
use Rattle.conf_laws.proofs.ConfFits.{settings_fit}
use Rattle.safe_texts.specs.ConfiguredTexts.{IsPlainlyConfigured}
use Rattle.safe_texts.proofs.PlainConfigurations.{configured_texts_are_safe}
use Rattle.told_lives.specs.Laws.{LivesAreWellTold}
use Rattle.told_lives.proofs.ClientJobs.{Holds, keeps_fitting}
use Rattle.told_lives.proofs.LinesOfLives.{tells_well}

pub lives_are_well_told : LivesAreWellTold
lives_are_well_told text conf is specs each world devices typed =
    let managed : List Managed = managed_of conf specs in
    let fit : AreManaged managed = (settings_fit text conf is specs each).fit in
    let plain : AllByRecursion IsPlainlyConfigured managed = configured_texts_are_safe text conf is specs in
    tells_well managed specs fit (Holds managed fit plain) (keeps_fitting managed fit plain specs) world devices typed
