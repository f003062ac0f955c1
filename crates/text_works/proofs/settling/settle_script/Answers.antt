use Rattle.std.proofs.Common.{Ok, refl, ap, subst, ◌∙◌}
use Rattle.conf_text.specs.Configurations.{IsConfOf}
use Rattle.conf_text.specs.Contents.{configuration}
use Rattle.conf_text.specs.Settings.{managed_of}
use Rattle.daemon.proofs.Causes.{error_is}
use Rattle.replay_text.specs.ScriptContent.{script_of}
use Rattle.text_works.specs.Refusals.{IsConfRefused}
use Rattle.text_works.specs.SpelledScripts.{configuration_text}
use Rattle.text_works.proofs.Refusals.{text_of}
use Rattle.text_works.proofs.settling.settle_script.Goals as goal

pub returns-in_err-conf-clause-bad : goal.returns-in_err-conf-clause-bad
returns-in_err-conf-clause-bad c =
    error_is c.from_residual.result c.in_err-conf.field-0.0 (IsConfRefused (configuration_text (script_of c.args.script))) c.from_residual.ensures.1
    (subst (λ text. IsConfRefused text c.in_err-conf.field-0.0) (c.deref.ensures.value ∙ text_of c.args.script c.requires.lines) c.in_err-conf.ensures.bad)

pub returns-clause-found : goal.returns-clause-found
returns-clause-found c = record {
  script_is = refl;
  configured =
      subst (λ text. IsConfOf text (Ok (configuration c.in_ok-conf.conf)))
      (c.deref.ensures.value ∙ text_of c.args.script c.requires.lines) c.in_ok-conf.ensures.found;
  managed = c.in_ok-managed.ensures ∙ ap (managed_of (configuration c.in_ok-conf.conf)) c.deref-2.ensures.value;
}
