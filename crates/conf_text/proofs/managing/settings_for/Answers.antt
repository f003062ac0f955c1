use Rattle.std.proofs.Common.{[], Option, ap, ◌∙◌}
use Rattle.std.specs.Prelude.{unwrap_or}
use Rattle.conf_text.specs.Contents.{configuration}
use Rattle.conf_scopes.specs.Scopes.{ScopeContent, scope_of}
use Rattle.conf_text.specs.Settings.{in_force_among}
use Rattle.conf_text.proofs.ResultLaws.{ok_then}
use Rattle.conf_text.proofs.managing.settings_for.Goals as goal

pub returns-in-Some : goal.returns-in-Some
returns-in-Some c = ok_then c.in_force_among.result
    (λ settings is. is
    ∙ ap
    (λ (o : Option ScopeContent). in_force_among (configuration c.args.conf.now) c.args.ifaces.now c.args.spec.now (unwrap_or o (scope_of [])))
    c.in-Some.ensures)
    c.in_force_among.ensures

pub returns-in-None : goal.returns-in-None
returns-in-None c = ok_then c.in_force_among-in-None.result
    (λ settings is. is
    ∙ ap (in_force_among (configuration c.args.conf.now) c.args.ifaces.now c.args.spec.now) c.empty.ensures
    ∙ ap
    (λ (o : Option ScopeContent). in_force_among (configuration c.args.conf.now) c.args.ifaces.now c.args.spec.now (unwrap_or o (scope_of [])))
    c.in-None.ensures)
    c.in_force_among-in-None.ensures
