use Rattle.std.proofs.Common.{List, ap, map, refl, ◌∙◌}
use Rattle.net_types.specs.declared.interface.IfSpec.{IfSpec}
use Rattle.settings.specs.declared.interfaces.Managed.{Managed}
use Rattle.conf_text.specs.Configurations.{Configuration}
use Rattle.conf_text.specs.Settings.{managed_of}
use Rattle.row_reasons.specs.AuditSites.Reads.{reads_of}
use Rattle.row_reasons.specs.AuditTurns.Goings.{going_of}
use Rattle.audit_reasons.proofs.CourseLaws.{begun_goes_on}
use Rattle.audit_reasons.proofs.explainer.Explainer.started.Goals as goal

pub returns : goal.returns
returns c = λ state holds.
    let managed = c.new-managed.ensures ∙ c.in_ok-managed.ensures.all
    ∙ ap (λ (configuration : Configuration). managed_of configuration c.args.self.known.ifaces) holds.configuration
    ∙ ap (λ (specs : List IfSpec). managed_of state.configuration specs) holds.ifaces in
    record {
      configuration = holds.configuration;
      ifaces = holds.ifaces;
      number = holds.number;
      going = begun_goes_on state c.args.begin (going_of c.new.result) c.in_ok-numbers.numbers.items c.new.ensures
          (c.in_ok-numbers.ensures ∙ ap (map (λ (m : Managed). m.spec.index.number)) managed);
      course = record {
        managed = managed;
        own = c.in_ok-own.ensures ∙ ap (map (λ (spec : IfSpec). spec.mac)) holds.ifaces;
        begin = refl;
        reads = ap reads_of c.new-2.ensures.items;
        first = refl;
      };
      lines = holds.lines;
    }
