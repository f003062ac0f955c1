use Rattle.std.proofs.Common.{List, ap, map, refl, ◌∙◌}
use Rattle.net_types.specs.declared.interface.IfSpec.{IfSpec}
use Rattle.settings.specs.declared.interfaces.Managed.{Managed}
use Rattle.conf_text.specs.Configurations.{Configuration}
use Rattle.conf_text.specs.Settings.{managed_of}
use Rattle.audit_turns.specs.AuditModel.Auditing.{begun}
use Rattle.audit_turns.specs.Goings.{going_of}
use Rattle.audit_sites.specs.Reads.{reads_of}
use Rattle.audit_follower.proofs.AuditLaws.{begun_goes_on, begun_opens}
use Rattle.audit_follower.proofs.auditor.Auditor.started.Goals as goal

pub returns : goal.returns
returns g c = λ kept holds.
    let managed = c.new-managed.ensures ∙ c.in_ok-managed.ensures.all
    ∙ ap (λ (configuration : Configuration). managed_of configuration c.args.self.known.ifaces) holds.configuration
    ∙ ap (λ (specs : List IfSpec). managed_of kept.configuration specs) holds.ifaces in
    record {
      configuration = holds.configuration;
      ifaces = holds.ifaces;
      lives = holds.lives;
      turns = holds.turns;
      going = begun_goes_on kept c.args.begin (going_of c.new-2.result) c.in_ok-numbers.numbers.items c.new-2.ensures
          (c.in_ok-numbers.ensures ∙ ap (map (λ (m : Managed). m.spec.index.number)) managed);
      course = c.started-course.ensures kept.living kept.unjust (begun kept c.args.begin) holds.course
          (begun_opens kept c.args.begin _ managed
          (c.in_ok-own.ensures ∙ ap (map (λ (spec : IfSpec). spec.mac)) holds.ifaces) refl (ap reads_of c.new.ensures.items));
    }
