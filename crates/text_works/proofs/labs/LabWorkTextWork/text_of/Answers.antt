use Rattle.std.proofs.Common.{sym, subst, Ok, ◌∙◌}
use Rattle.settings.specs.Fitting.{AreManaged}
use Rattle.conf_text.specs.Configurations.{IsConfOf}
use Rattle.conf_text.specs.Contents.{configuration}
use Rattle.conf_text.specs.Settings.{managed_of}
use Rattle.lab_schedule.specs.ScheduleContent.{schedule_of}
use Rattle.text_works.proofs.InputWorks.{lab_managed}
use Rattle.text_works.proofs.labs.LabWorkTextWork.text_of.Goals as goal

pub lab_text-requires : goal.lab_text-requires
lab_text-requires c = subst AreManaged (sym (c.deref-3.ensures.value ∙ c.in_ok-managed.ensures))
    (subst (λ ifaces. AreManaged (managed_of (configuration c.in_ok-conf.conf) ifaces)) (sym c.deref-2.ensures.value)
    (lab_managed c.args.bytes.now (schedule_of c.in_ok-schedule.schedule) (configuration c.in_ok-conf.conf)
    c.in_ok-schedule.ensures.found
    (subst (λ lines. IsConfOf lines (Ok (configuration c.in_ok-conf.conf))) c.deref.ensures.value c.in_ok-conf.ensures.found)))
