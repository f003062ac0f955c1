-- What a lease file, a capture or a schedule gives, and how it is refused: never both.
use Rattle.std.proofs.Common.{ℕ, ◌≡◌, Bool, true, false, List, Ok, Err, sym, subst, ◌∙◌}
use Rattle.net_types.specs.declared.interface.IfSpec.{IfSpec}
use Rattle.lease_text.proofs.SpelledOnce.{no_bad_line}
use Rattle.world.specs.HookCalls.{Variable}
use Rattle.settings.specs.Fitting.{AreManaged}
use Rattle.conf_text.specs.Configurations.{Configuration, IsConfOf}
use Rattle.conf_text.specs.Settings.{managed_of}
use Rattle.conf_laws.proofs.OneLaws.{configuration_one}
use Rattle.net_types.specs.FirstBadLine.{IsSpelled}
use Rattle.lab_schedule.specs.Schedules.{Schedule, SpellsSchedule}
use Rattle.lab_schedule.proofs.ScheduleLaws.{schedules_one}
use Rattle.capture_script.specs.CapturedScripts.{IsImported}
use Rattle.lease_dump.specs.Dumps.{IsBadAs, IsDumpedAs, is_of_dhcp6}
use Rattle.text_works.specs.declared.status.Status.{Status}
use Rattle.text_works.specs.declared.status.Status.TheVariants as status
use Rattle.text_works.specs.Dumping.{IsDumpOf, RefusesLease, dumping}
use Rattle.text_works.specs.Importing.{RefusesCapture, importing}
use Rattle.text_works.specs.Labs.{IsLabOf, RefusesSchedule, lab_work}
use Rattle.text_works.specs.Refusals.{IsConfRefused}
use Rattle.text_works.specs.Works.{IsDecided, MayRefuse}
use Rattle.text_works.proofs.Refusals.{live_managed}
use Rattle.text_works.proofs.WorkLaws.{finds_nothing}

-- a lease has no bad line
never_bad : (six : Bool) (bytes : List ℕ) (vars : List Variable) (line : ℕ) → IsDumpedAs six bytes vars → IsBadAs six bytes line → ⊥
never_bad false bytes vars line dumped bad = no_bad_line bytes dumped.lease line bad.0 dumped.spelled bad.1
never_bad true bytes vars line dumped bad = no_bad_line bytes dumped.lease line bad.0 dumped.spelled bad.1

lease_taken : (bytes text : List ℕ) (answer : Status) → IsDumpOf bytes text → RefusesLease bytes answer → ⊥
lease_taken bytes text (status.Lease line) gives refuses = never_bad (is_of_dhcp6 bytes) bytes gives.vars line gives.dumped refuses
lease_taken bytes text (status.Capture what) gives refuses = absurd refuses
lease_taken bytes text (status.Schedule line) gives refuses = absurd refuses
lease_taken bytes text (status.Transcript line) gives refuses = absurd refuses
lease_taken bytes text status.Unjustified gives refuses = absurd refuses
lease_taken bytes text (status.Conf fault) gives refuses = absurd refuses
lease_taken bytes text status.Done gives refuses = absurd refuses
lease_taken bytes text status.Usage gives refuses = absurd refuses
lease_taken bytes text (status.Script fault) gives refuses = absurd refuses
lease_taken bytes text status.ReadFault gives refuses = absurd refuses
lease_taken bytes text status.WriteFault gives refuses = absurd refuses
lease_taken bytes text status.LinkFault gives refuses = absurd refuses
lease_taken bytes text status.TurnsOver gives refuses = absurd refuses
lease_taken bytes text status.TooLong gives refuses = absurd refuses
lease_taken bytes text status.NoMemory gives refuses = absurd refuses

pub dumping_is_decided : IsDecided dumping
dumping_is_decided = finds_nothing IsDumpOf RefusesLease lease_taken

ok_err : {A B : Type 0} {a : A} {b : B} → Ok a ≡ Err b → ⊥
ok_err e = cc

capture_taken : (spec : IfSpec) (bytes text : List ℕ) (answer : Status) → IsImported bytes spec text → RefusesCapture bytes answer → ⊥
capture_taken spec bytes text (status.Capture what) gives refuses = ok_err (sym gives.formed ∙ refuses)
capture_taken spec bytes text (status.Schedule line) gives refuses = absurd refuses
capture_taken spec bytes text (status.Transcript line) gives refuses = absurd refuses
capture_taken spec bytes text status.Unjustified gives refuses = absurd refuses
capture_taken spec bytes text (status.Lease line) gives refuses = absurd refuses
capture_taken spec bytes text (status.Conf fault) gives refuses = absurd refuses
capture_taken spec bytes text status.Done gives refuses = absurd refuses
capture_taken spec bytes text status.Usage gives refuses = absurd refuses
capture_taken spec bytes text (status.Script fault) gives refuses = absurd refuses
capture_taken spec bytes text status.ReadFault gives refuses = absurd refuses
capture_taken spec bytes text status.WriteFault gives refuses = absurd refuses
capture_taken spec bytes text status.LinkFault gives refuses = absurd refuses
capture_taken spec bytes text status.TurnsOver gives refuses = absurd refuses
capture_taken spec bytes text status.TooLong gives refuses = absurd refuses
capture_taken spec bytes text status.NoMemory gives refuses = absurd refuses

pub importing_is_decided : (spec : IfSpec) → IsDecided (importing spec)
importing_is_decided spec = finds_nothing (λ bytes text. IsImported bytes spec text) RefusesCapture (capture_taken spec)

-- a text is of one schedule, and a configuration has no fault
schedule_taken : (bytes text : List ℕ) (answer : Status) → IsLabOf bytes text → RefusesSchedule bytes answer → ⊥
schedule_taken bytes text (status.Schedule line) gives refuses = schedules_one.none_bad bytes gives.schedule line gives.spelled refuses
schedule_taken bytes text (status.Transcript line) gives refuses = absurd refuses
schedule_taken bytes text status.Unjustified gives refuses = absurd refuses
schedule_taken bytes text (status.Conf fault) gives refuses =
    let same = schedules_one.one bytes refuses.schedule gives.schedule refuses.spelled gives.spelled in
    let told : IsConfOf gives.schedule.conf (Err fault) = subst (λ (s : Schedule). IsConfOf s.conf (Err fault)) same refuses.told in
    ok_err (configuration_one gives.schedule.conf (Ok gives.conf) (Err fault) gives.configured told)
schedule_taken bytes text status.Done gives refuses = absurd refuses
schedule_taken bytes text status.Usage gives refuses = absurd refuses
schedule_taken bytes text (status.Script fault) gives refuses = absurd refuses
schedule_taken bytes text status.ReadFault gives refuses = absurd refuses
schedule_taken bytes text status.WriteFault gives refuses = absurd refuses
schedule_taken bytes text status.LinkFault gives refuses = absurd refuses
schedule_taken bytes text status.TurnsOver gives refuses = absurd refuses
schedule_taken bytes text (status.Lease line) gives refuses = absurd refuses
schedule_taken bytes text (status.Capture what) gives refuses = absurd refuses
schedule_taken bytes text status.TooLong gives refuses = absurd refuses
schedule_taken bytes text status.NoMemory gives refuses = absurd refuses

pub lab_is_decided : IsDecided lab_work
lab_is_decided = finds_nothing IsLabOf RefusesSchedule schedule_taken

-- a schedule whose configuration isn't read is refused
pub refused_schedule : (bytes : List ℕ) (schedule : Schedule) (answer : Status) → IsSpelled SpellsSchedule bytes schedule → IsConfRefused schedule.conf answer
    → MayRefuse (lab_work.Refuses bytes) answer
refused_schedule bytes schedule (status.Conf fault) spelled refused = (tt, record { schedule = schedule; spelled = spelled; told = refused })
refused_schedule bytes schedule status.NoMemory spelled refused = tt
refused_schedule bytes schedule status.Done spelled refused = absurd refused
refused_schedule bytes schedule status.Usage spelled refused = absurd refused
refused_schedule bytes schedule (status.Script fault) spelled refused = absurd refused
refused_schedule bytes schedule status.ReadFault spelled refused = absurd refused
refused_schedule bytes schedule status.WriteFault spelled refused = absurd refused
refused_schedule bytes schedule status.LinkFault spelled refused = absurd refused
refused_schedule bytes schedule status.TurnsOver spelled refused = absurd refused
refused_schedule bytes schedule (status.Lease line) spelled refused = absurd refused
refused_schedule bytes schedule (status.Capture what) spelled refused = absurd refused
refused_schedule bytes schedule (status.Schedule line) spelled refused = absurd refused
refused_schedule bytes schedule (status.Transcript line) spelled refused = absurd refused
refused_schedule bytes schedule status.Unjustified spelled refused = absurd refused
refused_schedule bytes schedule status.TooLong spelled refused = absurd refused

-- the interfaces that a schedule has managed fit
pub lab_managed : (bytes : List ℕ) (schedule : Schedule) (conf : Configuration) → IsSpelled SpellsSchedule bytes schedule → IsConfOf schedule.conf (Ok conf)
    → AreManaged (managed_of conf schedule.ifaces)
lab_managed bytes schedule conf spelled is = live_managed schedule.conf conf schedule.ifaces is spelled.spells.fits.ifaces
