-- What `lab` writes and answers: the text of the lab that a schedule means.
use Rattle.std.specs.Prelude.{ℕ, ◌≡◌, List, Option, Ok, Err}
use Rattle.net_types.specs.FirstBadLine.{IsSpelled}
use Rattle.conf_text.specs.Configurations.{Configuration, IsConfOf}
use Rattle.conf_text.specs.Settings.{managed_of}
use Rattle.conf_text.specs.declared.answers.ConfFault.{ConfFault}
use Rattle.lab_schedule.specs.Schedules.{Schedule, SpellsSchedule, IsBadLine}
use Rattle.lab_laws.specs.LabModel.LabLines.{lab_text}
use Rattle.text_works.specs.declared.status.Status.{Status}
use Rattle.text_works.specs.declared.status.Status.TheVariants as status
use Rattle.text_works.specs.Works.{Work, IsWorked, NothingFound}

-- the bytes spell a schedule with a configuration, and this is the text of its lab
pub record IsLabOf (bytes text : List ℕ) : Type 0 where
  pub schedule : Schedule
  pub conf : Configuration
  pub spelled : IsSpelled SpellsSchedule bytes schedule
  pub configured : IsConfOf schedule.conf (Ok conf)
  pub says : text ≡ lab_text (managed_of conf schedule.ifaces) schedule

-- the bytes spell a schedule, and this is the first bad line of its configuration, counted within that
pub record IsScheduleConfFault (bytes : List ℕ) (fault : ConfFault) : Type 0 where
  pub schedule : Schedule
  pub spelled : IsSpelled SpellsSchedule bytes schedule
  pub told : IsConfOf schedule.conf (Err fault)

-- the first line with which no schedule goes on, and after that the configuration's first one
abbrev pub RefusesSchedule : List ℕ → Status → Type 0
RefusesSchedule bytes (status.Schedule line) = IsBadLine bytes line
RefusesSchedule bytes (status.Conf fault) = IsScheduleConfFault bytes fault
RefusesSchedule bytes other = ⊥

abbrev pub lab_work : Work
lab_work = record { Gives = IsLabOf; Finds = NothingFound; Refuses = RefusesSchedule }

-- what lab answers, by the input and by what is written before and after
abbrev pub IsLabAnswer : Status → (input old new : Option (List ℕ)) → Type 0
IsLabAnswer answer input old new = IsWorked lab_work answer input old new
