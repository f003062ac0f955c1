use Rattle.lab_schedule.proofs.ScheduleLaws.{schedules_one}
use Rattle.lab_schedule.proofs.laws.schedules_are_one.Goals as goal

pub returns : goal.returns
returns c = schedules_one
