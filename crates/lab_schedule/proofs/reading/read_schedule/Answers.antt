use Rattle.lab_schedule.proofs.ScheduleLaws.{schedule_laws}
use Rattle.lab_schedule.proofs.reading.read_schedule.Goals as goal

pub read_lines-requires : goal.read_lines-requires
read_lines-requires c = record { owes = schedule_laws _ }
