-- What the reader holds, in the words of the definitions.
use Rattle.lab_schedule.specs.declared.schedule.Schedule.{Schedule}
use Rattle.lab_schedule.specs.declared.reading.Begun.{Begun}
use Rattle.lab_schedule.specs.declared.reading.Head.{Head}
use Rattle.lab_schedule.specs.declared.reading.ScheduleState.{ScheduleState}
use Rattle.lab_schedule.specs.declared.reading.ScheduleState.TheVariants as states
use Rattle.lab_schedule.specs.Schedules as content
use Rattle.lab_schedule.specs.ScheduleReading as reading
use Rattle.lab_schedule.specs.ScheduleReading.{Reading}

abbrev pub schedule_of : Schedule → content.Schedule
schedule_of schedule = record {
  conf = schedule.conf.items;
  ifaces = schedule.ifaces.items;
  pool = schedule.pool;
  begin = schedule.begin;
  events = schedule.events.items;
}

abbrev pub head_of : Head → reading.Head
head_of head = record { conf = head.conf.items; ifaces = head.ifaces }

abbrev pub begun_of : Begun → content.Schedule
begun_of begun = record {
  conf = begun.head.conf.items;
  ifaces = begun.head.ifaces;
  pool = begun.pool;
  begin = begun.begin;
  events = begun.events.items;
}

abbrev pub state_of : ScheduleState → Reading
state_of states.Nothing = reading.Nothing
state_of (states.Head head) = reading.Heading (head_of head)
state_of (states.Pool head pool) = reading.Pooled (head_of head) pool
state_of (states.Begun begun) = reading.Begun (begun_of begun)
