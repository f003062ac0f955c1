-- Numbers of seconds where no line says any.
use Rattle.settings.specs.declared.times.Times.{Times}

abbrev pub usual_times : Times
usual_times = record { timeout = 30; reboot = 5 }
