-- Directives that say a number of seconds: what the lines of a scope say, and what is in force.
use Rattle.std.specs.Prelude.{ℕ, List, Option, Some, None, unwrap_or}
use Rattle.settings.specs.declared.times.Times.{Times}
use Rattle.settings.specs.Times.{usual_times}
use Rattle.conf_directives.specs.declared.names.SecondsName.{SecondsName}
use Rattle.conf_directives.specs.declared.names.SecondsName.TheVariants.{Timeout, Reboot}
use Rattle.conf_scopes.specs.declared.times.TimesSaid.{TimesSaid}
use Rattle.conf_scopes.specs.Values.{first_said, last_of}

abbrev pub timeout_in : SecondsName × ℕ → Option ℕ
timeout_in (Timeout, seconds) = Some seconds
timeout_in _ = None

abbrev pub reboot_in : SecondsName × ℕ → Option ℕ
reboot_in (Reboot, seconds) = Some seconds
reboot_in _ = None

abbrev pub times_of : List (SecondsName × ℕ) → TimesSaid
times_of lines = record { timeout = last_of timeout_in lines; reboot = last_of reboot_in lines }

-- with what one line more says
abbrev pub with_seconds : SecondsName × ℕ → TimesSaid → TimesSaid
with_seconds (Timeout, seconds) said = record said { timeout = Some seconds }
with_seconds (Reboot, seconds) said = record said { reboot = Some seconds }

abbrev pub times_with : TimesSaid → Option (SecondsName × ℕ) → TimesSaid
times_with said None = said
times_with said (Some line) = with_seconds line said

-- the block's, else the global ones, else those that are usual
abbrev pub times_in_force : (global block : TimesSaid) → Times
times_in_force global block = record {
  timeout = unwrap_or (first_said block.timeout global.timeout) usual_times.timeout;
  reboot = unwrap_or (first_said block.reboot global.reboot) usual_times.reboot;
}
