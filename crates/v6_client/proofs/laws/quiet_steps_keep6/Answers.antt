use Rattle.v6_client.proofs.QuietSteps.{all_runs_tell, begins_tell, duplicates_tell, messages_tell, rebinds_tell, releases_tell, ticks_tell}
use Rattle.v6_client.proofs.laws.quiet_steps_keep6.Goals as goal

pub returns-clause-ticks : goal.returns-clause-ticks
returns-clause-ticks c = ticks_tell

pub returns-clause-messages : goal.returns-clause-messages
returns-clause-messages c = messages_tell

pub returns-clause-duplicates : goal.returns-clause-duplicates
returns-clause-duplicates c = duplicates_tell

pub returns-clause-begins : goal.returns-clause-begins
returns-clause-begins c = begins_tell

pub returns-clause-rebinds : goal.returns-clause-rebinds
returns-clause-rebinds c = rebinds_tell

pub returns-clause-releases : goal.returns-clause-releases
returns-clause-releases c = releases_tell

pub returns-clause-runs : goal.returns-clause-runs
returns-clause-runs c = all_runs_tell
