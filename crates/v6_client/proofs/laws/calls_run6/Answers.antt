use Rattle.v6_client.proofs.CallRuns.{carrier_runs, contested_runs, hears_runs, rebind_runs, release_runs, step_runs, tick_runs, tick_waits}
use Rattle.v6_client.proofs.laws.calls_run6.Goals as goal

pub returns-clause-steps : goal.returns-clause-steps
returns-clause-steps c = step_runs

pub returns-clause-ticks : goal.returns-clause-ticks
returns-clause-ticks c = tick_runs

pub returns-clause-waits : goal.returns-clause-waits
returns-clause-waits c = tick_waits

pub returns-clause-messages : goal.returns-clause-messages
returns-clause-messages c = hears_runs

pub returns-clause-carriers : goal.returns-clause-carriers
returns-clause-carriers c = carrier_runs

pub returns-clause-duplicates : goal.returns-clause-duplicates
returns-clause-duplicates c = contested_runs

pub returns-clause-releases : goal.returns-clause-releases
returns-clause-releases c = release_runs

pub returns-clause-rebinds : goal.returns-clause-rebinds
returns-clause-rebinds c = rebind_runs
