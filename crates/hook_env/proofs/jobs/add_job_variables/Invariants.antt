use Rattle.std.proofs.Common.{◌≡◌, ◌++◌, map, take}
use Rattle.world.specs.HookCalls.{variable_of}
use Rattle.hook_env.specs.declared.variables.TheConstants.{JOB_VARIABLES}
use Rattle.hook_env.specs.Jobs.{job_said}
use Rattle.hook_env.specs.Situations.{situation_content}
use Rattle.hook_env.proofs.jobs.add_job_variables.Given as goal

abbrev pub invariant-loop-variable : goal.invariant-loop-variable
invariant-loop-variable l =
    map variable_of l.into.items
    ≡ map variable_of l.fn.into.items ++ map (job_said (situation_content l.situation)) (take l.variable-index JOB_VARIABLES)
