-- The job of a situation.
use Rattle.std.specs.Prelude.{ℕ, Bool, true, false, List, [], ◌++◌, map, codes, decimal}
use Rattle.net_types.specs.NameText.{name_text}
use Rattle.world.specs.Reasons.{reason_word}
use Rattle.world.specs.HookCalls.{Job, Variable}
use Rattle.hook_env.specs.declared.situation.Stage.{Stage}
use Rattle.hook_env.specs.declared.situation.Stage.TheVariants.{Before, Now}
use Rattle.hook_env.specs.declared.variables.JobVariable.{JobVariable}
use Rattle.hook_env.specs.declared.variables.JobVariable.TheVariants as job
use Rattle.hook_env.specs.declared.variables.TheConstants.{JOB_VARIABLES}
use Rattle.hook_env.specs.Words.{job_word}
use Rattle.hook_env.specs.Stages.{tells_before, tells_now}
use Rattle.hook_env.specs.Situations.{HeldContent, SituationContent}
use Rattle.hook_env.specs.Situations.HeldContent.{Nothing, Leased4, Address4, Leased6, Delegated}
use Rattle.hook_env.specs.LeaseVariables.{lease_variables, net_variables, variable}
use Rattle.hook_env.specs.Lease6Variables.{delegated_variables, lease6_variables}

-- ---- what each job says

abbrev pub carrier_word : (up : Bool) → List ℕ
carrier_word true = codes "up"
carrier_word false = codes "down"

abbrev pub job_value : SituationContent → JobVariable → List ℕ
job_value situation job.Interface = name_text situation.interface.name
job_value situation job.Reason = reason_word situation.reason
job_value situation job.Carrier = carrier_word situation.up
job_value situation job.Metric = decimal situation.metric

abbrev pub job_said : SituationContent → JobVariable → Variable
job_said situation named = variable (job_word named) (job_value situation named)

abbrev pub job_variables : SituationContent → List Variable
job_variables situation = map (job_said situation) JOB_VARIABLES

-- ---- what it says of what is held

abbrev pub held_variables : Stage → HeldContent → List Variable
held_variables stage Nothing = []
held_variables stage (Leased4 lease) = lease_variables stage lease
held_variables stage (Address4 net) = net_variables stage net
held_variables stage (Leased6 lease) = lease6_variables stage lease
held_variables stage (Delegated net) = delegated_variables stage net

abbrev pub variables_if : (tells : Bool) → Stage → HeldContent → List Variable
variables_if true stage held = held_variables stage held
variables_if false stage held = []

-- ---- the job

-- what is made of the situation
abbrev pub made_variables : SituationContent → List Variable
made_variables situation =
    job_variables situation
    ++
    (variables_if (tells_before situation.reason) Before situation.held_before
    ++ variables_if (tells_now situation.reason) Now situation.held_now)

-- a job has no number yet; what is configured stands behind what is made
abbrev pub job_of_situation : SituationContent → Job
job_of_situation situation = record {
  number = 0;
  reason = situation.reason;
  iface = situation.interface.index.number;
  script = situation.script;
  vars = made_variables situation ++ situation.env;
}
