use Rattle.safe_texts.proofs.LifeJobs.{life_jobs_are_safe}
use Rattle.safe_texts.proofs.MadeOfEvents.{made_variables_are_safe}
use Rattle.safe_texts.proofs.StepJobs.{opening_jobs_are_safe, turn_jobs_are_safe}
use Rattle.safe_texts.proofs.laws.job_variables_are_safe.Goals as goal

pub returns-clause-made : goal.returns-clause-made
returns-clause-made c = made_variables_are_safe

pub returns-clause-opening : goal.returns-clause-opening
returns-clause-opening c = opening_jobs_are_safe

pub returns-clause-turn : goal.returns-clause-turn
returns-clause-turn c = turn_jobs_are_safe

pub returns-clause-life : goal.returns-clause-life
returns-clause-life c = life_jobs_are_safe
