use Rattle.exact_texts.proofs.ExactLives.{configured_jobs_are_exact, life_jobs_are_exact}
use Rattle.exact_texts.proofs.ForetoldLives.{foretold_jobs_are_exact}
use Rattle.exact_texts.proofs.laws.lives_make_exact_variables.Goals as goal

pub returns-clause-lives : goal.returns-clause-lives
returns-clause-lives c = life_jobs_are_exact

pub returns-clause-configured : goal.returns-clause-configured
returns-clause-configured c = configured_jobs_are_exact

pub returns-clause-foretold : goal.returns-clause-foretold
returns-clause-foretold c = foretold_jobs_are_exact
