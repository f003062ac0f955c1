use Rattle.safe_texts.proofs.MadeExactly.{made_variables_are_exact}
use Rattle.safe_texts.proofs.PlainSpellings.{exact_variables_are_safe}
use Rattle.safe_texts.proofs.laws.job_variables_are_exact.Goals as goal

pub returns-clause-exact : goal.returns-clause-exact
returns-clause-exact c = made_variables_are_exact

pub returns-clause-safe : goal.returns-clause-safe
returns-clause-safe c = exact_variables_are_safe
