use Rattle.safe_texts.proofs.ConfiguredLives.{configured_lives_are_lives, variables_are_printable}
use Rattle.safe_texts.proofs.PlainConfigurations.{configured_texts_are_safe}
use Rattle.safe_texts.proofs.laws.configured_lives_are_safe.Goals as goal

pub returns-clause-texts : goal.returns-clause-texts
returns-clause-texts c = configured_texts_are_safe

pub returns-clause-variables : goal.returns-clause-variables
returns-clause-variables c = variables_are_printable

pub returns-clause-lives : goal.returns-clause-lives
returns-clause-lives c = configured_lives_are_lives
