use Rattle.safe_texts.proofs.LifeLines.{wanted_lines_are_safe, written_lines_are_safe}
use Rattle.safe_texts.proofs.laws.resolver_lines_are_safe.Goals as goal

pub returns-clause-wanted : goal.returns-clause-wanted
returns-clause-wanted c = wanted_lines_are_safe

pub returns-clause-written : goal.returns-clause-written
returns-clause-written c = written_lines_are_safe
