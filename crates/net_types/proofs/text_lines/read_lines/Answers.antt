use Rattle.net_types.proofs.FirstBadLaws.{first_fault, given_spelled}
use Rattle.net_types.proofs.text_lines.read_lines.Goals as goal

pub returns-in-Ok-clause-found : goal.returns-in-Ok-clause-found
returns-in-Ok-clause-found g c = given_spelled c.requires.owes _ _ c.in-Ok.ensures.gives

pub returns-in-Err-clause-bad : goal.returns-in-Err-clause-bad
returns-in-Err-clause-bad g c = first_fault c.requires.owes _ _ c.in-Err.ensures.stops
