use Rattle.lease6_judge.proofs.HeardTold.{addresses_were_heard, held_was_heard}
use Rattle.life_audit.proofs.LinesRest.{lines_rest, told_lines_rest}
use Rattle.life_audit.proofs.Widened.{heard_lines_rest}
use Rattle.life_audit.proofs.laws.lines_of_lives_rest_on_evidence.Goals as goal

pub returns-clause-all : goal.returns-clause-all
returns-clause-all c = lines_rest

pub returns-clause-told : goal.returns-clause-told
returns-clause-told c = told_lines_rest

pub returns-clause-heard : goal.returns-clause-heard
returns-clause-heard c = heard_lines_rest held_was_heard addresses_were_heard
