use Rattle.life_audit.proofs.Lease6Judge.HeardTold.{addresses_were_heard, held_was_heard}
use Rattle.life_audit.specs.Laws.{HeardBasisIn, HeldBasis}
use Rattle.life_audit.proofs.LinesRest.{told_lines_rest}
use Rattle.life_audit.proofs.Widened.{heard_lines_rest}
use Rattle.replay_audit.proofs.JustLives.{lives_are_justified}
use Rattle.replay_audit.proofs.ToldLines.{lines_are_told}
use Rattle.replay_audit.proofs.laws.lives_of_scripts_are_justified.Goals as goal

pub returns-clause-told : goal.returns-clause-told
returns-clause-told c = lines_are_told

pub returns-clause-held : goal.returns-clause-held
returns-clause-held c = lives_are_justified HeldBasis told_lines_rest

pub returns-clause-heard : goal.returns-clause-heard
returns-clause-heard c = lives_are_justified HeardBasisIn (heard_lines_rest held_was_heard addresses_were_heard)
