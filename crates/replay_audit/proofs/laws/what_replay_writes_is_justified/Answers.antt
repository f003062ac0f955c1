use Rattle.life_audit.proofs.Lease6Judge.HeardTold.{addresses_were_heard, held_was_heard}
use Rattle.life_audit.specs.Laws.{HeardBasisIn, HeldBasis}
use Rattle.life_audit.proofs.LinesRest.{told_lines_rest}
use Rattle.life_audit.proofs.Widened.{heard_lines_rest}
use Rattle.told_lives.proofs.ToldLives.{lives_are_well_told}
use Rattle.replay_audit.specs.Laws.{LivesAreJustified}
use Rattle.replay_audit.proofs.JustLives.{lives_are_justified}
use Rattle.replay_audit.proofs.YesLives.{replays_are_justified, transcripts_are_justified}
use Rattle.replay_audit.proofs.laws.what_replay_writes_is_justified.Goals as goal

held_just : LivesAreJustified HeldBasis
held_just = lives_are_justified HeldBasis told_lines_rest

heard_just : LivesAreJustified HeardBasisIn
heard_just = lives_are_justified HeardBasisIn (heard_lines_rest held_was_heard addresses_were_heard)

pub returns-clause-held : goal.returns-clause-held
returns-clause-held c = transcripts_are_justified lives_are_well_told HeldBasis held_just

pub returns-clause-heard : goal.returns-clause-heard
returns-clause-heard c = transcripts_are_justified lives_are_well_told HeardBasisIn heard_just

pub returns-clause-writes_held : goal.returns-clause-writes_held
returns-clause-writes_held c = replays_are_justified lives_are_well_told HeldBasis held_just

pub returns-clause-writes : goal.returns-clause-writes
returns-clause-writes c = replays_are_justified lives_are_well_told HeardBasisIn heard_just
