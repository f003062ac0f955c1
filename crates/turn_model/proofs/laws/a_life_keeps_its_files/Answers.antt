use Rattle.turn_model.proofs.FilesInLifeTurns.{opening_files, turn_files}
use Rattle.turn_model.proofs.laws.a_life_keeps_its_files.Goals as goal

pub returns : goal.returns
returns c = record {
  opening = λ managed specs world apart order. opening_files managed apart specs world order;
  turns = λ managed specs world earlier given apart order. turn_files managed apart specs world order earlier given;
}
