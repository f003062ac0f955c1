use Rattle.turn_model.proofs.HostInLifeTurns.{opening_holds, turn_in_life, others_in_life}
use Rattle.turn_model.proofs.laws.a_life_holds_the_wanted_rows.Goals as goal

pub returns : goal.returns
returns c = record {
  opening = λ managed specs world shares s. opening_holds managed specs world shares s;
  turns = λ managed specs world earlier given shares s. turn_in_life managed specs world shares s earlier given;
  others_stay = λ managed specs world turns shares s. others_in_life managed specs world shares s turns;
}
