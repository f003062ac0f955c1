use Rattle.host_model.proofs.HostTableTurns.{turn_true, turn_leaves_others, turn_holds, none_fails}
use Rattle.host_model.proofs.laws.a_turn_brings_the_wanted_rows.Goals as goal

pub returns : goal.returns
returns c = record {
  stays_true = λ managed failing wanted table w t. turn_true failing managed wanted w table t;
  others_stay = λ managed failing wanted table w t. turn_leaves_others failing managed wanted w table t;
  reached = λ managed failing wanted table w t none. (turn_holds failing managed wanted w table t none).as_wanted;
  recovers = λ managed failing wanted table past. none_fails failing managed wanted table past;
}
