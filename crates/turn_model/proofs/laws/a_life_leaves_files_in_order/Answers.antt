use Rattle.turn_model.proofs.FilesInOrder.{files_left_in_order}
use Rattle.turn_model.proofs.laws.a_life_leaves_files_in_order.Goals as goal

pub returns : goal.returns
returns c = files_left_in_order
