use Rattle.basis_turns.proofs.ItemsFound.{found_shown}
use Rattle.basis_turns.proofs.items.found_items_are_shown.Goals as goal

pub returns : goal.returns
returns c = found_shown
