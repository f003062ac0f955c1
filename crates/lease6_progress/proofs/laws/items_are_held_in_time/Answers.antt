use Rattle.lease6_progress.proofs.Turning.{acquires, acquires_at_once}
use Rattle.lease6_progress.proofs.laws.items_are_held_in_time.Goals as goal

pub returns : goal.returns
returns c = record { four_messages = acquires; two_messages = acquires_at_once }
