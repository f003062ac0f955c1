use Rattle.script_model.proofs.SpelledTurns.{given_printed}
use Rattle.script_model.proofs.laws.printed_turns_are_spelled.Goals as goal

pub returns : goal.returns
returns c = given_printed
