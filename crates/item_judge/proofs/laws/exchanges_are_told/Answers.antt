use Rattle.item_judge.proofs.Opened.{heard_told, open_told}
use Rattle.item_judge.proofs.laws.exchanges_are_told.Goals as goal

pub returns-clause-open_one : goal.returns-clause-open_one
returns-clause-open_one c = open_told

pub returns-clause-heard : goal.returns-clause-heard
returns-clause-heard c = heard_told
