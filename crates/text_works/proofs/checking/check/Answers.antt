use Rattle.text_works.proofs.CheckTexts.{checking_is_decided}
use Rattle.text_works.proofs.checking.check.Goals as goal

pub perform-requires : goal.perform-requires
perform-requires g c = record { decided = checking_is_decided }
