use Rattle.text_works.proofs.InputWorks.{lab_is_decided}
use Rattle.text_works.proofs.labs.lab.Goals as goal

pub perform-requires : goal.perform-requires
perform-requires g c = record { decided = lab_is_decided }
