use Rattle.text_works.proofs.InputWorks.{dumping_is_decided}
use Rattle.text_works.proofs.dumping.dump_lease.Goals as goal

pub perform-requires : goal.perform-requires
perform-requires g c = record { decided = dumping_is_decided }
