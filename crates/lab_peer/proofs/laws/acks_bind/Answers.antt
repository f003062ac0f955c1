use Rattle.lab_peer.proofs.Bound as bound
use Rattle.lab_peer.proofs.laws.acks_bind.Goals as goal

pub returns-clause-answers : goal.returns-clause-answers
returns-clause-answers c = bound.answers_its_client

pub returns-clause-binds : goal.returns-clause-binds
returns-clause-binds c = bound.acks_bind
