use Rattle.conf_directives.proofs.SayingLaws.{one_interface, one_saying}
use Rattle.conf_directives.proofs.laws.lines_say_one_thing.Goals as goal

pub returns-clause-said : goal.returns-clause-said
returns-clause-said c = one_saying

pub returns-clause-interface : goal.returns-clause-interface
returns-clause-interface c = one_interface
