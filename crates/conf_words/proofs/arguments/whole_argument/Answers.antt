use Rattle.std.proofs.Common.{sym}
use Rattle.conf_words.specs.Arguments.{shown_argument}
use Rattle.conf_words.proofs.WholeLaws.{whole_sound, whole_none}
use Rattle.conf_words.proofs.arguments.whole_argument.Goals as goal

pub returns-in-Some-clause-whole : goal.returns-in-Some-clause-whole
returns-in-Some-clause-whole c = whole_sound c.args.about.now (shown_argument c.in-Some.argument) (sym c.in-Some.ensures)

pub returns-in-None-clause-none : goal.returns-in-None-clause-none
returns-in-None-clause-none c = whole_none c.args.about.now (sym c.in-None.ensures)
