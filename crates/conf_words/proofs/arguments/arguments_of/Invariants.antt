use Rattle.std.proofs.Common.{map, length}
use Rattle.conf_words.specs.Arguments.{BeginsWithArgument, shown_argument}
use Rattle.conf_words.specs.Parts.{Leads}
use Rattle.conf_words.proofs.arguments.arguments_of.Given as goal

abbrev pub invariant-arguments : goal.invariant-arguments
invariant-arguments l = Leads BeginsWithArgument (map shown_argument l.arguments.items) l.about l.rest

abbrev pub decreases-arguments : goal.decreases-arguments
decreases-arguments l = length l.rest
