use Rattle.conf_words.specs.Arguments.{BeginsWithArgument}
use Rattle.conf_words.specs.Steps.{argument_at}
use Rattle.conf_words.proofs.ArgumentLaws.{argument_whole, none_argument}
use Rattle.conf_words.proofs.PartLaws.{OnePart, one_list}
use Rattle.conf_words.proofs.WholeLaws.{whole_one}
use Rattle.conf_words.proofs.laws.arguments_are_one.Goals as goal

abbrev one_argument : OnePart BeginsWithArgument
one_argument = record { at = argument_at; finds = argument_whole }

pub returns-clause-list : goal.returns-clause-list
returns-clause-list c = λ text one other first second.
    one_list one_argument one other text first.0 second.0 first.1 second.1 (none_argument first.0 first.2) (none_argument second.0 second.2)

pub returns-clause-whole : goal.returns-clause-whole
returns-clause-whole c = whole_one
