use Rattle.std.proofs.Common.{◌≡◌, ◌++◌, map}
use Rattle.v6_options.specs.Ias.{ias_in}
use Rattle.v6_options.specs.IaViews.{ia_content, ias_left}
use Rattle.v6_message.proofs.reading.ias_of.Given as goal

abbrev pub invariant-ias : goal.invariant-ias
invariant-ias l = map ia_content l.ias.items ++ ias_left l.ia-iterator ≡ ias_in l.message.options.now
