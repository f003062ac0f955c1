use Rattle.std.proofs.Common.{◌≡◌, length}
use Rattle.v6_options.specs.Ias.{ias_in}
use Rattle.v6_options.specs.IaViews.{ias_left}
use Rattle.v6_items.specs.Reading.{ia_for}
use Rattle.v6_items.proofs.reading.ia_for.Given as goal

abbrev pub invariant-ias : goal.invariant-ias
invariant-ias l = ia_for l.ask (ias_left l.views) ≡ ia_for l.ask (ias_in l.options)

abbrev pub decreases-ias : goal.decreases-ias
decreases-ias l = length (ias_left l.views)
