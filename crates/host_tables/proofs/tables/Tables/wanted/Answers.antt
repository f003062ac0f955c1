use Rattle.std.proofs.Common.{sym, ap, subst, ◌∙◌}
use Rattle.std.specs.List.{AllByRecursion}
use Rattle.world.specs.Rows.{IsRow}
use Rattle.host_model.specs.Precedence.{wanted_of}
use Rattle.host_tables.proofs.WantedRows.{united_wanted, united_fit}
use Rattle.host_tables.proofs.tables.Tables.wanted.Goals as goal

pub returns-clause-rows : goal.returns-clause-rows
returns-clause-rows c = c.deref.ensures.value ∙ united_wanted c.self.inside.places.items c.self.inside.union c.self.invariant.0 ∙ ap wanted_of c.self.view_is

pub returns-clause-fit : goal.returns-clause-fit
returns-clause-fit c =
    subst (AllByRecursion IsRow) (sym c.deref.ensures.value) (united_fit c.self.inside.places.items c.self.inside.union c.self.invariant.0 c.self.invariant.1)
