use Rattle.std.proofs.Common.{◌≡◌, ◌<◌, [], List, length, get_or, set, sym, subst, ◌∙◌}
use Rattle.std.specs.List.{AllByRecursion}
use Rattle.std.proofs.lemmas.List.{get_or_default}
use Rattle.world.specs.declared.rows.HostRow.{HostRow}
use Rattle.world.specs.Rows.{IsRow}
use Rattle.host_tables.specs.Unions.{Unites}
use Rattle.host_tables.proofs.Fewness.{no_steps, steps_of_tables}
use Rattle.host_tables.proofs.WantedRows.{set_fit}
use Rattle.host_tables.proofs.tables.Tables.change.Goals as goal

pub invariant_of-self-2 : goal.invariant_of-self-2
invariant_of-self-2 g c =
    let places : List (List HostRow) = c.self.inside.places.items in
    let here : c.args.place < length places = subst (λ (all : List (List HostRow)). c.args.place < length all) (sym c.self.view_is) c.requires in
    let before : c.as_slice-before.result.now ≡ get_or places c.args.place [] =
    c.as_slice-before.ensures.rows ∙ c.index.ensures ∙ get_or_default places c.args.place c.index.result.now [] here in (
      subst (λ (rows : List HostRow). Unites (set places c.args.place rows) c.exchange.new.self) c.as_slice.ensures.rows
          (c.in_ok-diff.ensures.exchanges places here before c.self.invariant.0).unites,
      set_fit places c.args.place c.args.rows c.self.invariant.1 (subst (AllByRecursion IsRow) c.as_slice.ensures.rows c.as_slice.ensures.fit),
    )

pub returns-clause-steps : goal.returns-clause-steps
returns-clause-steps g c =
    let places : List (List HostRow) = c.self.inside.places.items in
    let here : c.args.place < length places = subst (λ (all : List (List HostRow)). c.args.place < length all) (sym c.self.view_is) c.requires in
    let before : c.as_slice-before.result.now ≡ get_or places c.args.place [] =
    c.as_slice-before.ensures.rows ∙ c.index.ensures ∙ get_or_default places c.args.place c.index.result.now [] here in
    steps_of_tables c.args.self.now places c.self.inside.union c.exchange.new.self c.args.place c.as_slice-before.result.now c.as_slice.result.now c.args.rows _
    _
    c.self.view_is c.self.invariant.0 (c.in_ok-diff.ensures.exchanges places here before c.self.invariant.0).unites here before c.as_slice.ensures.rows
    c.exchange.ensures.steps

pub returns-in_err-diff-clause-steps : goal.returns-in_err-diff-clause-steps
returns-in_err-diff-clause-steps g c = no_steps c.args.self.now c.args.place c.args.rows _ _ c.in_err-diff.ensures.unspent
