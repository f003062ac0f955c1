use Rattle.std.proofs.Common.{Option, Some, sym, subst}
use Rattle.std.specs.Prelude.{OnOk}
use Rattle.host_tables.specs.declared.union.Diff.{Diff}
use Rattle.client_core.specs.Leading.{LeadsOn}
use Rattle.client_core.proofs.turning.Walk.add.Goals as goal

pub returns-in-Some-clause-rows : goal.returns-in-Some-clause-rows
returns-in-Some-clause-rows c =
    subst (λ (change : Option Diff). OnOk c.lead_on.result (LeadsOn change c.args.self.now.rows c.lead_on.new.self.rows)) (sym c.in-Some.is)
    (subst (λ (one : Diff). OnOk c.lead_on.result (LeadsOn (Some one) c.args.self.now.rows c.lead_on.new.self.rows)) c.in-Some.change-is c.lead_on.ensures.rows)
