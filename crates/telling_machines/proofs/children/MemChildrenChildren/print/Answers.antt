use Rattle.std.proofs.Common.{bytes_eq, sym, ◌∙◌}
use Rattle.telling_machines.proofs.ChildSteps.{printed_at}
use Rattle.telling_machines.proofs.children.MemChildrenChildren.print.Goals as goal

pub returns-clause-tables : goal.returns-clause-tables
returns-clause-tables c =
    let old = c.args.self.now in
    rw (c.tell-2.ensures, c.run_one.ensures)
    (λ script. printed_at script c.args.call.now c.default-status.result c.new.result.items (bytes_eq script old.script) old.alone old.running old.host
    (sym c.is_change.ensures ∙ c.if-is_change.false) c.new.ensures.items)
