use Rattle.std.proofs.Common.{bytes_eq}
use Rattle.telling_machines.proofs.ChildSteps.{asked_at}
use Rattle.telling_machines.proofs.children.MemChildrenChildren.ask.Goals as goal

pub returns-clause-tables : goal.returns-clause-tables
returns-clause-tables c =
    let old = c.args.self.now in
    rw (c.tell-2.ensures, c.end.ensures, c.next_runs.ensures.kept)
    (λ script. asked_at script c.default-status.result (bytes_eq script old.script) old.alone old.running old.host c.next_runs.ensures.harmless)
