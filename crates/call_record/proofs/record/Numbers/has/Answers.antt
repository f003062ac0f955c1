use Rattle.std.proofs.Common.{ap, ◌∙◌}
use Rattle.world.specs.Causes.{has_number}
use Rattle.call_record.proofs.FoundNumbers.{search_has}
use Rattle.call_record.proofs.record.Numbers.has.Goals as goal

pub returns-then-self : goal.returns-then-self
returns-then-self c =
    c.is_ok.ensures.value
    ∙ search_has c.deref.result.now c.self.inside.list.items c.args.number c.binary_search.result c.deref.ensures.value
    (c.self.invariant c.if-self.true) c.binary_search.ensures.position
    ∙ ap (λ xs. has_number xs c.args.number) c.self.view_is
