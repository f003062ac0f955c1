use Rattle.std.proofs.Common.{Some, sym, ap, ◌∙◌}
use Rattle.net_types.proofs.Ip6Laws.{groups_none, groups_read}
use Rattle.net_types.proofs.ip6_text.groups_of.Goals as goal

pub returns-in-Ok : goal.returns-in-Ok
returns-in-Ok c = ap (λ gs. Some gs) c.segments.ensures ∙ sym (groups_read _ _ c.in-Ok.ensures)

pub returns-in-Err : goal.returns-in-Err
returns-in-Err c = sym (groups_none _ c.in-Err.ensures)
