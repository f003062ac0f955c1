use Rattle.std.proofs.Common.{◌≡◌, ◌∷◌, ◌++◌, map, take}
use Rattle.net_types.specs.TextLines.{lines_text}
use Rattle.lease6_text.specs.LeaseLines.{ia_line, item_line}
use Rattle.lease6_text.proofs.printing.append_ia.Given as goal

abbrev pub invariant-loop-item : goal.invariant-loop-item
invariant-loop-item l =
    l.into.items ≡ l.fn.into.items ++ lines_text (ia_line l.ia.kind l.ia.iaid ∷ map (item_line l.ia.kind) (take l.item-index l.item-items))
