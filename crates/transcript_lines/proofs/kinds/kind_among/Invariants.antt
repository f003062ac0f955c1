-- None of the words so far stands in front.
use Rattle.std.proofs.Common.{◌≡◌, map, drop}
use Rattle.transcript_lines.specs.LineKinds.{kind_among}
use Rattle.transcript_lines.proofs.kinds.kind_among.Given as goal

abbrev pub invariant-loop-kind : goal.invariant-loop-kind
invariant-loop-kind l =
    kind_among (map (λ row. (row.0, row.1.now)) l.kinds) l.text ≡ kind_among (map (λ row. (row.0, row.1.now)) (drop l.kind-index l.kinds)) l.text
