use Rattle.std.proofs.Common.{◌≡◌, ◌++◌, take}
use Rattle.std.specs.Prelude.{flat_map}
use Rattle.net_types.specs.TextLines.{lines_text}
use Rattle.lease6_text.specs.Leases.{ias_content}
use Rattle.lease6_text.specs.LeaseLines.{ia_lines}
use Rattle.lease6_text.proofs.printing.append_ias.Given as goal

abbrev pub invariant-loop-ia : goal.invariant-loop-ia
invariant-loop-ia l = l.into.items ≡ l.fn.into.items ++ lines_text (flat_map ia_lines (ias_content (take l.ia-index l.ias)))
