use Rattle.std.proofs.Common.{◌≡◌, ◌≤◌, drop}
use Rattle.domain_names.specs.LabelSteps.{labels_fit}
use Rattle.domain_names.proofs.text.labels_fit.Given as goal

abbrev pub invariant-bytes : goal.invariant-bytes
invariant-bytes l = record { goes_on : labels_fit l.len (drop l.byte-index l.text) ≡ labels_fit 0 l.text; short : l.len ≤ 63 }
