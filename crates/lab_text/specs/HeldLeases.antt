-- The leases that a lab's clients hold, as they are kept.
use Rattle.lab_model.specs.LabLines.{LabLine, Lease}
use Rattle.lab_text.specs.declared.leases.Held.{Held}

abbrev pub line_of : Held → LabLine
line_of held = Lease held.iface held.net
