-- How the writing of a text of the program's own ends.
use Rattle.std.specs.Prelude.{ℕ, List, Option}
use Rattle.daemon.specs.Streams.{WritesBytes}
use Rattle.dhcpcd.specs.TextWorks.Statuses.{StopsWriting}
use Rattle.dhcpcd.specs.TextWorks.declared.status.Status.{Status}
use Rattle.dhcpcd.specs.TextWorks.declared.status.Status.TheVariants as status

-- done means that the whole text was appended, where the output is told
abbrev pub IsTold : Status → Option (List ℕ) → Option (List ℕ) → List ℕ → Type 0
IsTold status.Done old new text = WritesBytes old new text
IsTold other old new text = StopsWriting other
