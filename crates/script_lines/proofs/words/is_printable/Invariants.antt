-- The bytes so far are judged.
use Rattle.std.proofs.Common.{◌≡◌, take}
use Rattle.std.specs.List.{list_all}
use Rattle.net_types.specs.Marks.{is_printable}
use Rattle.script_lines.proofs.words.is_printable.Given as goal

abbrev pub invariant-loop-byte : goal.invariant-loop-byte
invariant-loop-byte l = l.good ≡ list_all is_printable (take l.byte-index l.line)
