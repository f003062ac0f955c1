-- The names so far are appended.
use Rattle.std.proofs.Common.{◌≡◌, ◌++◌, map, take}
use Rattle.std.specs.String.{string_bytes}
use Rattle.transcript_text.specs.LineFields.{names_text}
use Rattle.transcript_text.proofs.appending.append_names.Given as goal

abbrev pub invariant-loop-name : goal.invariant-loop-name
invariant-loop-name l = l.into.items ≡ l.initial.into.items ++ names_text (map string_bytes (take l.name-index l.names))
