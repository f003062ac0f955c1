-- No byte so far is a capital letter, or one is.
use Rattle.std.proofs.Common.{◌≡◌, take}
use Rattle.net_types.specs.HexText.{lacks_capitals}
use Rattle.net_types.proofs.hexadecimal.lacks_capitals.Given as goal

abbrev pub invariant-bytes : goal.invariant-bytes
invariant-bytes l = lacks_capitals (take l.i l.text) ≡ l.good
