use Rattle.std.proofs.Common.{take}
use Rattle.std.specs.Prelude.{map}
use Rattle.script_model.specs.Lines as lines
use Rattle.device_calls.specs.Printing.{Prints}
use Rattle.text_works.proofs.heads.say_interfaces.Given as goal

abbrev pub invariant-loop-spec : goal.invariant-loop-spec
invariant-loop-spec l = Prints l.fn.text.items l.text.items (map lines.Interface (take l.spec-index l.ifaces))
