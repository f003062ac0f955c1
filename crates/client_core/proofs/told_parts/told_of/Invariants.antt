use Rattle.std.proofs.Common.{◌≡◌, take}
use Rattle.resolver_text.specs.Parts.{parts_content}
use Rattle.client_core.specs.ToldParts.{all_told}
use Rattle.client_core.proofs.told_parts.told_of.Given as goal

abbrev pub invariant-loop-iface : goal.invariant-loop-iface
invariant-loop-iface l = parts_content l.parts.items ≡ all_told (take l.iface-index l.ifaces)
