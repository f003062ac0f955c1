use Rattle.std.proofs.Common.{map, take, flat_map, []}
use Rattle.resolver_text.specs.Keeping.{KeepsOn}
use Rattle.resolver_text.specs.Parts.{part_content}
use Rattle.resolver_text.specs.Texts.{part_servers}
use Rattle.resolver_text.proofs.texts.first_servers.Given as goal

abbrev pub invariant-loop-part : goal.invariant-loop-part
invariant-loop-part l =
    KeepsOn l.limit (flat_map part_servers (map (λ p. part_content p.now) (take l.part-index l.parts))) [] l.servers
