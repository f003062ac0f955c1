use Rattle.std.proofs.Common.{map, take}
use Rattle.resolver_text.specs.Keeping.{KeepsOn}
use Rattle.resolver_text.specs.Texts.{server_text}
use Rattle.resolver_text.proofs.texts.Servers.add_part.Given as goal

abbrev pub invariant-loop-server : goal.invariant-loop-server
invariant-loop-server l =
    KeepsOn l.limit (map (server_text l.part.name) (take l.server-index l.part.servers.items))
    l.fn.self l.self
