use Rattle.std.proofs.Common.{◌≡◌, ◌++◌, map, take}
use Rattle.std.specs.String.{string_bytes}
use Rattle.net_types.specs.TextLines.{lines_text}
use Rattle.resolver_text.specs.ResolverText.{server_line}
use Rattle.resolver_text.proofs.resolver_lines.add_servers.Given as goal

abbrev pub invariant-loop-server : goal.invariant-loop-server
invariant-loop-server l =
    string_bytes l.text ≡ string_bytes l.fn.text ++ lines_text (map server_line (map (λ server. string_bytes server) (take l.server-index l.servers)))
