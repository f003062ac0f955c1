use Rattle.std.proofs.Common.{◌∙◌, ap, ◌++◌}
use Rattle.net_types.specs.TextLines.{ended}
use Rattle.resolver_text.specs.ResolverText.{server_line}
use Rattle.std.specs.String.{string_bytes}
use Rattle.resolver_text.proofs.LineSteps.{server_more}
use Rattle.resolver_text.proofs.resolver_lines.add_servers.Goals as goal

pub loop-server-preserved : goal.loop-server-preserved
loop-server-preserved c =
    c.in_ok-add_server.ensures ∙ ap (λ t. string_bytes c.loop-server.text ++ ended (server_line t)) c.as_str.ensures.value
    ∙ server_more (λ server. string_bytes server) c.args.servers.now c.loop-server.server-index c.server-item.result c.loop-server-test.true c.server-item.is
    (string_bytes c.args.text.now) (string_bytes c.loop-server.text) c.loop-server.invariant
