use Rattle.std.proofs.Common.{◌∷◌, [], ◌++◌, ◌∙◌, ap}
use Rattle.resolver_text.proofs.LineSteps.{server_ended}
use Rattle.resolver_text.proofs.resolver_lines.add_server.Goals as goal

pub returns : goal.returns
returns c =
    c.in_ok-push_str-3.ensures.bytes
    ∙ ap (λ t. t ++ 10 ∷ []) (c.in_ok-push_str-2.ensures.bytes ∙ ap (λ t. t ++ c.args.server.now) c.in_ok-push_str.ensures.bytes)
    ∙ server_ended _ c.args.server.now
