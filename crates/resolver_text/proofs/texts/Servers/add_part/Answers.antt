use Rattle.std.proofs.Common.{arith, map}
use Rattle.resolver_text.specs.Texts.{server_text}
use Rattle.resolver_text.proofs.KeptTexts.{mapped_parted, reads_no_more}
use Rattle.resolver_text.proofs.texts.Servers.add_part.Goals as goal

pub returns-then-len-limit : goal.returns-then-len-limit
returns-then-len-limit c =
    reads_no_more (λ xs. map (server_text c.args.part.now.name) xs) (mapped_parted (server_text c.args.part.now.name))
    c.args.limit c.args.part.now.servers.items c.loop-server.server-index _ _ c.loop-server.invariant
    (omega (arith, c.if-len-limit.true, c.len.ensures))
