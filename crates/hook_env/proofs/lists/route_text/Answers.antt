use Rattle.std.proofs.Common.{append_assoc, ◌∷◌, []}
use Rattle.net_types.specs.AddressText.{ip4_text, net4_text}
use Rattle.hook_env.proofs.lists.route_text.Goals as goal

pub returns : goal.returns
returns c = rw (append_assoc (net4_text c.args.route.dest) (32 ∷ []) (ip4_text c.args.route.via)) c.format.ensures.ok
