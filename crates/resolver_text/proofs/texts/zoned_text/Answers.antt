use Rattle.std.proofs.Common.{append_assoc, ◌∷◌, []}
use Rattle.net_types.specs.AddressText.{ip6_text}
use Rattle.net_types.specs.NameText.{name_text}
use Rattle.resolver_text.proofs.texts.zoned_text.Goals as goal

pub returns : goal.returns
returns c = rw (append_assoc (ip6_text c.args.ip) (37 ∷ []) (name_text c.args.name)) c.format.ensures.ok
