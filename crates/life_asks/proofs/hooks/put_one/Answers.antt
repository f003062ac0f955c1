use Rattle.std.proofs.Common.{◌∙◌}
use Rattle.life_asks.proofs.hooks.put_one.Goals as goal

pub put_named-requires : goal.put_named-requires
put_named-requires c = c.deref.ensures ∙ c.in_ok-name.ensures.ok ∙ c.interface_of.ensures
