use Rattle.std.proofs.Common.{◌≡◌, map, take}
use Rattle.std.specs.String.{string_bytes}
use Rattle.hook_env.specs.Lists.{route_text}
use Rattle.hook_env.proofs.lists.route_texts.Given as goal

abbrev pub invariant-loop-route : goal.invariant-loop-route
invariant-loop-route l =
    map (λ text. string_bytes text) l.texts.items ≡ map route_text (take l.route-index l.routes)
