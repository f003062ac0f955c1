use Rattle.std.proofs.Common.{◌≡◌, ◌++◌, map, take, flat_map}
use Rattle.std.specs.String.{string_bytes}
use Rattle.hook_env.specs.Lists.{after_blank}
use Rattle.hook_env.proofs.lists.add_others.Given as goal

abbrev pub invariant-loop-text : goal.invariant-loop-text
invariant-loop-text l =
    string_bytes l.list ≡ string_bytes l.fn.list ++ flat_map after_blank (map (λ text. string_bytes text) (take l.text-index l.texts))
