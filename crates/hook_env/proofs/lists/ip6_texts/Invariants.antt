use Rattle.std.proofs.Common.{◌≡◌, map, take}
use Rattle.std.specs.String.{string_bytes}
use Rattle.net_types.specs.AddressText.{ip6_text}
use Rattle.hook_env.proofs.lists.ip6_texts.Given as goal

abbrev pub invariant-loop-ip : goal.invariant-loop-ip
invariant-loop-ip l =
    map (λ text. string_bytes text) l.texts.items ≡ map ip6_text (take l.ip-index l.all)
