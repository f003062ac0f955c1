use Rattle.std.proofs.Common.{◌≡◌, map, take, flat_map}
use Rattle.std.specs.String.{string_bytes}
use Rattle.lease6_text.specs.Leases.{ias_content}
use Rattle.hook_env.specs.Lease6Variables.{ia_addresses}
use Rattle.hook_env.proofs.telling6.addresses_of.Given as goal

abbrev pub invariant-loop-ia : goal.invariant-loop-ia
invariant-loop-ia l =
    map (λ text. string_bytes text) l.texts.items ≡ flat_map ia_addresses (ias_content (take l.ia-index l.ias))
