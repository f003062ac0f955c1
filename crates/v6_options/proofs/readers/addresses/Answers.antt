use Rattle.std.proofs.Common.{[], ◌∷◌, length, ◌/◌, append_assoc}
use Rattle.v6_options.specs.Readers.{addresses_in}
use Rattle.v6_options.proofs.ReaderSteps.{more_addresses}
use Rattle.v6_options.proofs.readers.addresses.Goals as goal

pub addresses-preserved : goal.addresses-preserved
addresses-preserved c =
    let next = more_addresses c.addresses.rest.now c.addresses-test.true in
    let others = c.split_at.result.1.now in
    let joined = append_assoc c.addresses.all.items (c.ip6_at.result ∷ []) (addresses_in (length others / 16) others) in
    cc (next, joined, c.in_ok-push.ensures.items, c.split_at.ensures.back, c.ip6_at.ensures, c.addresses.invariant)
