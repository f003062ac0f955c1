use Rattle.std.proofs.Common.{[], ◌∷◌, append_assoc}
use Rattle.std.proofs.lemmas.List.{append-nil}
use Rattle.v4_options.specs.Numbers.{addresses}
use Rattle.v4_options.proofs.AddressSteps.{more_addresses, no_addresses}
use Rattle.v4_options.proofs.numbers.addresses.Goals as goal

pub addresses-preserved : goal.addresses-preserved
addresses-preserved c =
    let next = more_addresses c.addresses.rest.now c.addresses-test.true in
    let joined = append_assoc c.addresses.all.items (c.address_at.result ∷ []) (addresses c.split_at.result.1.now) in
    cc (next, joined, c.in_ok-push.ensures.items, c.split_at.ensures.front, c.split_at.ensures.back, c.address_at.ensures, c.addresses.invariant)

pub returns : goal.returns
returns c =
    let none = no_addresses c.addresses.rest.now c.addresses-test.false in
    let whole = append-nil c.addresses.all.items in
    cc (none, whole, c.addresses.invariant)
