use Rattle.std.proofs.Common.{◌≡◌}
use Rattle.std.specs.Prelude.{find}
use Rattle.lab_peer.specs.Hearing.{is_free, lowest_free}
use Rattle.lab_peer.proofs.Lowest.{addresses_to}
use Rattle.lab_peer.proofs.peer.Peer.lowest_free.Given as goal

abbrev pub invariant-addresses : goal.invariant-addresses
invariant-addresses l =
    lowest_free l.fn.mac l.fn.at l.fn.self ≡ find (λ addr. is_free addr l.fn.mac l.fn.at l.fn.self) (addresses_to l.number l.fn.self.pool.high)
