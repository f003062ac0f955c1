-- Sets of places of interfaces.
use Rattle.std.specs.Prelude.{ℕ, Bool, ◌==◌, ◌||◌, nat_le}
use Rattle.std.specs.Int.{bit_at}
use Rattle.client_core.specs.declared.places.Places.{Places}

abbrev pub no_places : Places
no_places = record { bits = 0 }

-- whether a set has a place; each has those from 64 on
abbrev pub has : Places → ℕ → Bool
has places place = nat_le 64 place || bit_at places.bits place == 1
