-- What the input of a turn leaves to an interface.
use Rattle.std.specs.Prelude.{ℕ, Bool, true, false, not, ◌&&◌, ◌||◌, ◌==◌}
use Rattle.net_types.specs.declared.address.Net6.{Net6}
use Rattle.world.specs.declared.wakes.Event.{Event}
use Rattle.world.specs.declared.wakes.Event.TheVariants.{Carrier, Release, Stop}

-- whether no carrier is taken from an interface that has it, nothing of it is given back, and no stop comes
abbrev pub stays : (up : Bool) → ℕ → Event → Bool
stays up index (Carrier other now) = now || not (index == other && up)
stays up index (Release other) = not (index == other)
stays up index Stop = false
stays up index _ = true

abbrev pub is_same_net : Net6 → Net6 → Bool
is_same_net one other = (one.ip.number == other.ip.number) && (one.len == other.len)
