-- The moment of a stop is below the end of time.
use Rattle.std.proofs.Common.{ℕ, ◌<◌, ◌^◌, Option, Some, None}
use Rattle.world.specs.declared.wakes.Event.{Event}
use Rattle.world.specs.declared.wakes.Event.TheVariants.{Frame, Carrier, Duplicate, Release, Rebind, Stop, Quiet, End}
use Rattle.turn_model.specs.Turns.{stop_after}
use Rattle.daemon.specs.Lives.{IsBelowEnd}

pub stop_below : (stop : Option ℕ) (event : Event) (now : ℕ) → now < 10 ^ 15 → IsBelowEnd stop → IsBelowEnd (stop_after stop event now)
stop_below (Some at) event now below h = h
stop_below None (Frame iface len) now below h = tt
stop_below None (Carrier iface up) now below h = tt
stop_below None (Duplicate iface addr) now below h = tt
stop_below None (Release iface) now below h = tt
stop_below None (Rebind iface) now below h = tt
stop_below None Stop now below h = below
stop_below None Quiet now below h = tt
stop_below None End now below h = tt
