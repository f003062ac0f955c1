-- Whether turns come before the life is over, told one after another.
use Rattle.std.specs.Prelude.{ℕ, ◌-◌, Bool, true, false, not, ◌&&◌, nat_le, max, if◌then◌else◌, List, [], ◌∷◌, Option, Some, None}
use Rattle.world.specs.declared.wakes.Event.{Event}
use Rattle.world.specs.declared.wakes.Wake.{Wake}
use Rattle.world.specs.LinkCalls.{Given}
use Rattle.script_model.specs.Stops.{is_stop, time_after_stop}
use Rattle.script_lines.specs.declared.clock.Clock.{Clock}

abbrev pub clock_at : ℕ → Clock
clock_at at = record { now = at; stop = None }

abbrev pub is_past : ℕ → Option ℕ → Bool
is_past now None = false
is_past now (Some stop) = nat_le time_after_stop (now - stop)

abbrev pub is_over : Clock → Bool
is_over clock = is_past clock.now clock.stop

-- the first stop counts
abbrev pub stop_after : Option ℕ → Event → ℕ → Option ℕ
stop_after (Some stop) event now = Some stop
stop_after None event now = if is_stop event then Some now else None

abbrev pub clock_after : Clock → Wake → Clock
clock_after clock wake =
    record { now = max clock.now wake.at; stop = stop_after clock.stop wake.event (max clock.now wake.at) }

abbrev pub is_in_time : Clock → List Given → Bool
is_in_time clock [] = true
is_in_time clock (given ∷ turns) = not (is_over clock) && is_in_time (clock_after clock given.wake) turns

-- after these turns
abbrev pub clock_through : Clock → List Given → Clock
clock_through clock [] = clock
clock_through clock (given ∷ turns) = clock_through (clock_after clock given.wake) turns
