-- When a life that is stopped is over: so long after its first stop.
use Rattle.std.specs.Prelude.{ℕ, ◌+◌, ◌<◌, Bool, true, false, max, List, [], ◌∷◌, find, Option, option_map, IfSome, AllPairs}
use Rattle.world.specs.declared.wakes.Event.{Event}
use Rattle.world.specs.declared.wakes.Event.TheVariants.{Stop}
use Rattle.world.specs.declared.wakes.Wake.{Wake}
use Rattle.world.specs.LinkCalls.{Given}

-- the wakes of turns as the life sees them: no moment is before an earlier one
abbrev pub wakes_seen : ℕ → List Given → List Wake
wakes_seen now [] = []
wakes_seen now (given ∷ turns) =
    record given.wake { at = max now given.wake.at } ∷ wakes_seen (max now given.wake.at) turns

abbrev pub is_stop : Event → Bool
is_stop Stop = true
is_stop event = false

-- the moment of the first stop
abbrev pub stop_moment : List Wake → Option ℕ
stop_moment wakes = option_map (λ wake. wake.at) (find (λ wake. is_stop wake.event) wakes)

-- for so many milliseconds a life goes on after its stop
abbrev pub time_after_stop : ℕ
time_after_stop = 5000

-- No wake comes once the life is over: only the last one is so long after the stop.
abbrev pub EndsWhenOver : List Wake → Type 0
EndsWhenOver wakes =
    IfSome (stop_moment wakes) (λ stop. AllPairs (λ wake later. wake.at < stop + time_after_stop) wakes)
