-- That turns come before the life is over: told one after another, and said of all wakes.
use Rattle.std.proofs.Common.{◌≡◌, ℕ, suc, ◌+◌, ◌-◌, ◌<◌, ◌≤◌, max, Bool, true, false, not, cond, leb, List, [], ◌∷◌, Option, Some, None, option_map, refl, arith}
use Rattle.std.specs.Prelude.{IfSome, find}
use Rattle.std.specs.List.{AllPairs}
use Rattle.std.proofs.lemmas.Bool.{and_parts, and_from}
use Rattle.std.proofs.lemmas.Bool.Decides.{nat_tests}
use Rattle.std.proofs.lemmas.List.Kept.{AllPairs-cons}
use Rattle.world.specs.declared.wakes.Wake.{Wake}
use Rattle.world.specs.LinkCalls.{Given}
use Rattle.script_model.specs.Stops.{wakes_seen, is_stop, stop_moment, time_after_stop, EndsWhenOver}
use Rattle.script_lines.specs.declared.clock.Clock.{Clock}
use Rattle.script_lines.specs.Clocks.{is_past, clock_at, is_in_time}

-- ---- all wakes but the last come before a moment

abbrev Before : ℕ → Wake → Wake → Type 0
Before moment wake later = wake.at < moment

abbrev OnlyLast : ℕ → List Wake → Type 0
OnlyLast moment [] = Unit {0}
OnlyLast moment (wake ∷ []) = Unit {0}
OnlyLast moment (wake ∷ next ∷ wakes) = (wake.at < moment) × OnlyLast moment (next ∷ wakes)

pairs_from : (moment : ℕ) (wakes : List Wake) → OnlyLast moment wakes → AllPairs (Before moment) wakes
pairs_from moment [] only = λ i j d below within. absurd (omega arith)
pairs_from moment (wake ∷ []) only = λ i j d below within. absurd (omega arith)
pairs_from moment (wake ∷ next ∷ wakes) only =
    AllPairs-cons (Before moment) wake (next ∷ wakes) (λ k d within. only.0) (pairs_from moment (next ∷ wakes) only.1)

pairs_later : (moment : ℕ) (wake : Wake) (wakes : List Wake) → AllPairs (Before moment) (wake ∷ wakes) → AllPairs (Before moment) wakes
pairs_later moment wake wakes pairs = λ i j d below within. pairs (suc i) (suc j) d (omega arith) (omega arith)

pairs_to : (moment : ℕ) (wakes : List Wake) → AllPairs (Before moment) wakes → OnlyLast moment wakes
pairs_to moment [] pairs = tt
pairs_to moment (wake ∷ []) pairs = tt
pairs_to moment (wake ∷ next ∷ wakes) pairs =
    (pairs 0 1 wake (omega arith) (omega arith), pairs_to moment (next ∷ wakes) (pairs_later moment wake (next ∷ wakes) pairs))

-- ---- after a stop

abbrev seen : ℕ → Wake → Wake
seen now wake = record wake { at = max now wake.at }

abbrev stopped : ℕ → ℕ → Clock
stopped stop now = record { now = now; stop = Some stop }

going_on : (stop now : ℕ) → not (leb time_after_stop (now - stop)) ≡ true → now < stop + time_after_stop
going_on stop now e = grind (arith, nat_tests)

still_going : (stop now : ℕ) → now < stop + time_after_stop → not (leb time_after_stop (now - stop)) ≡ true
still_going stop now small = grind (arith, nat_tests)

stopped_sound : (turns : List Given) (stop : ℕ) (last : Wake) → is_in_time (stopped stop last.at) turns ≡ true
    → OnlyLast (stop + time_after_stop) (last ∷ wakes_seen last.at turns)
stopped_sound [] stop last e = tt
stopped_sound (given ∷ turns) stop last e =
    let parts = and_parts (not (is_past last.at (Some stop))) _ e in
    (going_on stop last.at parts.0, stopped_sound turns stop (seen last.at given.wake) parts.1)

stopped_whole : (turns : List Given) (stop : ℕ) (last : Wake) → OnlyLast (stop + time_after_stop) (last ∷ wakes_seen last.at turns)
    → is_in_time (stopped stop last.at) turns ≡ true
stopped_whole [] stop last only = refl
stopped_whole (given ∷ turns) stop last only =
    and_from _ _ (still_going stop last.at only.0) (stopped_whole turns stop (seen last.at given.wake) only.1)

-- ---- before a stop

abbrev first_stop : Bool → Wake → List Wake → Option ℕ
first_stop here wake wakes = option_map (λ w. w.at) (cond here (Some wake) (find (λ w. is_stop w.event) wakes))

-- the stop isn't before the moment from which the wakes are seen
stop_later : (turns : List Given) (now : ℕ) → IfSome (stop_moment (wakes_seen now turns)) (λ stop. now ≤ stop)
stop_later [] now = tt
stop_later (given ∷ turns) now = of_test (stop_later turns (max now given.wake.at)) (is_stop given.wake.event)
  where
    later : (o : Option ℕ) → IfSome o (λ stop. max now given.wake.at ≤ stop) → IfSome o (λ stop. now ≤ stop)
    later None fits = tt
    later (Some stop) fits = omega arith

    of_test : IfSome (stop_moment (wakes_seen (max now given.wake.at) turns)) (λ stop. max now given.wake.at ≤ stop) → (here : Bool)
        → IfSome (first_stop here (seen now given.wake) (wakes_seen (max now given.wake.at) turns)) (λ stop. now ≤ stop)
    of_test others true = omega arith
    of_test others false = later (stop_moment (wakes_seen (max now given.wake.at) turns)) others

abbrev AreInTime : List Wake → Option ℕ → Type 0
AreInTime wakes stop = IfSome stop (λ s. AllPairs (Before (s + time_after_stop)) wakes)

earlier_too : (wake : Wake) (wakes : List Wake) (stop : Option ℕ) → IfSome stop (λ s. wake.at ≤ s) → AreInTime wakes stop → AreInTime (wake ∷ wakes) stop
earlier_too wake wakes None later pairs = tt
earlier_too wake wakes (Some stop) later pairs = AllPairs-cons (Before (stop + time_after_stop)) wake wakes (λ k d within. omega arith) pairs

without_first : (wake : Wake) (wakes : List Wake) (stop : Option ℕ) → AreInTime (wake ∷ wakes) stop → AreInTime wakes stop
without_first wake wakes None pairs = tt
without_first wake wakes (Some stop) pairs = pairs_later (stop + time_after_stop) wake wakes pairs

pub in_time_sound : (turns : List Given) (now : ℕ) → is_in_time (clock_at now) turns ≡ true → EndsWhenOver (wakes_seen now turns)
in_time_sound [] now e = tt
in_time_sound (given ∷ turns) now e = of_test (in_time_sound turns (max now given.wake.at)) (is_stop given.wake.event) e
  where
    wake : Wake
    wake = seen now given.wake

    of_test : (is_in_time (clock_at wake.at) turns ≡ true → EndsWhenOver (wakes_seen wake.at turns)) → (here : Bool)
        → is_in_time (record { now = wake.at; stop = cond here (Some wake.at) None }) turns ≡ true
        → AreInTime (wake ∷ wakes_seen wake.at turns) (first_stop here wake (wakes_seen wake.at turns))
    of_test others true q = pairs_from (wake.at + time_after_stop) (wake ∷ wakes_seen wake.at turns) (stopped_sound turns wake.at wake q)
    of_test others false q =
        earlier_too wake (wakes_seen wake.at turns) (stop_moment (wakes_seen wake.at turns)) (stop_later turns wake.at) (others q)

pub in_time_whole : (turns : List Given) (now : ℕ) → EndsWhenOver (wakes_seen now turns) → is_in_time (clock_at now) turns ≡ true
in_time_whole [] now over = refl
in_time_whole (given ∷ turns) now over = of_test (in_time_whole turns (max now given.wake.at)) (is_stop given.wake.event) over
  where
    wake : Wake
    wake = seen now given.wake

    of_test : (EndsWhenOver (wakes_seen wake.at turns) → is_in_time (clock_at wake.at) turns ≡ true) → (here : Bool)
        → AreInTime (wake ∷ wakes_seen wake.at turns) (first_stop here wake (wakes_seen wake.at turns))
        → is_in_time (record { now = wake.at; stop = cond here (Some wake.at) None }) turns ≡ true
    of_test others true pairs = stopped_whole turns wake.at wake (pairs_to (wake.at + time_after_stop) (wake ∷ wakes_seen wake.at turns) pairs)
    of_test others false pairs = others (without_first wake (wakes_seen wake.at turns) (stop_moment (wakes_seen wake.at turns)) pairs)
