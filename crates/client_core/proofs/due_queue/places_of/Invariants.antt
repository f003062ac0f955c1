use Rattle.std.proofs.Common.{ℕ, ◌≡◌, ◌<◌, ◌==◌, take}
use Rattle.std.specs.List.{list_any}
use Rattle.client_core.specs.Due.{place_in}
use Rattle.client_core.specs.Places.{has}
use Rattle.client_core.proofs.due_queue.places_of.Given as goal

abbrev pub invariant-loop-number : goal.invariant-loop-number
invariant-loop-number l = (place : ℕ) → place < 64 → has l.places place ≡ list_any (λ key. place_in key == place) (take l.number-index l.numbers)
