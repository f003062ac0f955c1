-- Interfaces that count up have unlike numbers.
use Rattle.std.proofs.Common.{ℕ, ◌+◌, ◌<◌, ◌≡◌, false, List, [], ◌∷◌, nat_eq, arith}
use Rattle.std.proofs.lemmas.Bool.Decides.{nat_tests}
use Rattle.std.specs.Prelude.{map}
use Rattle.std.specs.List.{AllByRecursion, IsDistinct}
use Rattle.settings.specs.declared.interfaces.Managed.{Managed}
use Rattle.script_model.specs.Scripts.{CountsFrom}
use Rattle.evidence.specs.Laws.{CountedAreNumbered}
use Rattle.evidence_words.proofs.Offers.{number_of}

unlike : (a first next other : ℕ) → a ≡ first → first < next → other ≡ next → nat_eq a other ≡ false
unlike a first next other e below e2 = grind (arith, nat_tests)

-- all that count from a later number on
later_unlike : (a first next : ℕ) (managed : List Managed) → a ≡ first → first < next → CountsFrom next (map (λ m. m.spec) managed)
    → AllByRecursion (λ number. nat_eq a number ≡ false) (map number_of managed)
later_unlike a first next [] e below counts = tt
later_unlike a first next (m ∷ managed) e below counts =
    (unlike a first next (number_of m) e below counts.0, later_unlike a first (next + 1) managed e (omega arith) counts.3)

pub counted : CountedAreNumbered
unfolding IsDistinct
counted first [] counts = tt
counted first (m ∷ managed) counts =
    (later_unlike (number_of m) first (first + 1) managed counts.0 (omega arith) counts.3, counted (first + 1) managed counts.3)
