-- Whether a turn leaves an interface what it has is told by its input.
use Rattle.std.proofs.Common.{◌≡◌, ℕ, Bool, true, false, not, ◌&&◌, ◌||◌, refl}
use Rattle.std.proofs.lemmas.Bool.{eqb-true, eq-eqb}
use Rattle.std.specs.Prelude.{◌==◌}
use Rattle.world.specs.declared.wakes.Event.{Event}
use Rattle.world.specs.declared.wakes.Event.TheVariants.{Frame, Carrier, Duplicate, Release, Rebind, Stop, Quiet, End}
use Rattle.audit_words.specs.EvidenceWords.Inputs.{GoesOn}
use Rattle.kept_judge.specs.Staying.{stays}

not_taken : (now here up : Bool) → (now || not (here && up)) ≡ true → here ≡ true → up ≡ true → now ≡ true
not_taken true here up h is was = refl
not_taken false true true h is was = absurd cc
not_taken false true false h is was = absurd cc
not_taken false false up h is was = absurd cc

isnt_taken : (now here up : Bool) → (here ≡ true → up ≡ true → now ≡ true) → (now || not (here && up)) ≡ true
isnt_taken true here up h = refl
isnt_taken false true true h = h refl refl
isnt_taken false true false h = refl
isnt_taken false false up h = refl

isnt : (b : Bool) → not b ≡ true → b ≡ true → ⊥
isnt true h is = cc
isnt false h is = cc

is_not : (b : Bool) → (b ≡ true → ⊥) → not b ≡ true
is_not true h = absurd (h refl)
is_not false h = refl

pub goes : (up : Bool) (index : ℕ) (event : Event) → stays up index event ≡ true → GoesOn up index event
goes up index (Frame other len) h = tt
goes up index (Carrier other now) h = λ here was. not_taken now (index == other) up h (eq-eqb index other here) was
goes up index (Duplicate other addr) h = tt
goes up index (Release other) h = λ here. isnt (index == other) h (eq-eqb index other here)
goes up index (Rebind other) h = tt
goes up index Stop h = absurd cc
goes up index Quiet h = tt
goes up index End h = tt

pub does_go : (up : Bool) (index : ℕ) (event : Event) → GoesOn up index event → stays up index event ≡ true
does_go up index (Frame other len) h = refl
does_go up index (Carrier other now) h = isnt_taken now (index == other) up (λ here was. h (eqb-true index other here) was)
does_go up index (Duplicate other addr) h = refl
does_go up index (Release other) h = is_not (index == other) (λ here. h (eqb-true index other here))
does_go up index (Rebind other) h = refl
does_go up index Stop h = absurd h
does_go up index Quiet h = refl
does_go up index End h = refl
