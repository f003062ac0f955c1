-- The test of calm inputs tells them.
use Rattle.std.proofs.Common.{◌≡◌, ℕ, Bool, true, false, not, ◌||◌, refl, arith}
use Rattle.std.proofs.lemmas.Bool.Decides.{nat_tests}
use Rattle.std.specs.Prelude.{◌==◌, List}
use Rattle.world.specs.declared.wakes.Event.{Event}
use Rattle.world.specs.declared.wakes.Event.TheVariants.{Frame, Carrier, Duplicate, Release, Rebind, Stop, Quiet, End}
use Rattle.evidence_words.specs.Entries.{Entry}
use Rattle.evidence_words.specs.Inputs.{Site, index_at, has_carrier, GoesOn, StaysOn}
use Rattle.evidence_words.specs.Probed.{TurnWord}
use Rattle.probe_table.specs.ProbeTimes.{TurnTest}
use Rattle.local_judge.specs.Choices.{goes_on, is_calm}

-- a test tells a word
pub record Tells (test : TurnTest) (C : TurnWord) : Type 0 where
  pub yes : (e : Entry) (past : List Entry) → test e past ≡ true → C e past
  pub no : (e : Entry) (past : List Entry) → C e past → test e past ≡ true

alike : (a b : ℕ) → a ≡ b → (a == b) ≡ true
alike a b e = grind (arith, nat_tests)

same : (a b : ℕ) → (a == b) ≡ true → a ≡ b
same a b e = grind (arith, nat_tests)

-- a change of the carrier: whether it is of this interface, whether it had carrier, and whether it has
not_lost : (here up now : Bool) → (not here || not up || now) ≡ true → here ≡ true → up ≡ true → now ≡ true
not_lost true true now h is was = h
not_lost true false now h is was = absurd cc
not_lost false up now h is was = absurd cc

is_not_lost : (here up now : Bool) → (here ≡ true → up ≡ true → now ≡ true) → (not here || not up || now) ≡ true
is_not_lost true true now h = h refl refl
is_not_lost true false now h = refl
is_not_lost false up now h = refl

elsewhere : (here : Bool) → not here ≡ true → here ≡ true → ⊥
elsewhere true h is = cc
elsewhere false h is = cc

is_elsewhere : (here : Bool) → (here ≡ true → ⊥) → not here ≡ true
is_elsewhere true h = absurd (h refl)
is_elsewhere false h = refl

goes : (up : Bool) (index : ℕ) (event : Event) → goes_on up index event ≡ true → GoesOn up index event
goes up index (Frame other len) h = tt
goes up index (Carrier other now) h = λ here was. not_lost (index == other) up now h (alike index other here) was
goes up index (Duplicate other addr) h = tt
goes up index (Release other) h = λ here. elsewhere (index == other) h (alike index other here)
goes up index (Rebind other) h = tt
goes up index Stop h = absurd cc
goes up index Quiet h = tt
goes up index End h = tt

tested : (up : Bool) (index : ℕ) (event : Event) → GoesOn up index event → goes_on up index event ≡ true
tested up index (Frame other len) h = refl
tested up index (Carrier other now) h = is_not_lost (index == other) up now (λ here was. h (same index other here) was)
tested up index (Duplicate other addr) h = refl
tested up index (Release other) h = is_elsewhere (index == other) (λ here. h (same index other here))
tested up index (Rebind other) h = refl
tested up index Stop h = absurd h
tested up index Quiet h = refl
tested up index End h = refl

pub calm_tells : (site : Site) → Tells (is_calm site) (StaysOn site)
calm_tells site = record {
  yes = λ e past h. goes (has_carrier site past) (index_at site) e.event h;
  no = λ e past h. tested (has_carrier site past) (index_at site) e.event h;
}
