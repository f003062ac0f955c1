-- The moments that are kept tell how far an address was probed.
use Rattle.std.proofs.Common.{◌≡◌, ℕ, suc, ◌+◌, Bool, true, false, ◌&&◌, inl, inr, if◌then◌else◌, List, [], ◌∷◌, Option, Some, None, refl, ap}
use Rattle.net_types.specs.declared.address.Ip4.{Ip4}
use Rattle.evidence_words.specs.Entries.{Entry}
use Rattle.evidence_words.specs.Inputs.{Site, offers_at, contests, StaysOn}
use Rattle.evidence_words.specs.Probed.{TurnWord, AsProbe, Probes, probe_taken}
use Rattle.local_evidence.specs.LinkLocalBasis.{Anything}
use Rattle.probe_table.specs.ProbeTimes.{TurnTest, earlier_of, only_if, is_past, probe_turn, last_probe, times_after, times_in}
use Rattle.probe_table.specs.declared.times.ProbeTimes.{ProbeTimes}
use Rattle.local_judge.specs.Choices.{is_calm}
use Rattle.local_judge.specs.Laws.{ProbesAreTold}
use Rattle.local_judge.proofs.Moments.{at_most, tested, either_past, one_past, other_past, counted, counts, both, parts}
use Rattle.local_judge.proofs.Calmness.{Tells, calm_tells}

module _ (C : TurnWord) (calm : TurnTest) (tells : Tells calm C) (site : Site) (addr : Ip4) where
  abbrev probed : Entry → Bool
  probed e = probe_taken site addr (offers_at site e)

  -- the moment that is kept, by the test of what a turn is ready for
  abbrev kept : (ready : TurnTest) → List Entry → Option ℕ
  kept ready [] = None
  kept ready (e ∷ past) = last_probe (probe_turn calm site addr e past) (ready e past) (kept ready past)

  -- a turn in which one more probe may follow so many
  record Ready (count : ℕ) (e : Entry) (past : List Entry) : Type 0 where
    as_probe : AsProbe C Anything count e past
    before : Probes C Anything site addr count 1000 e.moment past

  record TellsReady (ready : TurnTest) (count : ℕ) : Type 0 where
    yes : (e : Entry) (past : List Entry) → ready e past ≡ true → Ready count e past
    no : (e : Entry) (past : List Entry) → Ready count e past → ready e past ≡ true

  module _ (ready : TurnTest) (count : ℕ) (tell : TellsReady ready count) (wait now : ℕ) where
    abbrev IsPast : List Entry → Type 0
    IsPast past = is_past wait (kept ready past) now ≡ true

    abbrev AreProbed : List Entry → Type 0
    AreProbed past = Probes C Anything site addr (suc count) wait now past

    abbrev older : Entry → List Entry → Option ℕ
    older e past = only_if (calm e past) (kept ready past)

    abbrev newer : Entry → List Entry → Option ℕ
    newer e past = only_if (probed e && ready e past) (Some e.moment)

    to_kept : (past : List Entry) → AreProbed past → IsPast past
    to_kept [] h = absurd h
    to_kept (e ∷ past) h = elim h [
      | inl q ↦ rw q.1 (other_past wait now (older e past) (newer e past)
          (counts (probed e && ready e past) wait now (Some e.moment)
          (both (probed e) (ready e past) q.2 (tell.no e past (record { as_probe = q.0; before = q.4 }))) (tested (e.moment + wait) now q.3)))
      | inr p ↦ rw p.0.1 (one_past wait now (older e past) (newer e past)
          (counts (calm e past) wait now (kept ready past) (tells.no e past p.0.0) (to_kept past p.1)))
    ]

    module _ (e : Entry) (past : List Entry) (calmly : contests site addr e ≡ false) where
      was_before : (IsPast past → AreProbed past) → is_past wait (older e past) now ≡ true → AreProbed (e ∷ past)
      was_before earlier h =
          let c = counted (calm e past) wait now (kept ready past) h in
          inr ((tells.yes e past c.0, calmly), earlier c.1)

      is_now : is_past wait (newer e past) now ≡ true → AreProbed (e ∷ past)
      is_now h =
          let c = counted (probed e && ready e past) wait now (Some e.moment) h in
          let p = parts (probed e) (ready e past) c.0 in
          let r = tell.yes e past p.1 in
          inl (r.as_probe, calmly, p.0, at_most (e.moment + wait) now c.1, r.before)

    from_turn : (e : Entry) (past : List Entry) → (IsPast past → AreProbed past) → (contested : Bool) → contests site addr e ≡ contested
        → is_past wait (if contested then None else earlier_of (older e past) (newer e past)) now ≡ true → AreProbed (e ∷ past)
    from_turn e past earlier true is h = absurd cc
    from_turn e past earlier false is h = elim (either_past wait now (older e past) (newer e past) h) [
      | inl one ↦ was_before e past is earlier one
      | inr other ↦ is_now e past is other
    ]

    from_kept : (past : List Entry) → IsPast past → AreProbed past
    from_kept [] h = absurd cc
    from_kept (e ∷ past) h = from_turn e past (λ k. from_kept past k) (contests site addr e) refl h

  -- ---- one, two and three probes

  abbrev for_one : TurnTest
  for_one e past = true

  abbrev for_next : TurnTest → TurnTest
  for_next ready e past = calm e past && is_past 1000 (kept ready past) e.moment

  one_ready : TellsReady for_one 0
  one_ready = record { yes = λ e past h. record { as_probe = tt; before = tt }; no = λ e past h. refl }

  next_ready : (ready : TurnTest) (count : ℕ) → TellsReady ready count → TellsReady (for_next ready) (suc count)
  next_ready ready count tell = record {
    yes = λ e past h.
        let p = parts (calm e past) (is_past 1000 (kept ready past) e.moment) h in
        record { as_probe = tells.yes e past p.0; before = from_kept ready count tell 1000 e.moment past p.1 };
    no = λ e past r.
        both (calm e past) (is_past 1000 (kept ready past) e.moment) (tells.no e past r.as_probe) (to_kept ready count tell 1000 e.moment past r.before);
  }

  abbrev for_two : TurnTest
  for_two = for_next for_one

  abbrev for_three : TurnTest
  for_three = for_next for_two

  two_ready : TellsReady for_two 1
  two_ready = next_ready for_one 0 one_ready

  three_ready : TellsReady for_three 2
  three_ready = next_ready for_two 1 two_ready

  abbrev all_kept : List Entry → ProbeTimes
  all_kept past = record { first = kept for_one past; second = kept for_two past; third = kept for_three past }

  are_kept : (past : List Entry) → times_in calm site addr past ≡ all_kept past
  are_kept [] = refl
  are_kept (e ∷ past) = ap (times_after (probe_turn calm site addr e past)) (are_kept past)

  -- what a moment tells of so many probes
  pub record Told (past : List Entry) (count wait now : ℕ) (moment : Option ℕ) : Type 0 where
    pub yes : is_past wait moment now ≡ true → Probes C Anything site addr count wait now past
    pub no : Probes C Anything site addr count wait now past → is_past wait moment now ≡ true

  told : (ready : TurnTest) (count : ℕ) → TellsReady ready count → (past : List Entry) (wait now : ℕ) → Told past (suc count) wait now (kept ready past)
  told ready count tell past wait now = record { yes = from_kept ready count tell wait now past; no = to_kept ready count tell wait now past }

  pub one_told : (past : List Entry) (wait now : ℕ) → Told past 1 wait now (times_in calm site addr past).first
  one_told past wait now = rw (are_kept past) (told for_one 0 one_ready past wait now)

  pub two_told : (past : List Entry) (wait now : ℕ) → Told past 2 wait now (times_in calm site addr past).second
  two_told past wait now = rw (are_kept past) (told for_two 1 two_ready past wait now)

  pub three_told : (past : List Entry) (wait now : ℕ) → Told past 3 wait now (times_in calm site addr past).third
  three_told past wait now = rw (are_kept past) (told for_three 2 three_ready past wait now)

pub probes : ProbesAreTold
probes site addr past wait now =
    let one = one_told (StaysOn site) (is_calm site) (calm_tells site) site addr past wait now in
    let two = two_told (StaysOn site) (is_calm site) (calm_tells site) site addr past wait now in
    let three = three_told (StaysOn site) (is_calm site) (calm_tells site) site addr past wait now in
    record {
      first = record { yes = one.yes; no = one.no };
      second = record { yes = two.yes; no = two.no };
      third = record { yes = three.yes; no = three.no };
    }
