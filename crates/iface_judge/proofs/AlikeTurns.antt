-- Turns after which the same link-local addresses stand stay so, and one that doesn't concern the interface may be left out.
use Rattle.std.proofs.Common.{◌≡◌, ℕ, ◌<◌, ◌^◌, Bool, true, false, not, ◌&&◌, if◌then◌else◌, List, ◌∷◌, Option, Some, None, option_and_then, refl, sym, ap, ◌∙◌, arith}
use Rattle.std.specs.Prelude.{◌==◌}
use Rattle.std.specs.List.{list_any}
use Rattle.std.specs.Option.{is_none, is_some}
use Rattle.net_types.specs.AddressText.{FitsIp4}
use Rattle.net_types.specs.declared.address.Ip4.{Ip4}
use Rattle.net_types.specs.declared.address.Net.{Net}
use Rattle.net_types.specs.declared.address.Net.TheVariants.{V4, V6}
use Rattle.evidence_words.specs.Entries.{Entry, Offer}
use Rattle.evidence_words.specs.Inputs.{Site, carrier_after, has_carrier, index_at, uses}
use Rattle.static_judge.specs.ProbeTables.ProbeTimes.{is_past, only_if, times_after, times_in, turn_to}
use Rattle.static_judge.specs.ProbeTables.declared.times.ProbeTimes.{ProbeTimes}
use Rattle.lease_judge.specs.LocalJudges.Choices.{announces_other, choice_after, choice_in, choice_turn, defended, goes_on, is_alone, is_apart, is_calm, kept_choice, turn_for}
use Rattle.lease_judge.specs.LocalJudges.Judge.{gives_in, in_range}
use Rattle.lease_judge.specs.LocalJudges.Settled.{IsSettled, is_unused}
use Rattle.lease_judge.specs.LocalJudges.declared.choices.Choice.{Choice}
use Rattle.lease_judge.specs.LocalJudges.declared.choices.ChoiceTurn.{ChoiceTurn}
use Rattle.lease_judge.proofs.LocalJudges.Telling.{if_in_range, in_bounds}
use Rattle.audit_seats.specs.Concern.{concerns}
use Rattle.iface_judge.specs.Telling.{AreAlike, use_of}
use Rattle.iface_judge.proofs.IdleTurns.{carrier_kept, local_goes_on, no_input, no_offers, not_used, times_kept}

-- ---- a choice, but for the turn since which it stands

some_by_use : (choice : Option Choice) → is_some (use_of choice) ≡ is_some choice
some_by_use None = refl
some_by_use (Some choice) = refl

unused_by_use : (choice : Option Choice) → is_unused choice ≡ true → use_of choice ≡ Some None
unused_by_use None unused = absurd cc
unused_by_use (Some choice) unused = ap Some (none_of choice.used unused)
  where
    none_of : (used : Option ℕ) → is_none used ≡ true → used ≡ None
    none_of None none = refl
    none_of (Some moment) none = absurd cc

-- what is left of a choice in a turn that isn't its fourth, by when the address was used
abbrev use_next : (used : Bool) → (now : ℕ) → (before : Option ℕ) → Option (Option ℕ)
use_next used now before = if used then (if is_apart before now then Some (Some now) else None) else Some before

use_kept : (used : Bool) (now : ℕ) (choice : Choice) → use_of (if used then defended now choice else Some choice) ≡ use_next used now choice.used
use_kept false now choice = refl
use_kept true now choice = at (is_apart choice.used now)
  where
    at : (apart : Bool) → use_of (if apart then Some (record { since = choice.since; used = Some now }) else None) ≡ (if apart then Some (Some now) else None)
    at true = refl
    at false = refl

same_some : {X : Type 0} (x y : X) → Some x ≡ Some y → x ≡ y
same_some x y e = cc

kept_alike : (turn : ChoiceTurn) (one other : Option Choice) → use_of one ≡ use_of other
    → use_of (option_and_then (kept_choice turn) one) ≡ use_of (option_and_then (kept_choice turn) other)
kept_alike turn None None same = refl
kept_alike turn None (Some other) same = absurd cc
kept_alike turn (Some one) None same = absurd cc
kept_alike turn (Some one) (Some other) same =
    use_kept turn.used turn.moment one
    ∙ ap (λ (used : Option ℕ). use_next turn.used turn.moment used) (same_some one.used other.used same)
    ∙ sym (use_kept turn.used turn.moment other)

through : (fits fourth : Bool) (fresh one other : Option Choice) → use_of one ≡ use_of other
    → use_of (if fits then (if fourth then fresh else one) else None) ≡ use_of (if fits then (if fourth then fresh else other) else None)
through true true fresh one other same = refl
through true false fresh one other same = same
through false fourth fresh one other same = refl

after_alike : (turn : ChoiceTurn) (one other : Option Choice) → use_of one ≡ use_of other
    → use_of (choice_after turn one) ≡ use_of (choice_after turn other)
after_alike turn one other same = through turn.fits turn.fourth _ _ _ (kept_alike turn one other same)

-- a turn without a use leaves when the address was used, where its fourth turn may come in a choice without a use alone
module _ (one other : Option Choice) (same : use_of one ≡ use_of other) (now : ℕ) where
  kept_on : (choice : Option Choice) → use_of choice ≡ use_of (option_and_then (λ c. if false then defended now c else Some c) choice)
  kept_on None = refl
  kept_on (Some choice) = refl

  idle_use : (fits fourth used : Bool) → fits ≡ true → used ≡ false → (fourth ≡ true → is_unused one ≡ true)
      → use_of one
      ≡ use_of
      (if fits
      then (if fourth
      then Some (record { since = now; used = only_if used (Some now) })
      else option_and_then (λ c. if used then defended now c else Some c) other)
      else None)
  idle_use false fourth used fits none_used unused = absurd cc
  idle_use true fourth true fits none_used unused = absurd cc
  idle_use true true false fits none_used unused = unused_by_use one (unused refl)
  idle_use true false false fits none_used unused = same ∙ kept_on other

-- ---- turns

module _ (site : Site) (one other : List Entry) (alike : AreAlike site one other) where
  turn_same : (e : Entry) (addr : Ip4) → choice_turn site addr e one ≡ choice_turn site addr e other
  turn_same e addr =
      ap (λ (up : Bool). turn_for (goes_on up (index_at site) e.event) site addr e (times_in (is_calm site) site addr one)) alike.up
      ∙ ap (λ (times : ProbeTimes). turn_for (goes_on (has_carrier site other) (index_at site) e.event) site addr e times) (alike.times addr)

  pub alike_on : (e : Entry) → AreAlike site (e ∷ one) (e ∷ other)
  alike_on e = record {
    up = ap (carrier_after (index_at site) e.event) alike.up;
    times = λ addr.
        ap (λ (up : Bool). times_after (turn_to (goes_on up (index_at site) e.event) site addr e) (times_in (is_calm site) site addr one)) alike.up
        ∙ ap (λ (times : ProbeTimes). times_after (turn_to (goes_on (has_carrier site other) (index_at site) e.event) site addr e) times) (alike.times addr);
    uses = λ addr fits.
        after_alike (choice_turn site addr e one) (choice_in site addr one) (choice_in site addr other) (alike.uses addr fits)
        ∙ ap (λ (turn : ChoiceTurn). use_of (choice_after turn (choice_in site addr other))) (turn_same e addr);
  }

  pub gives_alike : (net : Net) → gives_in site net one ≡ gives_in site net other
  gives_alike (V4 net) =
      if_in_range (net.len == 16) (in_range net.ip) (is_some (choice_in site net.ip one)) (is_some (choice_in site net.ip other))
      (λ range.
      sym (some_by_use (choice_in site net.ip one)) ∙ ap is_some (alike.uses net.ip (in_bounds net.ip range))
      ∙ some_by_use (choice_in site net.ip other))
  gives_alike (V6 net) = refl

  module _ (e : Entry) (idle : concerns (index_at site) e ≡ false) (settled : IsSettled site one) (moment : e.moment < 2 ^ 64) where
    calm : is_calm site e other ≡ true
    calm = local_goes_on (has_carrier site other) (index_at site) e.event (no_input site e idle)

    fits_turn : (addr : Ip4) → (is_calm site e other && is_alone site addr e) ≡ true
    fits_turn addr =
        ap (λ (b : Bool). b && is_alone site addr e) calm
        ∙ ap (λ (offers : List Offer). not (list_any (λ o. announces_other site.managed.spec.mac addr o.bytes) offers)) (no_offers site e idle)

    pub alike_idle : AreAlike site one (e ∷ other)
    alike_idle = record {
      up = alike.up ∙ sym (carrier_kept (index_at site) e.event (has_carrier site other) (no_input site e idle));
      times = λ addr. alike.times addr ∙ sym (times_kept site e idle (is_calm site) other calm addr);
      uses = λ addr fits.
          idle_use (choice_in site addr one) (choice_in site addr other) (alike.uses addr fits) e.moment (is_calm site e other && is_alone site addr e)
          (is_past 2000 (times_in (is_calm site) site addr other).third e.moment) (uses site addr e) (fits_turn addr) (not_used site e idle addr)
          (λ fourth.
          settled addr fits e.moment moment (ap (λ (times : ProbeTimes). is_past 2000 times.third e.moment) (alike.times addr) ∙ fourth));
    }
