-- Whether the choice of a link-local address stands (RFC 3927, sections 2.2.1 and 2.5), kept turn by turn. Moments are
-- in milliseconds since 1970.
use Rattle.std.specs.Prelude.{ℕ, ◌+◌, Bool, true, false, not, ◌&&◌, ◌||◌, ◌==◌, nat_le, if◌then◌else◌, List, [], ◌∷◌, bytes_eq, Option, Some, None, option_and_then}
use Rattle.std.specs.List.{list_any}
use Rattle.net_types.specs.declared.address.Ip4.{Ip4}
use Rattle.net_types.specs.declared.address.Mac.{Mac}
use Rattle.frame_link.specs.Packets.{announcement_text}
use Rattle.world.specs.declared.wakes.Event.{Event}
use Rattle.world.specs.declared.wakes.Event.TheVariants.{Carrier, Release, Stop}
use Rattle.evidence_words.specs.Entries.{Entry}
use Rattle.evidence_words.specs.Inputs.{Site, index_at, offers_at, has_carrier, uses}
use Rattle.probe_table.specs.ProbeTimes.{TurnTest, only_if, is_past, times_in}
use Rattle.probe_table.specs.Targets.{target_in}
use Rattle.probe_table.specs.declared.times.ProbeTimes.{ProbeTimes}
use Rattle.local_judge.specs.declared.choices.Choice.{Choice}
use Rattle.local_judge.specs.declared.choices.ChoiceTurn.{ChoiceTurn}

-- no carrier is taken from an interface that has it, nothing of it is given back, and no stop comes
abbrev pub goes_on : (up : Bool) → ℕ → Event → Bool
goes_on up index (Carrier other now) = not (index == other) || not up || now
goes_on up index (Release other) = not (index == other)
goes_on up index Stop = false
goes_on up index _ = true

-- whether that is so in a turn
abbrev pub is_calm : Site → TurnTest
is_calm site e past = goes_on (has_carrier site past) (index_at site) e.event

-- whether a frame announces another address
abbrev pub announces_other : Mac → Ip4 → List ℕ → Bool
announces_other mac addr bytes =
    bytes_eq bytes (announcement_text mac (target_in bytes)) && not ((target_in bytes).number == addr.number)

abbrev pub is_alone : Site → Ip4 → Entry → Bool
is_alone site addr e = not (list_any (λ o. announces_other site.managed.spec.mac addr o.bytes) (offers_at site e))

-- whether a use comes ten seconds or more after the one before it
abbrev pub is_apart : (before : Option ℕ) → (now : ℕ) → Bool
is_apart None now = true
is_apart (Some moment) now = nat_le (moment + 10000) now

abbrev pub chosen_at : ChoiceTurn → Choice
chosen_at turn = record { since = turn.moment; used = only_if turn.used (Some turn.moment) }

-- one use is defended, two close to each other are not
abbrev pub defended : (now : ℕ) → Choice → Option Choice
defended now choice = if is_apart choice.used now then Some (record { since = choice.since; used = Some now }) else None

abbrev pub kept_choice : ChoiceTurn → Choice → Option Choice
kept_choice turn choice = if turn.used then defended turn.moment choice else Some choice

-- where the choice may begin anew it does, since uses before its fourth turn don't count
abbrev pub choice_after : ChoiceTurn → Option Choice → Option Choice
choice_after turn choice =
    if turn.fits
    then (if turn.fourth then Some (chosen_at turn) else option_and_then (kept_choice turn) choice)
    else None

-- what a turn is to an address, where it is told whether the turn is calm, and how far the address was probed before it
abbrev pub turn_for : (calm : Bool) → Site → Ip4 → Entry → ProbeTimes → ChoiceTurn
turn_for calm site addr e times = record {
  moment = e.moment;
  fits = calm && is_alone site addr e;
  fourth = is_past 2000 times.third e.moment;
  used = uses site addr e;
}

abbrev pub choice_turn : Site → Ip4 → Entry → (past : List Entry) → ChoiceTurn
choice_turn site addr e past =
    turn_for (is_calm site e past) site addr e (times_in (is_calm site) site addr past)

-- the choice of an address, where it stands
abbrev pub choice_in : Site → Ip4 → List Entry → Option Choice
choice_in site addr [] = None
choice_in site addr (e ∷ past) = choice_after (choice_turn site addr e past) (choice_in site addr past)
