-- How far an address was probed (RFC 5227, section 2.1.1), kept turn by turn. Moments are in milliseconds since 1970.
use Rattle.std.specs.Prelude.{ℕ, ◌+◌, Bool, true, false, ◌&&◌, nat_le, if◌then◌else◌, List, [], ◌∷◌, Option, Some, None}
use Rattle.net_types.specs.declared.address.Ip4.{Ip4}
use Rattle.audit_words.specs.EvidenceWords.Entries.{Entry}
use Rattle.audit_words.specs.EvidenceWords.Inputs.{Site, offers_at, contests}
use Rattle.audit_words.specs.EvidenceWords.Probed.{probe_taken}
use Rattle.probe_table.specs.declared.times.ProbeTimes.{ProbeTimes}
use Rattle.probe_table.specs.declared.times.ProbeTurn.{ProbeTurn}

-- a test of a turn, seen the turns before it
abbrev pub TurnTest : Type 0
TurnTest = Entry → List Entry → Bool

-- the earlier one of two moments
abbrev pub earlier_of : Option ℕ → Option ℕ → Option ℕ
earlier_of None other = other
earlier_of (Some one) None = Some one
earlier_of (Some one) (Some other) = Some (if nat_le one other then one else other)

-- a moment, if it counts
abbrev pub only_if : Bool → Option ℕ → Option ℕ
only_if true moment = moment
only_if false moment = None

-- whether a moment is so long ago
abbrev pub is_past : (wait : ℕ) → (moment : Option ℕ) → (now : ℕ) → Bool
is_past wait None now = false
is_past wait (Some moment) now = nat_le (moment + wait) now

abbrev pub no_probes : ProbeTimes
no_probes = record { first = None; second = None; third = None }

-- what a turn is to an address, where it is told whether what was probed before still counts
abbrev pub turn_to : (calm : Bool) → Site → Ip4 → Entry → ProbeTurn
turn_to calm site addr e = record {
  moment = e.moment;
  contested = contests site addr e;
  calm = calm;
  probed = probe_taken site addr (offers_at site e);
}

-- the same by a test of the turn
abbrev pub probe_turn : (calm : TurnTest) → Site → Ip4 → Entry → (past : List Entry) → ProbeTurn
probe_turn calm site addr e past = turn_to (calm e past) site addr e

-- the moment of a last probe after a turn, which may be ready for one
abbrev pub last_probe : ProbeTurn → (ready : Bool) → (before : Option ℕ) → Option ℕ
last_probe turn ready before =
    if turn.contested
    then None
    else earlier_of (only_if turn.calm before) (only_if (turn.probed && ready) (Some turn.moment))

-- a further probe comes a second or more after the one before it
abbrev pub times_after : ProbeTurn → ProbeTimes → ProbeTimes
times_after turn times = record {
  first = last_probe turn true times.first;
  second = last_probe turn (turn.calm && is_past 1000 times.first turn.moment) times.second;
  third = last_probe turn (turn.calm && is_past 1000 times.second turn.moment) times.third;
}

abbrev pub times_in : (calm : TurnTest) → Site → Ip4 → List Entry → ProbeTimes
times_in calm site addr [] = no_probes
times_in calm site addr (e ∷ past) = times_after (probe_turn calm site addr e past) (times_in calm site addr past)
