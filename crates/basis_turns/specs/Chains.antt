-- Which turns are kept of an address that is probed (RFC 5227, section 2.1.1). Moments are in milliseconds since 1970.
use Rattle.std.specs.Prelude.{ℕ, Bool, true, false, ◌&&◌, ◌==◌, if◌then◌else◌, List, [], ◌∷◌, length, Option, Some, None}
use Rattle.net_types.specs.declared.address.Ip4.{Ip4}
use Rattle.evidence_words.specs.Entries.{Entry}
use Rattle.evidence_words.specs.Inputs.{Site}
use Rattle.probe_table.specs.ProbeTimes.{TurnTest, is_past, times_in}
use Rattle.probe_table.specs.declared.times.ProbeTimes.{ProbeTimes}
use Rattle.basis_turns.specs.declared.probes.ProbeChain.{ProbeChain}
use Rattle.basis_turns.specs.declared.probes.ProbedTurns.{ProbedTurns}
use Rattle.basis_turns.specs.declared.probes.ThreeProbes.{ThreeProbes}
use Rattle.basis_turns.specs.declared.probes.TwoProbes.{TwoProbes}

abbrev pub is_same : Option ℕ → Option ℕ → Bool
is_same None None = true
is_same None (Some other) = false
is_same (Some one) None = false
is_same (Some one) (Some other) = one == other

-- whether the last probe after a turn is the one before it: what was probed counts on, and the moment is the same
abbrev pub stays : (calm : Bool) → (before after : Option ℕ) → Bool
stays calm before after = calm && is_same before after

abbrev pub no_chain : ProbeChain
no_chain = record {
  one = 0;
  two = record { first = 0; second = 0 };
  three = record { first = 0; second = 0; third = 0 };
}

-- else it is one more probe, behind those that counted before it
abbrev pub one_after : (number : ℕ) → (stays : Bool) → ProbeChain → ℕ
one_after number stays chain = if stays then chain.one else number

abbrev pub two_after : (number : ℕ) → (stays : Bool) → ProbeChain → TwoProbes
two_after number stays chain = if stays then chain.two else record { first = chain.one; second = number }

abbrev pub three_after : (number : ℕ) → (stays : Bool) → ProbeChain → ThreeProbes
three_after number stays chain =
    if stays then chain.three else record { first = chain.two.first; second = chain.two.second; third = number }

-- after the turn of a number, by how far the address was probed before it and after it
abbrev pub chain_after : (number : ℕ) → (calm : Bool) → (before after : ProbeTimes) → ProbeChain → ProbeChain
chain_after number calm before after chain = record {
  one = one_after number (stays calm before.first after.first) chain;
  two = two_after number (stays calm before.second after.second) chain;
  three = three_after number (stays calm before.third after.third) chain;
}

abbrev pub chain_in : (calm : TurnTest) → Site → Ip4 → List Entry → ProbeChain
chain_in calm site addr [] = no_chain
chain_in calm site addr (e ∷ past) =
    chain_after (length past) (calm e past) (times_in calm site addr past) (times_in calm site addr (e ∷ past))
    (chain_in calm site addr past)

-- ---- the fourth turn

-- The earliest one counts.
abbrev pub fourth_of : (number : ℕ) → (ready : Bool) → ThreeProbes → Option ProbedTurns → Option ProbedTurns
fourth_of number ready probes (Some turns) = Some turns
fourth_of number ready probes None = if ready then Some (record { probes = probes; fourth = number }) else None

-- after the turn of a number, whether it is calm and whether it comes two seconds or more after a third probe
abbrev pub fourth_after : (number : ℕ) → (calm ready : Bool) → ThreeProbes → Option ProbedTurns → Option ProbedTurns
fourth_after number calm ready probes found = if calm then fourth_of number ready probes found else None

abbrev pub probed_turns_in : (calm : TurnTest) → Site → Ip4 → List Entry → Option ProbedTurns
probed_turns_in calm site addr [] = None
probed_turns_in calm site addr (e ∷ past) =
    fourth_after (length past) (calm e past) (is_past 2000 (times_in calm site addr past).third e.moment)
    (chain_in calm site addr past).three (probed_turns_in calm site addr past)
