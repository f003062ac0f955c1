-- Which turns are kept of a link-local address as they go by (RFC 3927, sections 2.2.1 and 2.5).
use Rattle.std.specs.Prelude.{ℕ, false, if◌then◌else◌, List, [], ◌∷◌, length, Option, Some, None}
use Rattle.std.specs.Option.{option_map}
use Rattle.net_types.specs.declared.address.Ip4.{Ip4}
use Rattle.net_types.specs.declared.address.Net.{Net}
use Rattle.net_types.specs.declared.address.Net.TheVariants.{V4, V6}
use Rattle.evidence_words.specs.Entries.{Entry}
use Rattle.evidence_words.specs.Inputs.{Site}
use Rattle.lease_judge.specs.LocalJudges.Choices.{choice_after, choice_turn, is_calm}
use Rattle.lease_judge.specs.LocalJudges.Judge.{gives_in}
use Rattle.lease_judge.specs.LocalJudges.declared.choices.Choice.{Choice}
use Rattle.lease_judge.specs.LocalJudges.declared.choices.ChoiceTurn.{ChoiceTurn}
use Rattle.basis_turns.specs.Chains.{chain_in}
use Rattle.basis_turns.specs.declared.locals.Standing.{Standing}
use Rattle.basis_turns.specs.declared.probes.ProbedTurns.{ProbedTurns}
use Rattle.basis_turns.specs.declared.probes.ThreeProbes.{ThreeProbes}

abbrev pub standing : ProbedTurns → Choice → Standing
standing turns choice = record { choice = choice; turns = turns }

-- a choice that begins in the turn of a number, behind three probes
abbrev pub begun_in : (number : ℕ) → ThreeProbes → ChoiceTurn → Option Standing
begun_in number probes turn =
    option_map (standing (record { probes = probes; fourth = number })) (choice_after turn None)

abbrev pub no_fourth : ChoiceTurn → ChoiceTurn
no_fourth turn = record { moment = turn.moment; fits = turn.fits; fourth = false; used = turn.used }

-- one that stands, while it does
abbrev pub gone_on : ChoiceTurn → Option Standing → Option Standing
gone_on turn None = None
gone_on turn (Some s) = option_map (standing s.turns) (choice_after (no_fourth turn) (Some s.choice))

abbrev pub first_of : Option Standing → Option Standing → Option Standing
first_of (Some one) other = Some one
first_of None other = other

-- The one stands as long as it can, and the other begins anew where it may: where any choice stands the other does.
abbrev pub earliest_after : (number : ℕ) → ThreeProbes → ChoiceTurn → Option Standing → Option Standing
earliest_after number probes turn s = first_of (gone_on turn s) (begun_in number probes turn)

abbrev pub latest_after : (number : ℕ) → ThreeProbes → ChoiceTurn → Option Standing → Option Standing
latest_after number probes turn s = first_of (begun_in number probes turn) (gone_on turn s)

abbrev pub probes_before : Site → Ip4 → List Entry → ThreeProbes
probes_before site addr past = (chain_in (is_calm site) site addr past).three

abbrev pub earliest_in : Site → Ip4 → List Entry → Option Standing
earliest_in site addr [] = None
earliest_in site addr (e ∷ past) =
    earliest_after (length past) (probes_before site addr past) (choice_turn site addr e past)
    (earliest_in site addr past)

abbrev pub latest_in : Site → Ip4 → List Entry → Option Standing
latest_in site addr [] = None
latest_in site addr (e ∷ past) =
    latest_after (length past) (probes_before site addr past) (choice_turn site addr e past) (latest_in site addr past)

-- ---- the turns of an address

abbrev pub turns_of : Option Standing → Option ProbedTurns
turns_of s = option_map (λ (one : Standing). one.turns) s

abbrev pub local_found : Site → Net → List Entry → Option ProbedTurns
local_found site (V4 net) past =
    if gives_in site (V4 net) past
    then turns_of (first_of (earliest_in site net.ip past) (latest_in site net.ip past))
    else None
local_found site (V6 net) past = None
