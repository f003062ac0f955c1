-- Which turns are kept of a lease as they go by (RFC 2131, sections 3.1 and 4.4).
use Rattle.std.specs.Prelude.{ℕ, if◌then◌else◌, List, [], ◌∷◌, length, Option, Some, None}
use Rattle.net_types.specs.declared.address.Ip4.{Ip4}
use Rattle.net_types.specs.declared.address.Net.{Net}
use Rattle.net_types.specs.declared.address.Net.TheVariants.{V4, V6}
use Rattle.evidence_words.specs.Entries.{Entry}
use Rattle.evidence_words.specs.Inputs.{Site}
use Rattle.static_judge.specs.LeaseEvidence.Exchanges.{seen_in}
use Rattle.lease_judge.specs.Judge.{judge_in}
use Rattle.lease_judge.specs.Leased.{is_leased}
use Rattle.lease_judge.specs.Numbers.{granted_number, open_number}
use Rattle.lease_judge.specs.ProbedTurns.{calm_in}
use Rattle.basis_turns.specs.Chains.{is_same, probed_turns_in}
use Rattle.basis_turns.specs.declared.leases.Granting.{Granting}
use Rattle.basis_turns.specs.declared.leases.LeaseTurns.{LeaseTurns}

-- after a turn, by the number of the exchange that was open before it and that of the one which is open after it: the
-- turn in which the exchange opened
abbrev pub opened_after : (turn : ℕ) → (before after : Option ℕ) → (opened : ℕ) → ℕ
opened_after turn before after opened = if is_same before after then opened else turn

abbrev pub opened_in : Site → List Entry → ℕ
opened_in site [] = 0
opened_in site (e ∷ past) =
    opened_after (length past) (open_number (seen_in site past)) (open_number (seen_in site (e ∷ past)))
    (opened_in site past)

-- so with the grant, whose exchange opened in that turn
abbrev pub granting_after : (turn : ℕ) → (before after : Option ℕ) → (opened : ℕ) → Granting → Granting
granting_after turn before after opened granting =
    if is_same before after then granting else record { request = opened; ack = turn }

abbrev pub granting_in : Site → List Entry → Granting
granting_in site [] = record { request = 0; ack = 0 }
granting_in site (e ∷ past) =
    granting_after (length past) (granted_number (judge_in site past).granted)
    (granted_number (judge_in site (e ∷ past)).granted) (opened_in site (e ∷ past)) (granting_in site past)

-- ---- the turns of an address

abbrev pub lease_turns_in : Site → Ip4 → List Entry → LeaseTurns
lease_turns_in site addr past = record {
  granting = granting_in site past;
  probed = if site.managed.conf.flags.noarp then None else probed_turns_in (calm_in site) site addr past;
}

abbrev pub lease_found : Site → Net → (now : ℕ) → List Entry → Option LeaseTurns
lease_found site (V4 net) now past =
    if is_leased site (V4 net) now past then Some (lease_turns_in site net.ip past) else None
lease_found site (V6 net) now past = None
