-- Which basis of an address is found, and its turns: the first of static, leased and link-local.
use Rattle.std.specs.Prelude.{ℕ, if◌then◌else◌, List, Option, Some, None}
use Rattle.std.specs.Option.{option_map}
use Rattle.net_types.specs.declared.address.Net.{Net}
use Rattle.net_types.specs.declared.address.Net.TheVariants.{V4, V6}
use Rattle.net_types.specs.declared.address.Net4.{Net4}
use Rattle.net_types.specs.declared.address.Net6.{Net6}
use Rattle.evidence_words.specs.Entries.{Entry}
use Rattle.evidence_words.specs.Inputs.{Site}
use Rattle.static_judge.specs.Judge as statics
use Rattle.basis_turns.specs.ItemFinds.{item_found}
use Rattle.basis_turns.specs.LeaseFinds.{lease_found}
use Rattle.basis_turns.specs.LocalFinds.{local_found}
use Rattle.basis_turns.specs.declared.leases.LeaseTurns.{LeaseTurns}
use Rattle.basis_turns.specs.declared.probes.ProbedTurns.{ProbedTurns}
use Rattle.basis_turns.specs.declared.walks.Basis.{Basis}
use Rattle.basis_turns.specs.declared.walks.Basis.TheVariants.{Static, Lease4, Lease6, LinkLocal}

abbrev pub leased4 : Option LeaseTurns → Option ProbedTurns → Option Basis
leased4 (Some turns) local = Some (Lease4 turns)
leased4 None (Some turns) = Some (LinkLocal turns)
leased4 None None = None

-- that of an address which isn't static
abbrev pub found4 : Site → Net4 → (now : ℕ) → List Entry → Option Basis
found4 site net now past = leased4 (lease_found site (V4 net) now past) (local_found site (V4 net) past)

abbrev pub found6 : Site → Net6 → (now : ℕ) → List Entry → Option Basis
found6 site net now past = option_map Lease6 (item_found site net now past)

abbrev pub found_by : Site → Net → (now : ℕ) → List Entry → Option Basis
found_by site (V4 net) now past = found4 site net now past
found_by site (V6 net) now past = found6 site net now past

abbrev pub basis_found : Site → Net → (now : ℕ) → List Entry → Option Basis
basis_found site net now past =
    if statics.gives_in site net past then Some Static else found_by site net now past
