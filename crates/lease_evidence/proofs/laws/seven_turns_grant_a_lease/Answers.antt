use Rattle.std.proofs.Common.{[], ◌∷◌, inl, refl}
use Rattle.net_types.specs.declared.address.Net.TheVariants.{V4}
use Rattle.evidence_words.specs.IfaceLives.{shown, site_of}
use Rattle.lease_evidence.specs.PlainIface.{client_mac}
use Rattle.lease_evidence.specs.SevenTurns.{beginning, lease, opening, seven_turns}
use Rattle.lease_evidence.proofs.HeldRuns.{held_leases_have_basis}
use Rattle.lease_evidence.proofs.KeptNeedsProofs.{plain_leases}
use Rattle.lease_evidence.proofs.SevenTurnsHeard.{seven_lived, seven_hold, beginning_fits}
use Rattle.lease_evidence.proofs.laws.seven_turns_grant_a_lease.Goals as goal

pub returns-clause-lived : goal.returns-clause-lived
returns-clause-lived c = seven_lived

pub returns-clause-held : goal.returns-clause-held
returns-clause-held c = seven_hold

pub returns-clause-basis : goal.returns-clause-basis
returns-clause-basis c =
    plain_leases (site_of (client_mac ∷ []) beginning opening) (V4 lease.net) 6503 (shown opening seven_turns) (inl refl)
    (held_leases_have_basis _ beginning opening seven_turns lease beginning_fits tt seven_lived seven_hold)
