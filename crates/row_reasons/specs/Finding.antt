-- Which reason of an address is found: the first on its own interface, else the first interface that shares it out.
use Rattle.std.specs.Prelude.{ℕ, ◌==◌, if◌then◌else◌, List, [], ◌∷◌, Option, Some, None}
use Rattle.net_types.specs.declared.address.Net.{Net}
use Rattle.world.specs.declared.rows.HostRow.{HostRow}
use Rattle.world.specs.declared.rows.HostRow.TheVariants.{Addr, Route}
use Rattle.audit_words.specs.EvidenceWords.Entries.{Entry}
use Rattle.audit_words.specs.EvidenceWords.IfaceLives.{now_in}
use Rattle.audit_words.specs.EvidenceWords.Inputs.{Site, index_at}
use Rattle.transcript_audit.specs.IfaceJudges.Joined.{is_own, is_shared}
use Rattle.basis_turns.specs.BasisFinds.{basis_found}
use Rattle.basis_turns.specs.declared.walks.Basis.{Basis}
use Rattle.row_reasons.specs.declared.reason.Reason.{Reason}
use Rattle.row_reasons.specs.declared.reason.Reason.TheVariants.{Own, Kept, Share}

abbrev pub or_else : {X : Type 0} → Option X → Option X → Option X
or_else (Some x) other = Some x
or_else None other = other

-- the first that is given of a list
abbrev pub first_given : {X Y : Type 0} → (X → Option Y) → List X → Option Y
first_given f [] = None
first_given f (x ∷ xs) = or_else (f x) (first_given f xs)

abbrev pub kept_reason : Site → Net → List Entry → Option Reason
kept_reason site net past = if is_own site net past then Some Kept else None

abbrev pub reason_by : Option Basis → Option Reason → Option Reason
reason_by (Some basis) other = Some (Own basis)
reason_by None other = other

-- on the interface itself
abbrev pub own_reason : Site → Net → List Entry → Option Reason
own_reason site net past = reason_by (basis_found site net (now_in past) past) (kept_reason site net past)

abbrev pub own_at : ℕ → Net → List Entry → Site → Option Reason
own_at number net past site = if index_at site == number then own_reason site net past else None

abbrev pub share_at : ℕ → Net → List Entry → Site → Option Reason
share_at number net past site = if is_shared site number net past then Some (Share (index_at site)) else None

abbrev pub reason_among : List Site → ℕ → Net → List Entry → Option Reason
reason_among sites number net past =
    or_else (first_given (own_at number net past) sites) (first_given (share_at number net past) sites)

-- a route has none
abbrev pub row_reason : List Site → List Entry → HostRow → Option Reason
row_reason sites past (Addr index net) = reason_among sites index.number net past
row_reason sites past (Route iface dest via metric) = None
