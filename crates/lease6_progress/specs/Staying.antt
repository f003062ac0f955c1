-- That what a DHCPv6 client holds stays held, by RENEW and by REBIND (RFC 8415, sections 18.2.4 and 18.2.5). Moments
-- are in milliseconds.
use Rattle.std.specs.Prelude.{◌≡◌, ℕ, ◌+◌, ◌<◌, ◌≤◌, Bool, true, false, List, [], ◌∷◌, ◌++◌, Option, Some, None, IfSome}
use Rattle.std.specs.List.{list_any}
use Rattle.v6_message.specs.declared.kind.ServerKind6.TheVariants.{Reply}
use Rattle.v6_retrans.specs.declared.parameters.TheConstants.{SOLICIT}
use Rattle.lease6_text.specs.Leases.{IaLeaseContent, Lease6Content}
use Rattle.v6_client.specs.V6Items.declared.asks.IaAsk.{IaAsk}
use Rattle.v6_client.specs.V6Items.declared.scope.Cause6.TheVariants.{Duplicate}
use Rattle.v6_client.specs.declared.states.State6.TheVariants.{Bound}
use Rattle.v6_client.specs.Calls.{fresh_in}
use Rattle.v6_client.specs.Clients.{ClientContent, held_of}
use Rattle.v6_client.specs.V6Items.Items.{asked_at, is_live}
use Rattle.v6_client.specs.Moves.{parting_at}
use Rattle.lease6_progress.specs.Acquiring.{BeginsAnew, longest_choice, longest_delay}
use Rattle.lease6_progress.specs.ClientTurns.{ClientTurn, Input6, Hears, IsUsed, Rebinds, Start, acts_in, client_run, now_in}
use Rattle.lease6_progress.specs.GoingWell.{Answered, EachQuestion, RebindsAlone, Fair, Prompt}
use Rattle.lease6_progress.specs.Questions.{question_in}

-- ---- leases that last

-- whether some item of an IA that is asked for is valid at a moment
abbrev pub has_valid : List IaAsk → (at : ℕ) → List IaLeaseContent → Bool
has_valid asks at ias = list_any (λ ask. list_any (λ item. is_live at item) (asked_at ask ias)) asks

-- when a question that servers answer is first asked for a held lease: at T1, the least of its IAs, or at T2 (section
-- 14.2)
abbrev pub asked_when : Answered → Lease6Content → Option ℕ
asked_when EachQuestion lease = lease.t1
asked_when RebindsAlone lease = lease.t2

-- one moment is so long before another one
abbrev pub IsBefore : (gap : ℕ) → Option ℕ → Option ℕ → Type 0
IsBefore gap first None = Unit {0}
IsBefore gap None (Some second) = ⊥
IsBefore gap (Some first) (Some second) = first + gap < second

-- a RENEW is answered before T2 takes its place
abbrev pub IsRenewedInTime : Answered → (wait : ℕ) → Lease6Content → Type 0
IsRenewedInTime EachQuestion wait lease = IsBefore wait lease.t1 lease.t2
IsRenewedInTime RebindsAlone wait lease = Unit {0}

-- some item is valid until the question is answered, and at every moment where none is asked
abbrev pub IsValidUntil : List IaAsk → (wait : ℕ) → (asked : Option ℕ) → List IaLeaseContent → Type 0
IsValidUntil asks wait None ias = (at : ℕ) → has_valid asks at ias ≡ true
IsValidUntil asks wait (Some asked) ias = has_valid asks (asked + wait) ias ≡ true

-- a moment that isn't over
abbrev pub IsAhead : (now : ℕ) → Option ℕ → Type 0
IsAhead now None = Unit {0}
IsAhead now (Some due) = now ≤ due

-- T1 and T2 aren't over, and some item lasts until servers have answered what is asked then.
pub record Lasts (asks : List IaAsk) (answered : Answered) (wait now : ℕ) (lease : Lease6Content) : Type 0 where
  pub t1_ahead : IsAhead now lease.t1
  pub t2_ahead : IsAhead now lease.t2
  pub renewed : IsRenewedInTime answered wait lease
  pub valid : IsValidUntil asks wait (asked_when answered lease) lease.ias

-- ---- turns

-- No other host uses an address that is held, and the host doesn't want what is held confirmed anew.
abbrev pub IsUndisturbed : ClientContent → Input6 → Type 0
IsUndisturbed c (IsUsed address) = (parting_at (Duplicate address) c).goes ≡ false
IsUndisturbed c Rebinds = ⊥
IsUndisturbed c _ = Unit {0}

-- The lease that a Reply grants lasts.
abbrev pub GrantsLasting : Answered → (wait at : ℕ) → ClientContent → Input6 → Type 0
GrantsLasting answered wait at c (Hears message) =
    message.kind ≡ Reply → IfSome (fresh_in at c message) (Lasts c.settings.asks answered wait at)
GrantsLasting answered wait at c _ = Unit {0}

pub record IsLasting (s : Start) (answered : Answered) (wait : ℕ) (turn : ClientTurn)
    (past : List ClientTurn) : Type 0 where
  pub undisturbed : IsUndisturbed (acts_in turn (client_run s past)).client turn.input
  pub lasts : GrantsLasting answered wait turn.at (acts_in turn (client_run s past)).client turn.input

-- each of the turns `later`, after those before it
abbrev pub Lasting : Start → Answered → (wait : ℕ) → (later earlier : List ClientTurn) → Type 0
Lasting s answered wait [] earlier = Unit {0}
Lasting s answered wait (turn ∷ later) earlier =
    IsLasting s answered wait turn (later ++ earlier) × Lasting s answered wait later earlier

-- each of all turns
abbrev pub AlwaysLasting : Start → Answered → (wait : ℕ) → List ClientTurn → Type 0
AlwaysLasting s answered wait [] = Unit {0}
AlwaysLasting s answered wait (turn ∷ past) = IsLasting s answered wait turn past × AlwaysLasting s answered wait past

-- ---- the laws

-- a lease that lasts is held, and nothing is asked
pub record HoldsLasting (s : Start) (answered : Answered) (wait : ℕ) (turns : List ClientTurn) : Type 0 where
  pub bound : (client_run s turns).state ≡ Bound
  pub lease : Lease6Content
  pub held : held_of (client_run s turns) ≡ Some lease
  pub lasts : Lasts s.settings.asks answered wait (now_in s turns) lease
  pub settled : question_in s turns ≡ None

-- an item is held that is valid
pub record HoldsItem (s : Start) (turns : List ClientTurn) : Type 0 where
  pub lease : Lease6Content
  pub held : held_of (client_run s turns) ≡ Some lease
  pub valid : has_valid s.settings.asks (now_in s turns) lease.ias ≡ true

-- After each later turn a valid item is held.
abbrev pub StaysHeld : Type 0
StaysHeld = (s : Start) (answered : Answered) (wait : ℕ) (later earlier : List ClientTurn)
    → HoldsLasting s answered wait earlier
    → Prompt s (later ++ earlier) → Fair s answered wait (later ++ earlier) → Lasting s answered wait later earlier
    → HoldsItem s (later ++ earlier)

-- So a client that begins anew holds a valid item from a moment on, by which it acquired one (sections 18.2.1 and
-- 18.2.2).
abbrev pub HoldsFromThenOn : Type 0
HoldsFromThenOn = (s : Start) (wait : ℕ) (turns : List ClientTurn) → wait ≤ SOLICIT.irt → BeginsAnew s → Prompt s turns
    → Fair s EachQuestion wait turns → AlwaysLasting s EachQuestion wait turns
    → s.at + longest_delay s.settings + longest_choice + wait < now_in s turns → HoldsItem s turns
