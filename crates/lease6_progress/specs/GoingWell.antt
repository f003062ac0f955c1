-- The turns of a DHCPv6 client where all goes as well as can be asked. Moments are in milliseconds.
use Rattle.std.specs.Prelude.{◌≡◌, ℕ, ◌+◌, ◌≤◌, max, Bool, true, false, List, [], ◌∷◌, Option, Some, None}
use Rattle.v6_message.specs.declared.kind.Kind6.{Kind6}
use Rattle.v6_message.specs.declared.kind.Kind6.TheVariants as kind
use Rattle.v6_message.specs.declared.kind.ServerKind6.TheVariants.{Reply}
use Rattle.v6_client.specs.V6Items.declared.asks.IaAsk.{IaAsk}
use Rattle.v6_client.specs.Calls.{due_of}
use Rattle.v6_client.specs.V6Items.Reading.{serves}
use Rattle.lease6_progress.specs.ClientTurns.{ClientTurn, Input6, Hears, Drops, Releases, Start, client_run, now_in}
use Rattle.lease6_progress.specs.Questions.{Question, gives, question_in}

-- ---- woken in time

-- no later than was asked for, and at once where that is over
abbrev pub NotAfter : (asked : Option ℕ) → (last at : ℕ) → Type 0
NotAfter None last at = Unit {0}
NotAfter (Some due) last at = at ≤ max due last

-- A turn comes no later than the client asked for, nor goes back in time.
pub record IsPrompt (s : Start) (turn : ClientTurn) (past : List ClientTurn) : Type 0 where
  pub onward : now_in s past ≤ turn.at
  pub in_time : NotAfter (due_of (client_run s past)) (now_in s past) turn.at

-- ---- undisturbed

-- The carrier stays, and nothing is given back.
abbrev pub CarrierStays : Input6 → Type 0
CarrierStays Drops = ⊥
CarrierStays (Releases tell) = ⊥
CarrierStays _ = Unit {0}

-- ---- served

-- which questions servers answer: each; or REBINDs alone, where the server that granted what is held is silent (RFC
-- 8415, section 18.2.5)
pub data Answered : Type 0 where
  EachQuestion : Answered
  RebindsAlone : Answered

abbrev pub is_answered : Answered → Kind6 → Bool
is_answered EachQuestion k = true
is_answered RebindsAlone kind.Solicit = false
is_answered RebindsAlone kind.Request = false
is_answered RebindsAlone kind.Renew = false
is_answered RebindsAlone kind.Rebind = true
is_answered RebindsAlone kind.Release = false
is_answered RebindsAlone kind.Decline = false

-- No turn finds such a question pending for longer than `wait`.
abbrev pub Serves : Answered → (wait : ℕ) → Option Question → (at : ℕ) → Type 0
Serves answered wait None at = Unit {0}
Serves answered wait (Some pending) at = is_answered answered pending.said.kind ≡ true → at ≤ pending.asked + wait

-- A Reply that serves what is asked for gives some of it (RFC 8415, section 18.2.10).
abbrev pub NothingIsDenied : List IaAsk → Input6 → Type 0
NothingIsDenied asks (Hears message) = message.kind ≡ Reply → serves asks message ≡ true → gives asks message ≡ true
NothingIsDenied asks _ = Unit {0}

-- `wait` is how long servers take to answer
pub record IsFair (s : Start) (answered : Answered) (wait : ℕ) (turn : ClientTurn)
    (past : List ClientTurn) : Type 0 where
  pub stays : CarrierStays turn.input
  pub serves : Serves answered wait (question_in s past) turn.at
  pub gives : NothingIsDenied s.settings.asks turn.input

-- ---- each turn, after those before it

abbrev pub Prompt : Start → List ClientTurn → Type 0
Prompt s [] = Unit {0}
Prompt s (turn ∷ past) = IsPrompt s turn past × Prompt s past

abbrev pub Fair : Start → Answered → (wait : ℕ) → List ClientTurn → Type 0
Fair s answered wait [] = Unit {0}
Fair s answered wait (turn ∷ past) = IsFair s answered wait turn past × Fair s answered wait past
