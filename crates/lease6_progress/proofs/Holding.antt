-- What a client acquires in time stays held from then on.
use Rattle.std.proofs.Common.{◌≡◌, ℕ, List, [], ◌∷◌, ◌++◌, Option, Some, None, IfSome, sym, ap, subst, ◌∙◌}
use Rattle.lease6_text.specs.Leases.{Lease6Content}
use Rattle.v6_client.specs.declared.states.State6.TheVariants.{Bound}
use Rattle.v6_client.specs.Clients.{ClientContent, held_of}
use Rattle.v6_client.specs.Settings.{SettingsContent}
use Rattle.v6_client.proofs.SettingsStay.{settings_stay}
use Rattle.lease6_progress.specs.ClientTurns.{ClientTurn, Input6, Quiet, Hears, IsUsed, Rebinds, Drops, Releases, Start, acts_in, client_run}
use Rattle.lease6_progress.specs.GoingWell.{Answered, EachQuestion, Fair, Prompt}
use Rattle.lease6_progress.specs.Questions.{question_in}
use Rattle.lease6_progress.specs.Staying.{AlwaysLasting, GrantsLasting, HoldsFromThenOn, HoldsItem, HoldsLasting, IsLasting, Lasting, Lasts}
use Rattle.lease6_progress.proofs.Retaining.{stays_held}
use Rattle.lease6_progress.proofs.Stages.{IsGrantedBy}
use Rattle.lease6_progress.proofs.Turning.{held_since, run_settings}

lasts_so : (answered : Answered) (wait at : ℕ) (c : ClientContent) (input : Input6) (lease : Lease6Content)
    → GrantsLasting answered wait at c input → IsGrantedBy at c input lease → Lasts c.settings.asks answered wait at lease
lasts_so answered wait at c Quiet lease lasts granted = absurd granted
lasts_so answered wait at c (Hears message) lease lasts granted =
    subst (λ (o : Option Lease6Content). IfSome o (Lasts c.settings.asks answered wait at)) granted.1 (lasts granted.0)
lasts_so answered wait at c (IsUsed address) lease lasts granted = absurd granted
lasts_so answered wait at c Rebinds lease lasts granted = absurd granted
lasts_so answered wait at c Drops lease lasts granted = absurd granted
lasts_so answered wait at c (Releases tell) lease lasts granted = absurd granted

module _ (s : Start) (wait : ℕ) where
  -- the turn in which it is granted, and those after it
  last_so : (later : List ClientTurn) (turn : ClientTurn) (past : List ClientTurn) → AlwaysLasting s EachQuestion wait (later ++ turn ∷ past)
      → IsLasting s EachQuestion wait turn past × Lasting s EachQuestion wait later (turn ∷ past)
  last_so [] turn past all = (all.0, tt)
  last_so (next ∷ later) turn past all =
      let rest = last_so later turn past all.1 in
      (rest.0, (all.0, rest.1))

  module _ (turn : ClientTurn) (past : List ClientTurn) where
    abbrev acted : ClientContent
    acted = (acts_in turn (client_run s past)).client

    same_settings : acted.settings ≡ s.settings
    same_settings = (settings_stay (client_run s past) turn.at turn.salt).tick ∙ run_settings s past

    holds_lasting : (lease : Lease6Content) → (client_run s (turn ∷ past)).state ≡ Bound → held_of (client_run s (turn ∷ past)) ≡ Some lease
        → question_in s (turn ∷ past) ≡ None → IsLasting s EachQuestion wait turn past → IsGrantedBy turn.at acted turn.input lease
        → HoldsLasting s EachQuestion wait (turn ∷ past)
    holds_lasting lease bound held settled lasting granted = record {
      bound = bound;
      lease = lease;
      held = held;
      lasts = subst (λ (settings : SettingsContent). Lasts settings.asks EachQuestion wait turn.at lease) same_settings
          (lasts_so EachQuestion wait turn.at acted turn.input lease lasting.lasts granted);
      settled = settled;
    }

pub holds_from_then_on : HoldsFromThenOn
holds_from_then_on s wait turns short anew prompt fair lasting past =
    let h = held_since s wait turns short anew prompt fair past in
    let cut : turns ≡ h.by.later ++ h.turn ∷ h.past = h.by.cut ∙ ap (λ (earlier : List ClientTurn). h.by.later ++ earlier) h.is in
    let last = last_so s wait h.by.later h.turn h.past (subst (λ (all : List ClientTurn). AlwaysLasting s EachQuestion wait all) cut lasting) in
    subst (λ (all : List ClientTurn). HoldsItem s all) (sym cut)
    (stays_held s EachQuestion wait h.by.later (h.turn ∷ h.past)
    (holds_lasting s wait h.turn h.past h.by.lease
    (subst (λ (earlier : List ClientTurn). (client_run s earlier).state ≡ Bound) h.is h.by.bound)
    (subst (λ (earlier : List ClientTurn). held_of (client_run s earlier) ≡ Some h.by.lease) h.is h.by.held)
    (subst (λ (earlier : List ClientTurn). question_in s earlier ≡ None) h.is h.by.settled) last.0 h.granted)
    (subst (λ (all : List ClientTurn). Prompt s all) cut prompt) (subst (λ (all : List ClientTurn). Fair s EachQuestion wait all) cut fair) last.1)
