-- A host over a whole life.
use Rattle.std.proofs.Common.{◌≡◌, Bool, true, false, ◌&&◌, List, [], ◌∷◌, ◌++◌, refl, sym, ap, subst, ◌∙◌, append_assoc}
use Rattle.std.specs.List.{list_all}
use Rattle.std.proofs.lemmas.List.Sums.{list_all-from_AllPass}
use Rattle.net_types.specs.declared.interface.IfSpec.{IfSpec}
use Rattle.world.specs.declared.rows.HostRow.{HostRow}
use Rattle.world.specs.declared.rows.HostRow.TheVariants.{Addr}
use Rattle.world.specs.HostCalls.{HostCall, HostTold}
use Rattle.world.specs.RowOrder.{has_row}
use Rattle.settings.specs.declared.interfaces.Managed.{Managed}
use Rattle.settings.specs.Fitting.{AreManaged}
use Rattle.settings.specs.ManagedRows.{SharesAreManaged, is_managed}
use Rattle.host_model.specs.HostTable.{InRowOrder, managed_rows, other_rows, is_done}
use Rattle.host_model.proofs.HostTableRows.{has_filter}
use Rattle.client_model.specs.Clients.{rows_of}
use Rattle.device_calls.specs.Calls.{Call, host_call}
use Rattle.device_calls.specs.HostWalks.{HostGoes}
use Rattle.device_calls.proofs.HostWalking.{host_goes_more, host_goes_split}
use Rattle.turn_model.specs.FilesInLife.{AreNamedApart}
use Rattle.turn_model.specs.Turns.{Life}
use Rattle.turn_model.specs.Lives.{OpeningMet, IsOpening, Met, AreTurns, life_after, turn_calls, turns_calls}
use Rattle.evidence.specs.Laws.{AreNumbered, AreMade, AreOctets, AreSharedWithOthers}
use Rattle.evidence.specs.HeldAddresses.{RestOnEvidence}
use Rattle.evidence.proofs.Based.{have_basis}
use Rattle.evidence.proofs.Items.{items_have_basis}
use Rattle.evidence.proofs.Leasing.{leases_based}
use Rattle.evidence.proofs.Starts.{opening_starts, plain_opening_starts}
use Rattle.evidence.proofs.LeaseEvidence.Joining.{LeaseRelation}
use Rattle.device_evidence.specs.Stretches.{all_calls, at_opening, at_turn}
use Rattle.device_evidence.specs.HostHeld.{HostWent, NoneFailed, HostHeld, HostHeldInLife, HostsHold}
use Rattle.device_evidence.proofs.Parts.{parts_of}
use Rattle.device_evidence.proofs.LifeParts.{turns_first, turns_later, at_turn_calls}
use Rattle.device_evidence.proofs.HostSteps.{host_part, Standing, StepWent, turn_went, opening_went}

-- ---- calls in parts

-- what the host told between some calls and more
pub record WentBoth (a b : List Call) (old new : HostTold) : Type 0 where
  pub mid : HostTold
  pub first : HostWent a old mid
  pub later : HostWent b mid new

went_both : (a b : List Call) (old new : HostTold) → HostWent (a ++ b) old new → WentBoth a b old new
went_both a b old new goes =
    let parts = host_goes_split (host_part a) (host_part b) old new (subst (λ (cs : List HostCall). HostGoes cs old new) (parts_of host_call a b) goes) in
    record { mid = parts.mid; first = parts.first; later = parts.then }

went_more : (a b : List Call) (old mid new : HostTold) → HostWent a old mid → HostWent b mid new → HostWent (a ++ b) old new
went_more a b old mid new p q =
    subst (λ (cs : List HostCall). HostGoes cs old new) (sym (parts_of host_call a b)) (host_goes_more (host_part a) (host_part b) old mid new p q)

are_made : (managed : List Managed) (from : Life) (mets : List Met) → AreTurns managed from mets → AreMade managed from mets
are_made managed from [] turns = tt
are_made managed from (met ∷ mets) turns = (turns.0.makes, are_made managed met.life mets turns.1)

one_after : (from : Life) (earlier : List Met) (met : Met) → life_after from (earlier ++ met ∷ []) ≡ met.life
one_after from [] met = refl
one_after from (first ∷ earlier) met = one_after first.life earlier met

both : (a b : Bool) → a ≡ true → b ≡ true → (a && b) ≡ true
both true b p q = q
both false b p q = cc

module _ (managed : List Managed) (specs : List IfSpec) (fit : AreManaged managed) (shares : SharesAreManaged managed) (others : AreSharedWithOthers managed)
    (numbered : AreNumbered managed) (named : AreNamedApart managed) where
  -- ---- what is wanted has its basis

  rest : (opening : OpeningMet) (mets : List Met) (life : Life) (rows : List HostRow) → IsOpening managed specs opening → AreMade managed opening.life mets
      → life_after opening.life mets ≡ life → managed_rows managed rows ≡ rows_of life.client → AreOctets mets → RestOnEvidence managed specs opening mets rows
  rest opening mets life rows opens turns last as_wanted octets index net on_managed has =
      let held : has_row (managed_rows managed rows) (Addr index net) ≡ true =
      has_filter (is_managed managed) rows (Addr index net) ∙ both _ _ on_managed has in
      let wanted : has_row (rows_of life.client) (Addr index net) ≡ true = subst (λ rs. has_row rs (Addr index net) ≡ true) as_wanted held in
      have_basis LeaseRelation leases_based items_have_basis managed specs opening mets
      (record { numbered = numbered; named = named; opens = opens; turns = turns }) fit others octets index net
      (subst (λ (l : Life). has_row (rows_of l.client) (Addr index net) ≡ true) (sym last) wanted)

  -- ---- turns

  pub record TurnsWent (life : Life) (old new : HostTold) : Type 0 where
    pub standing : Standing managed life new
    pub apart : other_rows managed new.rows ≡ other_rows managed old.rows

  turns_went : (from : Life) (mets : List Met) (old new : HostTold) → AreTurns managed from mets → Standing managed from old
      → HostWent (turns_calls from mets) old new → TurnsWent (life_after from mets) old new
  turns_went from [] old new turns standing goes = record {
    standing = subst (λ (told : HostTold). Standing managed from told) (sym goes) standing;
    apart = ap (λ (told : HostTold). other_rows managed told.rows) goes;
  }
  turns_went from (met ∷ mets) old new turns standing goes =
      let parts = went_both (turn_calls from met) (turns_calls met.life mets) old new goes in
      let here = turn_went managed shares from met.wake met.bytes met.calls met.life old parts.mid turns.0.makes standing parts.first in
      let after = turns_went met.life mets parts.mid new turns.1 here.standing parts.later in
      record { standing = after.standing; apart = after.apart ∙ here.others }

  -- ---- a life

  module _ (opening : OpeningMet) (mets : List Met) (end : List Call) (first last : HostTold) (opens : IsOpening managed specs opening)
      (turns : AreTurns managed opening.life mets) (s : InRowOrder first.rows) (goes : HostWent (all_calls opening mets end) first last) where
    begun : WentBoth opening.calls (turns_calls opening.life mets ++ end) first last
    begun = went_both opening.calls (turns_calls opening.life mets ++ end) first last goes

    opened : StepWent managed opening.life (host_part opening.calls) first begun.mid
    opened = opening_went managed shares specs opening.begin opening.calls opening.life first begun.mid opens s begun.first

    held_opened : HostHeld managed specs opening [] opening.life
        (at_opening opening mets end) first last
    held_opened = record {
      told = begun.mid;
      went = begun.first;
      goes_on = begun.later;
      others = opened.others;
      wanted = λ none. opened.as_wanted (list_all-from_AllPass is_done (host_part opening.calls) none);
      rests = λ none octets.
          rest opening [] opening.life begun.mid.rows opens tt refl (opened.as_wanted (list_all-from_AllPass is_done (host_part opening.calls) none)) octets;
    }

    module _ (earlier : List Met) (met : Met) (later : List Met) (split : mets ≡ earlier ++ met ∷ later) where
      all_turns : AreTurns managed opening.life (earlier ++ met ∷ later)
      all_turns = subst (AreTurns managed opening.life) split turns

      own_turns : AreTurns managed (life_after opening.life earlier) (met ∷ later)
      own_turns = turns_later managed opening.life earlier (met ∷ later) all_turns

      before : WentBoth (turns_calls opening.life earlier) (turn_calls (life_after opening.life earlier) met ++ (turns_calls met.life later ++ end))
          begun.mid last
      before =
          went_both (turns_calls opening.life earlier) (turn_calls (life_after opening.life earlier) met ++ (turns_calls met.life later ++ end)) begun.mid last
          (subst (λ (cs : List Call). HostWent cs begun.mid last) (at_turn_calls opening.life mets earlier met later end split) begun.later)

      own : WentBoth (turn_calls (life_after opening.life earlier) met) (turns_calls met.life later ++ end) before.mid last
      own = went_both (turn_calls (life_after opening.life earlier) met) (turns_calls met.life later ++ end) before.mid last before.later

      stood : TurnsWent (life_after opening.life earlier) begun.mid before.mid
      stood =
          turns_went opening.life earlier begun.mid before.mid (turns_first managed opening.life earlier (met ∷ later) all_turns) opened.standing before.first

      turned : StepWent managed met.life (host_part (turn_calls (life_after opening.life earlier) met)) before.mid own.mid
      turned =
          turn_went managed shares (life_after opening.life earlier) met.wake met.bytes met.calls met.life before.mid own.mid own_turns.0.makes stood.standing
          own.first

      made_so_far : AreMade managed opening.life (earlier ++ met ∷ [])
      made_so_far =
          are_made managed opening.life (earlier ++ met ∷ [])
          (turns_first managed opening.life (earlier ++ met ∷ []) later
          (subst (AreTurns managed opening.life) (sym (append_assoc earlier (met ∷ []) later)) all_turns))

      held_turned : HostHeld managed specs opening (earlier ++ met ∷ []) met.life
          (at_turn opening earlier met later end)
          first last
      held_turned =
          let calls = turn_calls (life_after opening.life earlier) met in
          let done : NoneFailed calls → list_all is_done (host_part calls) ≡ true = λ none. list_all-from_AllPass is_done (host_part calls) none in
          record {
            told = own.mid;
            went =
                went_more (opening.calls ++ turns_calls opening.life earlier) calls first before.mid own.mid
                (went_more opening.calls (turns_calls opening.life earlier) first begun.mid before.mid begun.first before.first) own.first;
            goes_on = own.later;
            others = turned.others ∙ stood.apart ∙ opened.others;
            wanted = λ none. turned.as_wanted (done none);
            rests = λ none octets.
                rest opening (earlier ++ met ∷ []) met.life own.mid.rows opens made_so_far (one_after opening.life earlier met) (turned.as_wanted (done none))
                octets;
          }

    pub held : HostHeldInLife managed specs opening mets end first last
    held = record {
      starts = opening_starts managed specs opening opens fit others numbered named;
      plain_starts = plain_opening_starts managed specs opening opens;
      opened = held_opened;
      turned = held_turned;
    }

pub hosts_hold : HostsHold
hosts_hold managed specs opening mets end first last fit shares others numbered named opens turns s goes =
    held managed specs fit shares others numbered named opening mets end first last opens turns s goes
