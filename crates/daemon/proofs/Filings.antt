-- The calls of a life and its files, wherever it ended.
use Rattle.std.proofs.Common.{ℕ, ◌≡◌, true, false, inl, inr, List, [], ◌∷◌, ◌++◌, Option, Some, None, refl, sym, ap, subst, ◌∙◌}
use Rattle.std.specs.Prelude.{flat_map, IfSome}
use Rattle.net_types.specs.declared.interface.IfSpec.{IfSpec}
use Rattle.world.specs.declared.wakes.Begin.{Begin}
use Rattle.world.specs.StoreFails.{StoreFails}
use Rattle.world.specs.StoreCalls.{StoreTold}
use Rattle.world.specs.HostCalls.{HostTold}
use Rattle.world.specs.HookCalls.{HooksTold}
use Rattle.world.specs.LinkCalls.{Waited, Offered}
use Rattle.settings.specs.declared.interfaces.Managed.{Managed}
use Rattle.file_choices.specs.StoreWalks.{Answered}
use Rattle.device_calls.specs.Calls.{Call, Link, Host, Store, Hook, Dropped, link_call, host_call, store_call, hook_call}
use Rattle.device_calls.specs.Worlds.{Device, Seen}
use Rattle.device_calls.specs.Faults.{failed_send, failed_host_call, failed_store_call, failed_hook_call, CountsFailed, CountsEach}
use Rattle.device_calls.specs.Telling.{Tells}
use Rattle.device_calls.proofs.Doing.{answered_none, counts_none}
use Rattle.device_calls.proofs.Begun.{none_front, asked_front}
use Rattle.turn_model.specs.Turns.{Life, turn_asks}
use Rattle.turn_model.specs.Opening.{opening_asks}
use Rattle.turn_model.specs.Lives.{OpeningMet, IsOpening, Met, IsTurn, AreTurns, IsLast, life_after, turn_calls, turns_calls}
use Rattle.turn_model.specs.LifeFronts.{FrontOfTurn, FrontOfLife}
use Rattle.exact_texts.specs.FileEvidence.WholeFiles.{FilesStayWhole}
use Rattle.exact_texts.proofs.FileEvidence.KeepingTurns.{life_stays_whole}
use Rattle.daemon.specs.declared.serving.ServeEnd.{ServeEnd}
use Rattle.daemon.specs.declared.serving.ServeEnd.TheVariants as ends
use Rattle.life_devices.specs.Waits.{OnlyLink}
use Rattle.daemon.specs.Serving.{HasLifeCause}
use Rattle.daemon.specs.Served.{Begun, Served}
use Rattle.daemon.specs.Cuts.{CutAt, Between, InTurn, AtEnd, cut_turns, CutsAt, CutOpening, CutLife, FailsToBegin, BeginsOpening, Leaves}
use Rattle.daemon.specs.Filed.{LeavesFiled}

-- ---- the calls of a life

-- the last wait is a front of a turn
pub last_front : (managed : List Managed) (life : Life) (last : List Call) → IsLast life last → FrontOfTurn managed life last
last_front managed life [] is = tt
last_front managed life (Link (Waited asked (Some given)) ∷ []) is = (
  is.0,
  inr (record {
    wake = given.wake;
    bytes = given.bytes;
    waited = ap (λ (a : Option ℕ). Link (Waited a (Some given))) is.1;
    front = none_front (turn_asks managed life given.wake given.bytes);
    more = λ over. refl;
  }),
)
last_front managed life (Link (Waited asked (Some given)) ∷ call ∷ calls) is = absurd is
last_front managed life (Link (Waited asked None) ∷ calls) is = absurd is
last_front managed life (Link (Offered iface frame taken) ∷ calls) is = absurd is
last_front managed life (Host call ∷ calls) is = absurd is
last_front managed life (Store call ∷ calls) is = absurd is
last_front managed life (Hook number call ∷ calls) is = absurd is
last_front managed life (Dropped job ∷ calls) is = absurd is

-- so is a whole turn
turn_front : (managed : List Managed) (life : Life) (met : Met) → IsTurn managed life met → FrontOfTurn managed life (turn_calls life met)
turn_front managed life met turn = (
  turn.going,
  inr (record {
    wake = met.wake;
    bytes = met.bytes;
    waited = refl;
    front = asked_front (turn_asks managed life met.wake met.bytes) met.calls met.life turn.makes;
    more = λ over. absurd (let bad : false ≡ true = sym turn.more ∙ over in cc);
  }),
)

pub first_turns : (managed : List Managed) (from : Life) (a b : List Met) → AreTurns managed from (a ++ b) → AreTurns managed from a
first_turns managed from [] b turns = tt
first_turns managed from (met ∷ a) b turns = (turns.0, first_turns managed met.life a b turns.1)

pub later_turns : (managed : List Managed) (from : Life) (a b : List Met) → AreTurns managed from (a ++ b) → AreTurns managed (life_after from a) b
later_turns managed from [] b turns = turns
later_turns managed from (met ∷ a) b turns = later_turns managed met.life a b turns.1

-- what was asked where a life was cut off
pub cut_front : (end : ServeEnd) (managed : List Managed) (life : Life) (at : CutAt) (calls : List Call) → CutsAt end managed life at calls
    → AreTurns managed life (cut_turns at)
    → FrontOfTurn managed life calls
cut_front ends.End managed life at calls cuts turns = absurd cuts
cut_front ends.TurnsOver managed life (Between rest) calls cuts turns = subst (FrontOfTurn managed life) (sym cuts.0) tt
cut_front ends.TurnsOver managed life (InTurn met rest) calls cuts turns = absurd cuts
cut_front ends.TurnsOver managed life AtEnd calls cuts turns = absurd cuts
cut_front ends.LinkFault managed life (Between rest) calls cuts turns = subst (FrontOfTurn managed life) (sym cuts.0) (cuts.1, inl (refl, refl))
cut_front ends.LinkFault managed life (InTurn met rest) calls cuts turns = absurd cuts
cut_front ends.LinkFault managed life AtEnd calls cuts turns = absurd cuts
cut_front ends.WriteFault managed life (Between rest) calls cuts turns = absurd cuts
cut_front ends.WriteFault managed life (InTurn met rest) calls cuts turns = subst (FrontOfTurn managed life) (sym cuts) (turn_front managed life met turns.0)
cut_front ends.WriteFault managed life AtEnd calls cuts turns = last_front managed life calls cuts
cut_front ends.NoMemory managed life (Between rest) calls cuts turns = cuts.0
cut_front ends.NoMemory managed life (InTurn met rest) calls cuts turns = subst (FrontOfTurn managed life) (sym cuts) (turn_front managed life met turns.0)
cut_front ends.NoMemory managed life AtEnd calls cuts turns = last_front managed life calls cuts

-- ---- what was told and counted since the life was to begin

module _ (old mid new : Seen) (only : OnlyLink old mid) where
  answers_since : (calls : List Call) → Tells mid new calls → Answered old.store.failing (flat_map store_call calls) old.store.told new.store.told
  answers_since calls tells =
      subst (λ (s : Device StoreTold StoreFails). Answered s.failing (flat_map store_call calls) s.told new.store.told) only.store tells.answers

  counts_since : (calls : List Call) → Tells mid new calls → CountsEach old new calls
  counts_since calls tells = record {
    sends = subst (λ (n : ℕ). CountsFailed failed_send (flat_map link_call calls) n new.link.faults) only.sends tells.counts.sends;
    host =
        subst (λ (h : Device HostTold (List ℕ)). CountsFailed failed_host_call (flat_map host_call calls) h.faults new.host.faults) only.host tells.counts.host;
    store =
        subst
        (λ (s : Device StoreTold StoreFails). CountsFailed failed_store_call (flat_map store_call calls) s.faults new.store.faults) only.store
        tells.counts.store;
    hooks =
        subst
        (λ (h : Device HooksTold (List ℕ)). CountsFailed failed_hook_call (flat_map hook_call calls) h.faults new.hooks.faults) only.hooks
        tells.counts.hooks;
  }

whole_where_told : (managed : List Managed) (specs : List IfSpec) (old : Seen) (calls : List Call) → FrontOfLife managed specs calls → (told : Option StoreTold)
    → IfSome told (λ before. FilesStayWhole old.store.failing managed calls before)
whole_where_told managed specs old calls front None = tt
whole_where_told managed specs old calls front (Some before) = life_stays_whole managed specs calls front old.store.failing before

files_since : (managed : List Managed) (specs : List IfSpec) (old new : Seen) (begun : Begun old) (calls : List Call) → FrontOfLife managed specs calls
    → Tells begun.seen new calls → LeavesFiled managed specs old new
files_since managed specs old new begun calls front tells = record {
  calls = calls;
  front = front;
  answers = answers_since old begun.seen new begun.begins.only calls tells;
  whole = whole_where_told managed specs old calls front old.store.told;
  counts = counts_since old begun.seen new begun.begins.only calls tells;
}

-- ---- each end of a life

pub after_opening : (managed : List Managed) (specs : List IfSpec) (opening : OpeningMet) (mets : List Met) (last : List Call) → IsOpening managed specs opening
    → AreTurns managed opening.life mets → FrontOfTurn managed (life_after opening.life mets) last
    → FrontOfLife managed specs (opening.calls ++ (turns_calls opening.life mets ++ last))
after_opening managed specs opening mets last opens turns front =
    inr (record { opening = opening; mets = mets; last = last; opens = opens; turns = turns; front = front; calls_are = refl })

-- it was lived to its end
pub filed_served : (allowed : ℕ) (managed : List Managed) (specs : List IfSpec) (old new : Seen) (out_from out_to : Option (List ℕ))
    → Served allowed managed specs old new out_from out_to
    → LeavesFiled managed specs old new
filed_served allowed managed specs old new out_from out_to served =
    files_since managed specs old new served.begun (served.opening.calls ++ (turns_calls served.opening.life served.mets ++ served.last))
    (after_opening managed specs served.opening served.mets served.last served.opens served.turns
    (last_front managed (life_after served.opening.life served.mets) served.last served.last_is)) served.tells

-- it was cut off
filed_opening : (end : ServeEnd) (managed : List Managed) (specs : List IfSpec) (old new : Seen) (out_from out_to : Option (List ℕ))
    → CutOpening end managed specs old new out_from out_to
    → LeavesFiled managed specs old new
filed_opening end managed specs old new out_from out_to cut =
    files_since managed specs old new cut.begun cut.opening.calls
    (inl
    (record { begin = cut.opening.begin; front = asked_front (opening_asks managed specs cut.opening.begin) cut.opening.calls cut.opening.life cut.opens }))
    cut.tells

filed_life : (end : ServeEnd) (allowed : ℕ) (managed : List Managed) (specs : List IfSpec) (old new : Seen) (out_from out_to : Option (List ℕ))
    → CutLife end allowed managed specs old new out_from out_to → LeavesFiled managed specs old new
filed_life end allowed managed specs old new out_from out_to cut =
    files_since managed specs old new cut.begun (cut.opening.calls ++ (turns_calls cut.opening.life cut.mets ++ cut.calls))
    (after_opening managed specs cut.opening cut.mets cut.calls cut.opens (first_turns managed cut.opening.life cut.mets (cut_turns cut.at) cut.turns)
    (cut_front end managed (life_after cut.opening.life cut.mets) cut.at cut.calls cut.cuts
    (later_turns managed cut.opening.life cut.mets (cut_turns cut.at) cut.turns)))
    cut.tells

filed_begun : (managed : List Managed) (specs : List IfSpec) (old new : Seen) → BeginsOpening managed specs old new → LeavesFiled managed specs old new
filed_begun managed specs old new begins =
    files_since managed specs old new begins.begun begins.opens.calls
    (inl (record { begin = begins.begun.begin; front = begins.opens.front })) begins.opens.tells

-- it could not begin
filed_unbegun : (managed : List Managed) (specs : List IfSpec) (old new : Seen) → FailsToBegin old new → LeavesFiled managed specs old new
filed_unbegun managed specs old new fails =
    let only : OnlyLink old new = fails.1.only in
    let begin : Begin = record { at = 0; salt = 0; up = 0 } in
    let front : FrontOfLife managed specs [] = inl (record { begin = begin; front = none_front (opening_asks managed specs begin) }) in
    record {
      calls = [];
      front = front;
      answers =
          subst (λ (s : Device StoreTold StoreFails). Answered old.store.failing [] old.store.told s.told) (sym only.store)
          (answered_none old.store.failing old.store.told);
      whole = whole_where_told managed specs old [] front old.store.told;
      counts = record {
        sends = subst (λ (n : ℕ). CountsFailed failed_send [] old.link.faults n) (sym only.sends) (counts_none failed_send old.link.faults);
        host =
            subst (λ (h : Device HostTold (List ℕ)). CountsFailed failed_host_call [] old.host.faults h.faults) (sym only.host)
            (counts_none failed_host_call old.host.faults);
        store =
            subst (λ (s : Device StoreTold StoreFails). CountsFailed failed_store_call [] old.store.faults s.faults) (sym only.store)
            (counts_none failed_store_call old.store.faults);
        hooks =
            subst (λ (h : Device HooksTold (List ℕ)). CountsFailed failed_hook_call [] old.hooks.faults h.faults) (sym only.hooks)
            (counts_none failed_hook_call old.hooks.faults);
      };
    }

pub filed_left : (end : ServeEnd) (allowed : ℕ) (managed : List Managed) (specs : List IfSpec) (old new : Seen) (out_from out_to : Option (List ℕ))
    (a b p q : ℕ)
    → HasLifeCause end a b p q → Leaves end allowed managed specs old new out_from out_to → LeavesFiled managed specs old new
filed_left ends.End allowed managed specs old new out_from out_to a b p q cause left = absurd cause
filed_left ends.TurnsOver allowed managed specs old new out_from out_to a b p q cause left =
    filed_life ends.TurnsOver allowed managed specs old new out_from out_to left
filed_left ends.LinkFault allowed managed specs old new out_from out_to a b p q cause (inl left) = filed_unbegun managed specs old new left.1
filed_left ends.LinkFault allowed managed specs old new out_from out_to a b p q cause (inr left) =
    filed_life ends.LinkFault allowed managed specs old new out_from out_to left
filed_left ends.WriteFault allowed managed specs old new out_from out_to a b p q cause (inl left) =
    filed_opening ends.WriteFault managed specs old new out_from out_to left
filed_left ends.WriteFault allowed managed specs old new out_from out_to a b p q cause (inr left) =
    filed_life ends.WriteFault allowed managed specs old new out_from out_to left
filed_left ends.NoMemory allowed managed specs old new out_from out_to a b p q cause (inl left) = filed_begun managed specs old new left.1
filed_left ends.NoMemory allowed managed specs old new out_from out_to a b p q cause (inr (inl left)) =
    filed_opening ends.NoMemory managed specs old new out_from out_to left
filed_left ends.NoMemory allowed managed specs old new out_from out_to a b p q cause (inr (inr left)) =
    filed_life ends.NoMemory allowed managed specs old new out_from out_to left
