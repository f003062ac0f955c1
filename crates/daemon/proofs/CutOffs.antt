-- Lives that are cut off.
use Rattle.std.proofs.Common.{ℕ, ◌≡◌, ◌≤◌, ◌+◌, true, false, inr, List, [], ◌∷◌, ◌++◌, length, take, Option, Some, None, refl, sym, ap, subst, ◌∙◌, append_assoc, append-nil, arith}
use Rattle.std.specs.Prelude.{flat_map, IfSome}
use Rattle.std.proofs.lemmas.List.{length-append}
use Rattle.std.proofs.lemmas.List.Concat.{flat_map-append}
use Rattle.world.specs.declared.wakes.Wake.{Wake}
use Rattle.world.specs.LinkCalls.{Waited, frame_len}
use Rattle.settings.specs.declared.interfaces.Managed.{Managed}
use Rattle.script_model.specs.Lines.{Line, line_text, lines_text}
use Rattle.device_calls.specs.Calls.{Call, Link}
use Rattle.device_calls.specs.Worlds.{Seen, World, world_of}
use Rattle.device_calls.specs.Telling.{Tells}
use Rattle.device_calls.specs.Fronts.{HasBegun}
use Rattle.device_calls.specs.Printing.{Prints}
use Rattle.device_calls.proofs.Doing.{tells_none, tells_then}
use Rattle.turn_model.specs.Turns.{Life, turn_asks, until, is_over, is_end}
use Rattle.turn_model.specs.Lives.{Met, met_with, AreTurns, IsLast, life_after, turn_calls, turns_calls, turn_lines, closing_lines}
use Rattle.turn_model.specs.LifeFronts.{BeginsTurn}
use Rattle.turn_model.specs.Foretold.{foretold_turns}
use Rattle.daemon.specs.declared.serving.ServeEnd.{ServeEnd}
use Rattle.daemon.specs.declared.serving.ServeEnd.TheVariants as ends
use Rattle.life_devices.specs.Waits.{WaitsThere}
use Rattle.daemon.specs.Streams.{WritesLines, WritesSome, WritesFront}
use Rattle.daemon.specs.Serving.{MakesTurn, AreWhole, Goes, Ends, HasServeCause}
use Rattle.daemon.specs.Cuts.{Between, InTurn, AtEnd, cut_lines, cut_turns, turns_left, CutsAt, wakes_asked, HandledAll, WaitFails, BreaksOff}
use Rattle.daemon.proofs.Stretches.{turns-append, life_after-append, turns_calls-append, whole_then}
use Rattle.daemon.proofs.Waitings.{woke, wait_tells}
use Rattle.daemon.proofs.OneTurn.{turn_first, turn_tells}

-- ---- what stands written

-- nothing was written of these lines
pub front_none : (old : Option (List ℕ)) (lines : List Line) → WritesFront old old [] lines
front_none None lines = refl
front_none (Some w) lines = (0, ap (λ (x : List ℕ). Some x) (sym (append-nil (w ++ []) ∙ append-nil w)))

-- a front of the text was written
pub front_some : (old new : Option (List ℕ)) (start bytes text : List ℕ) (lines : List Line) → start ≡ [] → Prints start text lines → bytes ≡ text
    → WritesSome old new bytes → WritesFront old new [] lines
front_some None new start bytes text lines empty printed same some = some
front_some (Some w) new start bytes text lines empty printed same some =
    let is : bytes ≡ lines_text lines = same ∙ printed.appended ∙ ap (λ (s : List ℕ). s ++ lines_text lines) empty in
    (some.0, some.1 ∙ ap (λ (x : List ℕ). Some (x ++ take some.0 bytes)) (sym (append-nil w)) ∙ ap (λ (b : List ℕ). Some ((w ++ []) ++ take some.0 b)) is)

-- lines were written before the front
pub front_after : (old mid new : Option (List ℕ)) (before whole lines : List Line) → WritesLines old mid before → WritesFront mid new whole lines
    → WritesFront old new (before ++ whole) lines
front_after None mid new before whole lines p q = subst (λ (m : Option (List ℕ)). WritesFront m new whole lines) p.bytes q
front_after (Some w) mid new before whole lines p q =
    let here : WritesFront (Some (w ++ lines_text before)) new whole lines = subst (λ (m : Option (List ℕ)). WritesFront m new whole lines) p.bytes q in (
      here.0,
      here.1
          ∙ ap (λ (x : List ℕ). Some (x ++ take here.0 (lines_text lines)))
          (append_assoc w (lines_text before) (lines_text whole) ∙ ap (λ (x : List ℕ). w ++ x) (sym (flat_map-append line_text before whole))),
    )

-- ---- what is told

-- the turns that are still to come, where these are foretold
pub told_left : List Managed → Life → Option World → List Met
told_left managed life None = []
told_left managed life (Some world) = foretold_turns managed life world

pub left_whole : (managed : List Managed) (life : Life) (told : Option World)
    → IfSome told (λ world. foretold_turns managed life world ≡ told_left managed life told)
unfolding told_left
left_whole managed life None = tt
left_whole managed life (Some world) = refl

-- ---- cut off between turns

breaks_now : (end : ServeEnd) (allowed : ℕ) (managed : List Managed) (life : Life) (old new : Seen) (calls : List Call) (out : Option (List ℕ))
    → CutsAt end managed life (Between (told_left managed life (world_of old))) calls → Tells old new calls
    → wakes_asked (Between (told_left managed life (world_of old))) calls ≤ allowed → HandledAll end 0 allowed
    → BreaksOff end allowed managed life old new out out
breaks_now end allowed managed life old new calls out cuts tells fits all = record {
  mets = [];
  at = Between (told_left managed life (world_of old));
  calls = calls;
  cuts = cuts;
  turns = tt;
  written = front_none out [];
  tells = tells;
  whole = left_whole managed life (world_of old);
  within = omega (arith, fits);
  all = all;
}

-- memory was wanted before the next wait, or by it
pub breaks_for_memory : (allowed : ℕ) (managed : List Managed) (life : Life) (old new : Seen) (out : Option (List ℕ)) → is_over life ≡ false → Tells old new []
    → BreaksOff ends.NoMemory allowed managed life old new out out
breaks_for_memory allowed managed life old new out going tells = breaks_now ends.NoMemory allowed managed life old new [] out (tt, going) tells (omega arith) tt

-- the next wait failed, or wanted memory
pub breaks_at_wait : (end : ServeEnd) (managed : List Managed) (life : Life) (old new : Seen) (asked : Option ℕ) (out : Option (List ℕ)) → asked ≡ until life
    → is_over life ≡ false
    → WaitFails end asked old new → BreaksOff end 1 managed life old new out out
breaks_at_wait ends.End managed life old new asked out asked_is going fails = absurd fails
breaks_at_wait ends.TurnsOver managed life old new asked out asked_is going fails = absurd fails
breaks_at_wait ends.LinkFault managed life old new asked out asked_is going fails =
    breaks_now ends.LinkFault 1 managed life old new (Link (Waited asked None) ∷ []) out
    (ap (λ (a : Option ℕ). Link (Waited a None) ∷ []) asked_is, going) fails (omega arith) tt
breaks_at_wait ends.WriteFault managed life old new asked out asked_is going fails = absurd fails
breaks_at_wait ends.NoMemory managed life old new asked out asked_is going fails = breaks_for_memory 1 managed life old new out going fails

-- memory was wanted in a turn, of whose calls a front was made
pub breaks_within_turn : (managed : List Managed) (from : Life) (wake : Wake) (bytes buffer : List ℕ) (asked : Option ℕ) (old mid new : Seen)
    (out : Option (List ℕ))
    → is_over from ≡ false → is_end wake.event ≡ false → length buffer ≡ 2048 → bytes ≡ take (frame_len wake.event) buffer
    → WaitsThere asked old mid buffer (woke wake) → asked ≡ until from → HasBegun (turn_asks managed from wake bytes) mid new
    → BreaksOff ends.NoMemory 1 managed from old new out out
breaks_within_turn managed from wake bytes buffer asked old mid new out going more room front waits asked_is begun =
    let waits_here : WaitsThere (until from) old mid buffer (woke wake) = subst (λ (a : Option ℕ). WaitsThere a old mid buffer (woke wake)) asked_is waits in
    let over : is_end wake.event ≡ true → begun.calls ≡ [] = λ is. absurd (let bad : false ≡ true = sym more ∙ is in cc) in
    let begins : BeginsTurn managed from (Link (Waited (until from) (Some (record { wake = wake; bytes = bytes })))) begun.calls =
    record { wake = wake; bytes = bytes; waited = refl; front = begun.front; more = over } in
    breaks_now ends.NoMemory 1 managed from old new (Link (Waited (until from) (Some (record { wake = wake; bytes = bytes }))) ∷ begun.calls) out
    ((going, inr begins), going)
    (tells_then old mid new (Link (Waited (until from) (Some (record { wake = wake; bytes = bytes }))) ∷ []) begun.calls
    (wait_tells (until from) wake bytes buffer more room front old mid waits_here) begun.tells)
    (omega arith) tt

-- ---- cut off in the lines of a turn

-- a device call cut the life off, and not the number of turns
handled_other : (end : ServeEnd) (a b p q handled allowed : ℕ) → HasServeCause end a b p q → HandledAll end handled allowed
handled_other ends.End a b p q handled allowed cause = tt
handled_other ends.TurnsOver a b p q handled allowed cause = absurd cause
handled_other ends.LinkFault a b p q handled allowed cause = tt
handled_other ends.WriteFault a b p q handled allowed cause = tt
handled_other ends.NoMemory a b p q handled allowed cause = tt

cuts_in_turn : (end : ServeEnd) (a b : ℕ) (managed : List Managed) (life : Life) (met : Met) (rest : List Met) → HasServeCause end a b 0 0
    → CutsAt end managed life (InTurn met rest) (turn_calls life met)
cuts_in_turn ends.End a b managed life met rest cause = absurd cause
cuts_in_turn ends.TurnsOver a b managed life met rest cause = absurd cause
cuts_in_turn ends.LinkFault a b managed life met rest cause = absurd (omega (arith, cause.1))
cuts_in_turn ends.WriteFault a b managed life met rest cause = refl
cuts_in_turn ends.NoMemory a b managed life met rest cause = refl

pub breaks_in_turn : (end : ServeEnd) (managed : List Managed) (from to : Life) (wake : Wake) (bytes buffer text_old text written : List ℕ) (asked : Option ℕ)
    (old mid new : Seen) (out out_to : Option (List ℕ)) (a b : ℕ)
    → (made : MakesTurn managed from wake bytes to mid new text_old text) → text_old ≡ [] → written ≡ text → WritesSome out out_to written
    → is_over from ≡ false → is_end wake.event ≡ false → length buffer ≡ 2048 → bytes ≡ take (frame_len wake.event) buffer
    → WaitsThere asked old mid buffer (woke wake) → asked ≡ until from → HasServeCause end a b 0 0
    → BreaksOff end 1 managed from old new out out_to
breaks_in_turn end managed from to wake bytes buffer text_old text written asked old mid new out out_to a b made empty same some going more room front waits
    asked_is cause =
    let waits_here : WaitsThere (until from) old mid buffer (woke wake) = subst (λ (a : Option ℕ). WaitsThere a old mid buffer (woke wake)) asked_is waits in
    record {
      mets = [];
      at = InTurn (met_with wake bytes made.calls to) (told_left managed to (world_of new));
      calls = turn_calls from (met_with wake bytes made.calls to);
      cuts = cuts_in_turn end a b managed from _ _ cause;
      turns = (record { going = going; more = more; makes = made.did.makes }, tt);
      written = front_some out out_to text_old written text (turn_lines (met_with wake bytes made.calls to)) empty made.lines same some;
      tells = turn_tells from to wake bytes buffer made.calls old mid new more room front waits_here made.did.tells;
      whole = whole_then managed from to old new (met_with wake bytes made.calls to ∷ []) (told_left managed to (world_of new))
          (turn_first managed from to wake bytes buffer made.calls old mid new going more room front waits_here made.did)
          (left_whole managed to (world_of new));
      within = omega arith;
      all = handled_other end a b 0 0 0 1 cause;
    }

-- ---- cut off later

-- turns were taken, and then the life was cut off
pub goes_breaks : (end : ServeEnd) (allowed then_allowed : ℕ) (managed : List Managed) (from mid : Life) (old at_mid new : Seen)
    (out out_mid out_to : Option (List ℕ)) (mets : List Met)
    → length mets + then_allowed ≤ allowed
    → ((then_handled : ℕ) → HandledAll end then_handled then_allowed → HandledAll end (length mets + then_handled) allowed)
    → Goes managed from old out mid at_mid out_mid mets → BreaksOff end then_allowed managed mid at_mid new out_mid out_to
    → BreaksOff end allowed managed from old new out out_to
goes_breaks end allowed then_allowed managed from mid old at_mid new out out_mid out_to mets fits all p q =
    let last_is : life_after mid q.mets ≡ life_after from (mets ++ q.mets) =
    ap (λ (life : Life). life_after life q.mets) p.after ∙ sym (life_after-append from mets q.mets) in
    record {
      mets = mets ++ q.mets;
      at = q.at;
      calls = q.calls;
      cuts = subst (λ (life : Life). CutsAt end managed life q.at q.calls) last_is q.cuts;
      turns = subst (λ (ms : List Met). AreTurns managed from ms) (sym (append_assoc mets q.mets (cut_turns q.at)))
          (turns-append managed from mets (q.mets ++ cut_turns q.at) p.turns
          (subst (λ (life : Life). AreTurns managed life (q.mets ++ cut_turns q.at)) p.after q.turns));
      written = subst (λ (life : Life). WritesFront out out_to (flat_map turn_lines (mets ++ q.mets)) (cut_lines life q.at)) last_is
          (subst (λ (ls : List Line). WritesFront out out_to ls (cut_lines (life_after mid q.mets) q.at)) (sym (flat_map-append turn_lines mets q.mets))
          (front_after out out_mid out_to (flat_map turn_lines mets) (flat_map turn_lines q.mets)
          (cut_lines (life_after mid q.mets) q.at) p.written q.written));
      tells = subst (λ (cs : List Call). Tells old new cs)
          (sym (append_assoc (turns_calls from mets) (turns_calls (life_after from mets) q.mets) q.calls)
          ∙ ap (λ (cs : List Call). cs ++ q.calls) (sym (turns_calls-append from mets q.mets)))
          (tells_then old at_mid new (turns_calls from mets) (turns_calls (life_after from mets) q.mets ++ q.calls) p.tells
          (subst (λ (life : Life). Tells at_mid new (turns_calls life q.mets ++ q.calls)) p.after q.tells));
      whole = subst (λ (ms : List Met). AreWhole managed from old ms) (sym (append_assoc mets q.mets (turns_left q.at)))
          (whole_then managed from mid old at_mid mets (q.mets ++ turns_left q.at) p.foretold q.whole);
      within = omega (arith, fits, q.within, length-append mets q.mets);
      all = subst (λ (handled : ℕ). HandledAll end handled allowed) (sym (length-append mets q.mets)) (all (length q.mets) q.all);
    }

-- more turns were allowed than were taken before a device call cut the life off
pub goes_broken : (end : ServeEnd) (allowed then_allowed : ℕ) (managed : List Managed) (from mid : Life) (old at_mid new : Seen)
    (out out_mid out_to : Option (List ℕ)) (mets : List Met) (a b p q : ℕ)
    → length mets + then_allowed ≤ allowed → HasServeCause end a b p q
    → Goes managed from old out mid at_mid out_mid mets → BreaksOff end then_allowed managed mid at_mid new out_mid out_to
    → BreaksOff end allowed managed from old new out out_to
goes_broken end allowed then_allowed managed from mid old at_mid new out out_mid out_to mets a b p q fits cause =
    goes_breaks end allowed then_allowed managed from mid old at_mid new out out_mid out_to mets fits
    (λ then_handled all. handled_other end a b p q (length mets + then_handled) allowed cause)

-- as many turns were taken as were allowed
pub goes_over : (allowed : ℕ) (managed : List Managed) (from to : Life) (old new : Seen) (out out_to : Option (List ℕ)) (mets : List Met)
    → length mets ≡ allowed → is_over to ≡ false → Goes managed from old out to new out_to mets
    → BreaksOff ends.TurnsOver allowed managed from old new out out_to
goes_over allowed managed from to old new out out_to mets counted going p =
    goes_breaks ends.TurnsOver allowed 0 managed from to old new new out out_to out_to mets (omega (arith, counted))
    (λ then_handled all. omega (arith, counted, all)) p
    (breaks_now ends.TurnsOver 0 managed to new new [] out_to (refl, going) (tells_none new) (omega arith) refl)

-- the lines after the last turn were not all written
cuts_at_end : (end : ServeEnd) (a b : ℕ) (managed : List Managed) (life : Life) (last : List Call) → IsLast life last → HasServeCause end a b 0 0
    → CutsAt end managed life AtEnd last
cuts_at_end ends.End a b managed life last is cause = absurd cause
cuts_at_end ends.TurnsOver a b managed life last is cause = absurd cause
cuts_at_end ends.LinkFault a b managed life last is cause = absurd (omega (arith, cause.1))
cuts_at_end ends.WriteFault a b managed life last is cause = is
cuts_at_end ends.NoMemory a b managed life last is cause = is

pub breaks_at_end : (end : ServeEnd) (allowed : ℕ) (managed : List Managed) (from to : Life) (old new : Seen) (out out_mid out_to : Option (List ℕ)) (a b : ℕ)
    → Ends allowed managed from old out to new out_mid → WritesFront out_mid out_to [] (closing_lines to) → HasServeCause end a b 0 0
    → BreaksOff end allowed managed from old new out out_to
breaks_at_end end allowed managed from to old new out out_mid out_to a b ends front cause = record {
  mets = ends.mets;
  at = AtEnd;
  calls = ends.last;
  cuts = cuts_at_end end a b managed (life_after from ends.mets) ends.last (subst (λ (life : Life). IsLast life ends.last) ends.after ends.last_is) cause;
  turns = subst (λ (ms : List Met). AreTurns managed from ms) (sym (append-nil ends.mets)) ends.turns;
  written = subst (λ (life : Life). WritesFront out out_to (flat_map turn_lines ends.mets) (closing_lines life)) ends.after
      (subst (λ (ls : List Line). WritesFront out out_to ls (closing_lines to)) (append-nil (flat_map turn_lines ends.mets))
      (front_after out out_mid out_to (flat_map turn_lines ends.mets) [] (closing_lines to) ends.written front));
  tells = ends.tells;
  whole = subst (λ (ms : List Met). AreWhole managed from old ms) (sym (append-nil ends.mets)) ends.whole;
  within = ends.within;
  all = handled_other end a b 0 0 (length ends.mets) allowed cause;
}
