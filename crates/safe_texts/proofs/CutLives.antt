-- What a life told up to a moment is what one of whole turns tells first, and so it is safe to read.
use Rattle.std.proofs.Common.{ℕ, ◌≡◌, Bool, true, false, inl, inr, List, [], ◌∷◌, ◌++◌, flat_map, Option, Some, None, refl, sym, ap, ap₂, subst, ◌∙◌, append_assoc, append-nil}
use Rattle.std.specs.Prelude.{◌⊎◌}
use Rattle.std.specs.List.{AllByRecursion}
use Rattle.net_types.proofs.AllLaws.{all_join, all_map}
use Rattle.net_types.specs.Marks.{AreBytes}
use Rattle.net_types.specs.declared.interface.IfSpec.{IfSpec}
use Rattle.world.specs.HookCalls.{Job}
use Rattle.world.specs.LinkCalls.{Given, Offered, Waited}
use Rattle.world.specs.StoreCalls.{Unread}
use Rattle.world.specs.declared.wakes.Begin.{Begin}
use Rattle.settings.specs.declared.interfaces.Managed.{Managed}
use Rattle.device_calls.specs.Calls.{Abandon, AnswerTo, Ask, Call, Change, Drop, Dropped, Hook, Host, Link, ListAsides, ListRows, Offer, Poll, Read, RemoveFile, RenameAside, Settle, Start, Store, SyncAside, WriteAside}
use Rattle.device_calls.specs.Fronts.{Fronts}
use Rattle.device_calls.specs.Programs.{Answers, Asks, Done, Makes, Then, calls_with, result_with}
use Rattle.turn_model.specs.LifeFronts.{BeginsTurn, FailsWait, FrontOfLife, FrontOfTurn}
use Rattle.turn_model.specs.Lives.{AreTurns, IsOpening, Met, OpeningMet, life_after, met_with, turn_calls, turns_calls}
use Rattle.turn_model.specs.Opening.{opening_asks}
use Rattle.turn_model.specs.Turns.{Life, is_end, is_over, turn_asks, until}
use Rattle.safe_texts.specs.ConfiguredTexts.{HasPlainVariables}
use Rattle.safe_texts.specs.ResolverLines.{AreOctets, IsLinesCall}
use Rattle.safe_texts.specs.SafeCalls.{GivesBytes, LivesTellSafely}
use Rattle.safe_texts.specs.SafeJobs.{AreSafeJobs, IsSafeJob, job_in}
use Rattle.safe_texts.proofs.ConfiguredLives.{job_plain}
use Rattle.safe_texts.proofs.LifeJobs.{life_jobs_are_safe}
use Rattle.safe_texts.proofs.LifeLines.{written_lines_are_safe}

-- ---- a front of questions, and what may be asked after it

abbrev some_answer : (ask : Ask) → AnswerTo ask
some_answer (Offer iface frame) = false
some_answer ListRows = None
some_answer (Change change) = false
some_answer ListAsides = None
some_answer (Read name) = Unread
some_answer (WriteAside name bytes) = false
some_answer (SyncAside name) = false
some_answer (RenameAside name) = false
some_answer (RemoveFile name) = false
some_answer Settle = false
some_answer (Start job) = false
some_answer (Poll number) = None
some_answer (Abandon number) = tt
some_answer (Drop job) = tt

abbrev some_answers : {A : Type 0} (asks : Asks A) → Answers asks
some_answers (Done x) = tt
some_answers (Then ask next) = (some_answer ask, some_answers (next (some_answer ask)))

-- as the front was answered, and then some answers
abbrev whole_answers : {A : Type 0} (asks : Asks A) (calls : List Call) → Fronts asks calls → Answers asks
whole_answers (Done x) calls front = tt
whole_answers (Then ask next) [] front = some_answers (Then ask next)
whole_answers (Then ask next) (call ∷ calls) front = (front.0, whole_answers (next front.0) calls front.2)

-- the calls after it
abbrev later_calls : {A : Type 0} (asks : Asks A) (calls : List Call) → Fronts asks calls → List Call
later_calls (Done x) calls front = []
later_calls (Then ask next) [] front = calls_with (Then ask next) (some_answers (Then ask next))
later_calls (Then ask next) (call ∷ calls) front = later_calls (next front.0) calls front.2

front_then : {A : Type 0} (asks : Asks A) (calls : List Call) (front : Fronts asks calls)
    → calls ++ later_calls asks calls front ≡ calls_with asks (whole_answers asks calls front)
front_then (Done x) [] front = refl
front_then (Done x) (call ∷ calls) front = absurd front
front_then (Then ask next) [] front = refl
front_then (Then ask next) (call ∷ calls) front =
    ap₂ (λ (c : Call) (cs : List Call). c ∷ cs) front.1 (front_then (next front.0) calls front.2)

abbrev whole_result : {A : Type 0} (asks : Asks A) (calls : List Call) → Fronts asks calls → A
whole_result asks calls front = result_with asks (whole_answers asks calls front)

front_makes : {A : Type 0} (asks : Asks A) (calls : List Call) (front : Fronts asks calls)
    → Makes asks (calls ++ later_calls asks calls front) (whole_result asks calls front)
front_makes asks calls front =
    record { answers = whole_answers asks calls front; calls_are = front_then asks calls front; result_is = refl }

-- ---- lists of calls

parts_all : {A : Type 0} (P : A → Type 0) (xs ys : List A) → AllByRecursion P (xs ++ ys) → AllByRecursion P xs × AllByRecursion P ys
parts_all P [] ys all = (tt, all)
parts_all P (x ∷ xs) ys all =
    let rest : AllByRecursion P xs × AllByRecursion P ys = parts_all P xs ys all.1 in
    ((all.0, rest.0), rest.1)

one_turn_more : (managed : List Managed) (from : Life) (mets : List Met) (met : Met) → AreTurns managed from mets
    → AreTurns managed (life_after from mets) (met ∷ []) → AreTurns managed from (mets ++ met ∷ [])
one_turn_more managed from [] met turns turn = turn
one_turn_more managed from (m ∷ mets) met turns turn = (turns.0, one_turn_more managed m.life mets met turns.1 turn)

turns_with : (from : Life) (mets : List Met) (met : Met)
    → turns_calls from (mets ++ met ∷ []) ≡ turns_calls from mets ++ (turn_calls (life_after from mets) met ++ [])
turns_with from [] met = refl
turns_with from (m ∷ mets) met =
    ap (λ (cs : List Call). turn_calls from m ++ cs) (turns_with m.life mets met)
    ∙ sym (append_assoc (turn_calls from m) (turns_calls m.life mets) (turn_calls (life_after m.life mets) met ++ []))

-- the frames of turns, and the calls after them
turns_bytes : (from : Life) (mets : List Met) (last : List Call) → AllByRecursion GivesBytes (turns_calls from mets ++ last)
    → AreOctets mets × AllByRecursion GivesBytes last
turns_bytes from [] last all = (tt, all)
turns_bytes from (met ∷ mets) last all =
    let later : AllByRecursion GivesBytes (turns_calls met.life mets ++ last) =
    (parts_all GivesBytes met.calls (turns_calls met.life mets ++ last)
    (subst (AllByRecursion GivesBytes) (append_assoc met.calls (turns_calls met.life mets) last) all.1)).1 in
    let rest : AreOctets mets × AllByRecursion GivesBytes last = turns_bytes met.life mets last later in
    ((all.0, rest.0), rest.1)

octets_join : (mets more : List Met) → AreOctets mets → AreOctets more → AreOctets (mets ++ more)
octets_join mets more one other = all_join (λ (met : Met). AreBytes met.bytes) mets more one other

-- ---- a life of whole turns

abbrev pub IsWait : Call → Type 0
IsWait (Link (Waited asked given)) = Unit {0}
IsWait call = ⊥

-- Its calls begin with these, but for waits at their end that began no turn.
pub record IsFrontOf (managed : List Managed) (specs : List IfSpec) (calls : List Call) : Type 0 where
  pub opening : OpeningMet
  pub mets : List Met
  pub opens : IsOpening managed specs opening
  pub turns : AreTurns managed opening.life mets
  pub octets : AllByRecursion GivesBytes calls → AreOctets mets
  pub firsts : List Call
  pub rest : List Call
  pub waits : List Call
  pub calls_are : calls ≡ firsts ++ waits
  pub whole_is : opening.calls ++ turns_calls opening.life mets ≡ firsts ++ rest
  pub each_waits : AllByRecursion IsWait waits

in_opening : (managed : List Managed) (specs : List IfSpec) (begin : Begin) (calls : List Call) → Fronts (opening_asks managed specs begin) calls
    → IsFrontOf managed specs calls
in_opening managed specs begin calls front =
    let asks : Asks Life = opening_asks managed specs begin in
    let later : List Call = later_calls asks calls front in
    record {
      opening = record { begin = begin; calls = calls ++ later; life = whole_result asks calls front };
      mets = [];
      opens = front_makes asks calls front;
      turns = tt;
      octets = λ all. tt;
      firsts = calls;
      rest = later ++ [];
      waits = [];
      calls_are = sym (append-nil calls);
      whole_is = append_assoc calls later [];
      each_waits = tt;
    }

module _ (managed : List Managed) (specs : List IfSpec) (opening : OpeningMet) (mets : List Met) (opens : IsOpening managed specs opening)
    (turns : AreTurns managed opening.life mets) where
  abbrev so_far : List Call
  so_far = turns_calls opening.life mets

  abbrev upto : Life
  upto = life_after opening.life mets

  bytes_of : (last : List Call) → AllByRecursion GivesBytes (opening.calls ++ (so_far ++ last)) → AreOctets mets × AllByRecursion GivesBytes last
  bytes_of last all = turns_bytes opening.life mets last (parts_all GivesBytes opening.calls (so_far ++ last) all).1

  -- no turn was begun
  only_waits : (waits : List Call) → AllByRecursion IsWait waits → IsFrontOf managed specs (opening.calls ++ (so_far ++ waits))
  only_waits waits each = record {
    opening = opening;
    mets = mets;
    opens = opens;
    turns = turns;
    octets = λ all. (bytes_of waits all).0;
    firsts = opening.calls ++ so_far;
    rest = [];
    waits = waits;
    calls_are = sym (append_assoc opening.calls so_far waits);
    whole_is = sym (append-nil (opening.calls ++ so_far));
    each_waits = each;
  }

  in_turn : (call : Call) (calls : List Call) → is_over upto ≡ false → BeginsTurn managed upto call calls
      → IsFrontOf managed specs (opening.calls ++ (so_far ++ call ∷ calls))
  in_turn call calls going begins = by (is_end begins.wake.event) refl
    where
      asks : Asks Life
      asks = turn_asks managed upto begins.wake begins.bytes

      wait : Call
      wait = Link (Waited (until upto) (Some (record { wake = begins.wake; bytes = begins.bytes })))

      later : List Call
      later = later_calls asks calls begins.front

      met : Met
      met = met_with begins.wake begins.bytes (calls ++ later) (whole_result asks calls begins.front)

      by : (b : Bool) → is_end begins.wake.event ≡ b → IsFrontOf managed specs (opening.calls ++ (so_far ++ call ∷ calls))
      by true is =
          subst (λ (cs : List Call). IsFrontOf managed specs (opening.calls ++ (so_far ++ cs)))
          (sym (ap₂ (λ (c : Call) (cs : List Call). c ∷ cs) begins.waited (begins.more is))) (only_waits (wait ∷ []) (tt, tt))
      by false is =
          subst (λ (c : Call). IsFrontOf managed specs (opening.calls ++ (so_far ++ c ∷ calls))) (sym begins.waited)
          (record {
            opening = opening;
            mets = mets ++ met ∷ [];
            opens = opens;
            turns =
                one_turn_more managed opening.life mets met turns (record { going = going; more = is; makes = front_makes asks calls begins.front }, tt);
            octets =
                λ all. let bytes : AreOctets mets × AllByRecursion GivesBytes (wait ∷ calls) = bytes_of (wait ∷ calls) all in
                octets_join mets (met ∷ []) bytes.0 (bytes.1.0, tt);
            firsts = opening.calls ++ (so_far ++ wait ∷ calls);
            rest = later ++ [];
            waits = [];
            calls_are = sym (append-nil (opening.calls ++ (so_far ++ wait ∷ calls)));
            whole_is =
                ap (λ (cs : List Call). opening.calls ++ cs)
                (turns_with opening.life mets met ∙ ap (λ (cs : List Call). so_far ++ wait ∷ cs) (append_assoc calls later [])
                ∙ sym (append_assoc so_far (wait ∷ calls) (later ++ [])))
                ∙ sym (append_assoc opening.calls (so_far ++ wait ∷ calls) (later ++ []));
            each_waits = tt;
          })

  in_turns : (last : List Call) → FrontOfTurn managed upto last → IsFrontOf managed specs (opening.calls ++ (so_far ++ last))
  in_turns [] front = only_waits [] tt
  in_turns (call ∷ calls) front = by front.1
    where
      by : FailsWait upto call calls ⊎ BeginsTurn managed upto call calls → IsFrontOf managed specs (opening.calls ++ (so_far ++ call ∷ calls))
      by (inl fails) =
          subst (λ (cs : List Call). IsFrontOf managed specs (opening.calls ++ (so_far ++ cs)))
          (sym (ap₂ (λ (c : Call) (cs : List Call). c ∷ cs) fails.0 fails.1)) (only_waits (Link (Waited (until upto) None) ∷ []) (tt, tt))
      by (inr begins) = in_turn call calls front.0 begins

pub life_front : (managed : List Managed) (specs : List IfSpec) (calls : List Call) → FrontOfLife managed specs calls → IsFrontOf managed specs calls
life_front managed specs calls (inl opening) = in_opening managed specs opening.begin calls opening.front
life_front managed specs calls (inr life) =
    subst (IsFrontOf managed specs) (sym life.calls_are) (in_turns managed specs life.opening life.mets life.opens life.turns life.last life.front)

-- ---- what holds of its calls

each_of : (P : Call → Type 0) → ((asked : Option ℕ) (given : Option Given) → P (Link (Waited asked given))) → (waits : List Call)
    → AllByRecursion IsWait waits → AllByRecursion P waits
each_of P waiting [] each = tt
each_of P waiting (Link (Waited asked given) ∷ waits) each = (waiting asked given, each_of P waiting waits each.1)
each_of P waiting (Link (Offered iface frame taken) ∷ waits) each = absurd each.0
each_of P waiting (Host call ∷ waits) each = absurd each.0
each_of P waiting (Store call ∷ waits) each = absurd each.0
each_of P waiting (Hook number call ∷ waits) each = absurd each.0
each_of P waiting (Dropped job ∷ waits) each = absurd each.0

module _ (managed : List Managed) (specs : List IfSpec) (calls : List Call) (is : IsFrontOf managed specs calls) where
  pub calls_all : (P : Call → Type 0) → ((asked : Option ℕ) (given : Option Given) → P (Link (Waited asked given)))
      → AllByRecursion P (is.opening.calls ++ turns_calls is.opening.life is.mets) → AllByRecursion P calls
  calls_all P waiting all =
      subst (AllByRecursion P) (sym is.calls_are)
      (all_join P is.firsts is.waits (parts_all P is.firsts is.rest (subst (AllByRecursion P) is.whole_is all)).0
      (each_of P waiting is.waits is.each_waits))

jobs_by_call : (P : Job → Type 0) (calls : List Call) → AllByRecursion P (flat_map job_in calls)
    → AllByRecursion (λ (call : Call). AllByRecursion P (job_in call)) calls
jobs_by_call P [] all = tt
jobs_by_call P (call ∷ calls) all =
    let parts : AllByRecursion P (job_in call) × AllByRecursion P (flat_map job_in calls) =
    parts_all P (job_in call) (flat_map job_in calls) all in
    (parts.0, jobs_by_call P calls parts.1)

jobs_joined : (P : Job → Type 0) (calls : List Call) → AllByRecursion (λ (call : Call). AllByRecursion P (job_in call)) calls
    → AllByRecursion P (flat_map job_in calls)
jobs_joined P [] all = tt
jobs_joined P (call ∷ calls) all = all_join P (job_in call) (flat_map job_in calls) all.0 (jobs_joined P calls all.1)

-- ---- each life

pub lives_tell_safely : LivesTellSafely
lives_tell_safely managed specs calls fit front = record {
  jobs = safe;
  variables = λ plain. all_map (IsSafeJob managed) HasPlainVariables (job_plain managed plain) (flat_map job_in calls) safe;
  resolver = λ servers bytes. calls_all managed specs calls is IsLinesCall (λ asked given. tt)
      (written_lines_are_safe managed specs is.opening is.mets
      (record { fit = fit; servers = servers; opens = is.opens; turns = is.turns; octets = is.octets bytes }));
}
  where
    is : IsFrontOf managed specs calls
    is = life_front managed specs calls front

    safe : AreSafeJobs managed (flat_map job_in calls)
    safe =
        jobs_joined (IsSafeJob managed) calls
        (calls_all managed specs calls is (λ (call : Call). AreSafeJobs managed (job_in call)) (λ asked given. tt)
        (jobs_by_call (IsSafeJob managed) (is.opening.calls ++ turns_calls is.opening.life is.mets)
        (life_jobs_are_safe managed specs is.opening is.mets fit is.opens is.turns)))
