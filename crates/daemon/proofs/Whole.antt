-- A whole life.
use Rattle.std.proofs.Common.{ℕ, ◌≡◌, ◌≤◌, List, [], ◌++◌, length, inl, inr, Option, Some, None, refl, sym, ap, subst, ◌∙◌, arith}
use Rattle.std.specs.Prelude.{IfSome, flat_map, option_map}
use Rattle.std.specs.Option.{is_some}
use Rattle.net_types.specs.declared.interface.IfSpec.{IfSpec}
use Rattle.world.specs.declared.wakes.Begin.{Begin}
use Rattle.world.specs.LinkCalls.{Given}
use Rattle.settings.specs.Fitting.{AreManaged}
use Rattle.settings.specs.declared.interfaces.Managed.{Managed}
use Rattle.device_calls.specs.Calls.{Call}
use Rattle.device_calls.specs.Worlds.{Seen, World, Ran, world_of, run}
use Rattle.device_calls.specs.Does.{IsRun}
use Rattle.device_calls.specs.Fronts.{HasBegun}
use Rattle.device_calls.proofs.Doing.{tells_then}
use Rattle.device_calls.proofs.Running.{run_coming}
use Rattle.turn_model.specs.Turns.{Life}
use Rattle.turn_model.specs.Opening.{opening_asks}
use Rattle.turn_model.specs.Lives.{Met, IsLast, life_after, turns_calls, opening_lines, turn_lines, closing_lines}
use Rattle.turn_model.specs.Foretold.{foretold_turns, foretold_life, left_in}
use Rattle.daemon.specs.declared.serving.ServeEnd.{ServeEnd}
use Rattle.daemon.specs.declared.serving.ServeEnd.TheVariants as ends
use Rattle.life_devices.specs.Waits.{BeginsThere, KnowsChild}
use Rattle.daemon.specs.Streams.{WritesBytes, WritesSome, WritesLines}
use Rattle.daemon.specs.Serving.{opening_with, told_last, MakesOpening, Ends, AreManyTurns, HasServeCause}
use Rattle.daemon.specs.Served.{IsLifeOf, Served}
use Rattle.daemon.specs.Cuts.{cut_lines, turns_left, BreaksOff, CutOpening, CutLife, BeginFails, Leaves}
use Rattle.daemon.proofs.Waitings.{began, begun_world}
use Rattle.daemon.proofs.Stretches.{lines_then, text_written}
use Rattle.daemon.proofs.CutOffs.{front_some, front_after, told_left, left_whole}
use Rattle.daemon.proofs.ToldLives.{begun_told, opening_told, ended_told, cut_told}

-- ---- what was foretold

opens_foretold : (managed : List Managed) (specs : List IfSpec) (begin : Begin) (calls : List Call) (life : Life) (mets : List Met)
    (old mid opened : Option World)
    → IfSome old (λ world. (begin ≡ world.link.told.begin) × (mid ≡ Some world))
    → IfSome mid (λ world. IsRun (run (opening_asks managed specs begin) world) calls life opened)
    → IfSome opened (λ world. foretold_turns managed life world ≡ mets)
    → IfSome old (λ world. IsLifeOf (opening_with begin calls life) mets (foretold_life managed specs world))
opens_foretold managed specs begin calls life mets None mid opened p q r = tt
opens_foretold managed specs begin calls life mets (Some world) mid opened p q r =
    let ran : IsRun (run (opening_asks managed specs begin) world) calls life opened =
    subst (λ (m : Option World). IfSome m (λ world. IsRun (run (opening_asks managed specs begin) world) calls life opened)) p.1 q in
    let rest : foretold_turns managed life (run (opening_asks managed specs begin) world).world ≡ mets =
    subst (λ (m : Option World). IfSome m (λ world. foretold_turns managed life world ≡ mets)) ran.world_is r in
    let started : Begin → Ran Life = λ b. run (opening_asks managed specs b) world in
    record {
      opening_is =
          (λ i. opening_with (sym p.0 i) (started (sym p.0 i)).calls (started (sym p.0 i)).result)
          ∙ (λ i. opening_with begin (sym ran.calls_are i) (sym ran.result_is i));
      mets_are =
          (λ i. foretold_turns managed (started (sym p.0 i)).result (started (sym p.0 i)).world)
          ∙ (λ i. foretold_turns managed (sym ran.result_is i) (started begin).world) ∙ rest;
    }

-- what is left is what was foretold at the beginning
leaves_foretold : (managed : List Managed) (specs : List IfSpec) (begin : Begin) (calls : List Call) (life : Life) (old mid opened new : Option World)
    → IfSome old (λ world. (begin ≡ world.link.told.begin) × (mid ≡ Some world))
    → IfSome mid (λ world. IsRun (run (opening_asks managed specs begin) world) calls life opened)
    → IfSome opened (λ world. option_map left_in new ≡ Some (left_in (told_last managed life world)))
    → IfSome old (λ world. option_map left_in new ≡ Some (foretold_life managed specs world).left)
leaves_foretold managed specs begin calls life None mid opened new p q r = tt
leaves_foretold managed specs begin calls life (Some world) mid opened new p q r =
    let ran : IsRun (run (opening_asks managed specs begin) world) calls life opened =
    subst (λ (m : Option World). IfSome m (λ world. IsRun (run (opening_asks managed specs begin) world) calls life opened)) p.1 q in
    let rest : option_map left_in new ≡ Some (left_in (told_last managed life (run (opening_asks managed specs begin) world).world)) =
    subst (λ (m : Option World). IfSome m (λ world. option_map left_in new ≡ Some (left_in (told_last managed life world)))) ran.world_is r in
    let started : Begin → Ran Life = λ b. run (opening_asks managed specs b) world in
    rest ∙ (λ i. Some (left_in (told_last managed (ran.result_is i) (started begin).world)))
    ∙ (λ i. Some (left_in (told_last managed (started (p.0 i)).result (started (p.0 i)).world)))

many_from : (managed : List Managed) (specs : List IfSpec) (begin : Begin) (calls : List Call) (life : Life) (turns : ℕ) (old mid opened : Option World)
    → IfSome old (λ world. (begin ≡ world.link.told.begin) × (mid ≡ Some world))
    → IfSome mid (λ world. IsRun (run (opening_asks managed specs begin) world) calls life opened)
    → IfSome opened (λ world. turns ≤ length world.link.told.coming) → IfSome old (λ world. turns ≤ length world.link.told.coming)
many_from managed specs begin calls life turns None mid opened p q r = tt
many_from managed specs begin calls life turns (Some world) mid opened p q r =
    let ran : IsRun (run (opening_asks managed specs begin) world) calls life opened =
    subst (λ (m : Option World). IfSome m (λ world. IsRun (run (opening_asks managed specs begin) world) calls life opened)) p.1 q in
    let here : turns ≤ length (run (opening_asks managed specs begin) world).world.link.told.coming =
    subst (λ (m : Option World). IfSome m (λ world. turns ≤ length world.link.told.coming)) ran.world_is r in
    subst (λ (c : List Given). turns ≤ length c) (run_coming (opening_asks managed specs begin) world) here

-- as many wakes come as were allowed, from the beginning on
pub many_before : (managed : List Managed) (specs : List IfSpec) (begin : Begin) (life : Life) (turns : ℕ) (old mid opened : Seen) (text_old text : List ℕ)
    → BeginsThere old mid (began begin) → MakesOpening managed specs begin life mid opened text_old text → AreManyTurns opened turns → AreManyTurns old turns
many_before managed specs begin life turns old mid opened text_old text begins made many =
    many_from managed specs begin made.calls life turns (world_of old) (world_of mid) (world_of opened)
    (begun_world begin old mid begins) made.did.foretold many

module _ (managed : List Managed) (specs : List IfSpec) (begin : Begin) (life : Life) (old mid opened : Seen) (text_old text written : List ℕ)
    (out out_one : Option (List ℕ))
    (begins : BeginsThere old mid (began begin)) (made : MakesOpening managed specs begin life mid opened text_old text) (empty : text_old ≡ [])
    (same : written ≡ text) (fit : AreManaged managed) where
  lines_written : WritesBytes out out_one written → WritesLines out out_one (opening_lines (opening_with begin made.calls life))
  lines_written wrote =
      text_written out out_one text_old written text (opening_lines (opening_with begin made.calls life)) empty made.lines same wrote

  last_there : (allowed : ℕ) (last : Life) (new : Seen) (out_two : Option (List ℕ)) (ends : Ends allowed managed life opened out_one last new out_two)
      → IsLast (life_after life ends.mets) ends.last
  last_there allowed last new out_two ends = subst (λ (l : Life). IsLast l ends.last) ends.after ends.last_is

  -- it was lived to its end
  pub serves : (allowed : ℕ) (last : Life) (new : Seen) (out_two out_three : Option (List ℕ)) → WritesBytes out out_one written
      → Ends allowed managed life opened out_one last new out_two → KnowsChild last.hooks new
      → WritesLines out_two out_three (closing_lines last) → Served allowed managed specs old new out out_three
  serves allowed last new out_two out_three wrote ends known closes = record {
    begun = record { begin = begin; seen = mid; begins = begins };
    opening = opening_with begin made.calls life;
    mets = ends.mets;
    last = ends.last;
    begins = refl;
    opens = made.did.makes;
    turns = ends.turns;
    last_is = last_there allowed last new out_two ends;
    within = ends.within;
    tells = tells_then mid opened new made.calls (turns_calls life ends.mets ++ ends.last) made.did.tells ends.tells;
    written =
        lines_then out out_one out_three (opening_lines (opening_with begin made.calls life))
        (flat_map turn_lines ends.mets ++ closing_lines (life_after life ends.mets)) (lines_written wrote)
        (lines_then out_one out_two out_three (flat_map turn_lines ends.mets) (closing_lines (life_after life ends.mets)) ends.written
        (subst (λ (l : Life). WritesLines out_two out_three (closing_lines l)) ends.after closes));
    foretold =
        opens_foretold managed specs begin made.calls life ends.mets (world_of old) (world_of mid) (world_of opened)
        (begun_world begin old mid begins) made.did.foretold ends.whole;
    left =
        leaves_foretold managed specs begin made.calls life (world_of old) (world_of mid) (world_of opened) (world_of new)
        (begun_world begin old mid begins) made.did.foretold ends.left;
    told =
        ended_told managed specs fit (opening_with begin made.calls life) made.did.makes ends.mets ends.last ends.turns
        (last_there allowed last new out_two ends);
    child = known ∙ ap (λ (l : Life). is_some l.hooks.child) ends.after;
  }

  -- the lines of the opening were not all written
  cut_opening : (end : ServeEnd) (out_to : Option (List ℕ)) → WritesSome out out_to written → CutOpening end managed specs old opened out out_to
  cut_opening end out_to some = record {
    begun = record { begin = begin; seen = mid; begins = begins };
    opening = opening_with begin made.calls life;
    rest = told_left managed life (world_of opened);
    begins = refl;
    opens = made.did.makes;
    written = front_some out out_to text_old written text (opening_lines (opening_with begin made.calls life)) empty made.lines same some;
    tells = made.did.tells;
    foretold =
        opens_foretold managed specs begin made.calls life (told_left managed life (world_of opened)) (world_of old) (world_of mid) (world_of opened)
        (begun_world begin old mid begins) made.did.foretold (left_whole managed life (world_of opened));
    told = opening_told managed specs fit (opening_with begin made.calls life) made.did.makes;
  }

  pub leaves_opening : (end : ServeEnd) (allowed : ℕ) (out_to : Option (List ℕ)) (a b : ℕ) → WritesSome out out_to written → HasServeCause end a b 0 0
      → Leaves end allowed managed specs old opened out out_to
  leaves_opening ends.End allowed out_to a b some cause = absurd cause
  leaves_opening ends.TurnsOver allowed out_to a b some cause = absurd cause
  leaves_opening ends.LinkFault allowed out_to a b some cause = absurd (omega (arith, cause.1))
  leaves_opening ends.WriteFault allowed out_to a b some cause = inl (cut_opening ends.WriteFault out_to some)
  leaves_opening ends.NoMemory allowed out_to a b some cause = inr (inl (cut_opening ends.NoMemory out_to some))

  -- it was cut off later
  cut_life : (end : ServeEnd) (allowed : ℕ) (new : Seen) (out_to : Option (List ℕ)) → WritesBytes out out_one written
      → BreaksOff end allowed managed life opened new out_one out_to → CutLife end allowed managed specs old new out out_to
  cut_life end allowed new out_to wrote breaks = record {
    begun = record { begin = begin; seen = mid; begins = begins };
    opening = opening_with begin made.calls life;
    mets = breaks.mets;
    at = breaks.at;
    calls = breaks.calls;
    begins = refl;
    opens = made.did.makes;
    cuts = breaks.cuts;
    turns = breaks.turns;
    written =
        front_after out out_one out_to (opening_lines (opening_with begin made.calls life)) (flat_map turn_lines breaks.mets)
        (cut_lines (life_after life breaks.mets) breaks.at) (lines_written wrote) breaks.written;
    tells = tells_then mid opened new made.calls (turns_calls life breaks.mets ++ breaks.calls) made.did.tells breaks.tells;
    foretold =
        opens_foretold managed specs begin made.calls life (breaks.mets ++ turns_left breaks.at) (world_of old) (world_of mid) (world_of opened)
        (begun_world begin old mid begins) made.did.foretold breaks.whole;
    within = breaks.within;
    all = breaks.all;
    told =
        cut_told managed specs fit (opening_with begin made.calls life) made.did.makes breaks.mets end breaks.at breaks.calls breaks.turns breaks.cuts;
  }

  pub leaves_life : (end : ServeEnd) (allowed : ℕ) (new : Seen) (out_to : Option (List ℕ)) → WritesBytes out out_one written
      → BreaksOff end allowed managed life opened new out_one out_to → Leaves end allowed managed specs old new out out_to
  leaves_life ends.End allowed new out_to wrote breaks = tt
  leaves_life ends.TurnsOver allowed new out_to wrote breaks = cut_life ends.TurnsOver allowed new out_to wrote breaks
  leaves_life ends.LinkFault allowed new out_to wrote breaks = inr (cut_life ends.LinkFault allowed new out_to wrote breaks)
  leaves_life ends.WriteFault allowed new out_to wrote breaks = inr (cut_life ends.WriteFault allowed new out_to wrote breaks)
  leaves_life ends.NoMemory allowed new out_to wrote breaks = inr (inr (cut_life ends.NoMemory allowed new out_to wrote breaks))

-- it could not begin
pub leaves_unbegun : (end : ServeEnd) (allowed : ℕ) (managed : List Managed) (specs : List IfSpec) (old new : Seen) (out : Option (List ℕ))
    → BeginFails end old new → Leaves end allowed managed specs old new out out
leaves_unbegun ends.End allowed managed specs old new out fails = absurd fails
leaves_unbegun ends.TurnsOver allowed managed specs old new out fails = absurd fails
leaves_unbegun ends.LinkFault allowed managed specs old new out fails = inl (refl, fails)
leaves_unbegun ends.WriteFault allowed managed specs old new out fails = absurd fails
leaves_unbegun ends.NoMemory allowed managed specs old new out fails = absurd fails

-- memory was wanted in its opening, whose lines weren't written yet
pub leaves_opened : (allowed : ℕ) (managed : List Managed) (specs : List IfSpec) → AreManaged managed
    → (begin : Begin) (old mid new : Seen) (out : Option (List ℕ)) → BeginsThere old mid (began begin)
    → HasBegun (opening_asks managed specs begin) mid new → Leaves ends.NoMemory allowed managed specs old new out out
leaves_opened allowed managed specs fit begin old mid new out begins opens =
    inl (
      refl,
      record {
        begun = record { begin = begin; seen = mid; begins = begins };
        opens = opens;
        told = begun_told managed specs fit begin opens.calls opens.front;
      },
    )
