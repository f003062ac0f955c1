-- A life over devices that fit is told in lines that stand in their places, where what its client says fits.
use Rattle.std.proofs.Common.{◌≡◌, ℕ, ◌≤◌, ◌^◌, Bool, true, false, ◌||◌, if◌then◌else◌, List, [], ◌∷◌, ◌++◌, drop, flat_map, length, map, min, take, Option, refl, sym, subst, arith}
use Rattle.std.specs.List.{AllByRecursion}
use Rattle.std.proofs.lemmas.Bool.{and_from, le-leb, lt-ltb}
use Rattle.std.proofs.lemmas.List.{length-take}
use Rattle.net_types.specs.AddressText.{FitsNet}
use Rattle.net_types.specs.Marks.{AreBytes}
use Rattle.net_types.specs.declared.address.Net.{Net}
use Rattle.net_types.specs.declared.address.Net.TheVariants.{V4, V6}
use Rattle.net_types.specs.declared.interface.IfSpec.{IfSpec}
use Rattle.net_types.proofs.Checksum.{take_bytes}
use Rattle.machine.specs.Moment.{moment_of}
use Rattle.world.specs.declared.rows.HostRow.{HostRow}
use Rattle.world.specs.declared.rows.HostRow.TheVariants.{Addr, Route}
use Rattle.world.specs.declared.wakes.Begin.{Begin}
use Rattle.world.specs.declared.wakes.Event.{Event}
use Rattle.world.specs.declared.wakes.Event.TheVariants.{Frame, Carrier, Duplicate, Release, Rebind, Stop, Quiet, End}
use Rattle.world.specs.declared.wakes.Wake.{Wake}
use Rattle.world.specs.LinkCalls.{Given, cut_event, frame_len}
use Rattle.world.specs.Rows.{IsNet}
use Rattle.settings.specs.declared.interfaces.Managed.{Managed}
use Rattle.settings.specs.Fitting.{AreManaged}
use Rattle.script_model.specs.Lines.{Line}
use Rattle.script_model.specs.Lines as model
use Rattle.script_model.specs.Scripts.{frame_room}
use Rattle.client_model.specs.Clients.{Client, rows_of}
use Rattle.device_calls.specs.CallLines.{lines_of}
use Rattle.device_calls.specs.Calls.{Call}
use Rattle.device_calls.specs.Worlds.{Ran, World}
use Rattle.turn_model.specs.Foretold.{met_of, opening_of, ran_opening, ran_turn, told_after, told_bytes, told_turns, told_wake, woken}
use Rattle.turn_model.specs.Lives.{Met, OpeningMet, hold_lines, life_after}
use Rattle.turn_model.specs.Opening.{opening_asks}
use Rattle.turn_model.specs.Turns.{Life, is_end, is_over, turn_asks, turn_moment, until}
use Rattle.transcript_model.specs.LifeShapes.{AllFollow, NeverFall}
use Rattle.transcript_model.specs.Told.{TurnTold, lines_within, turn_lines}
use Rattle.transcript_text.specs.Fits.{FitsEvent, FitsMoment, IsWord}
use Rattle.audit_model.specs.LivesTold.{held_at_end, life_lived, lines_by, only_last, turn_lived, turns_lived}
use Rattle.typed_lines.specs.TypedLines.{AreTyped}
use Rattle.typed_lines.proofs.TypedParts.{typed_parts}
use Rattle.told_lives.specs.FittingWorlds.{FitsBegin, FitsComing, FitsInput, FitsWorld}
use Rattle.told_lives.specs.Laws.{IsShort, IsTypedLife, IsWellTold, TellsWell, life_foretold}
use Rattle.told_lives.proofs.Answering.{FitLines, FitsCall, Went, calls_fit, lines_both, plain_line, run_went}
use Rattle.told_lives.proofs.FittingTurns.{FitsLife, KeepsFitting, LivesAt, opening_goes, turn_goes}
use Rattle.told_lives.proofs.StandingLines.{Stand, lines_told, stand_both, stand_none}

-- ---- what comes

event_fits : (event : Event) (bytes : List ℕ) → FitsInput event → AreBytes bytes → is_end event ≡ false
    → FitsEvent (cut_event event (length bytes) frame_room) (take (frame_len (cut_event event (length bytes) frame_room)) bytes)
event_fits (Frame iface len) bytes fits octets more =
    let count = length-take (min (length bytes) frame_room) bytes in
    (fits, omega (arith, count), take_bytes (min (length bytes) frame_room) bytes octets)
event_fits (Carrier iface up) bytes fits octets more = (fits, refl)
event_fits (Duplicate iface addr) bytes fits octets more = (fits.0, fits.1, refl)
event_fits (Release iface) bytes fits octets more = (fits, refl)
event_fits (Rebind iface) bytes fits octets more = (fits, refl)
event_fits Stop bytes fits octets more = refl
event_fits Quiet bytes fits octets more = refl
event_fits End bytes fits octets more = absurd cc

rest_of : {A : Type 0} (P : A → Type 0) (xs : List A) → AllByRecursion P xs → AllByRecursion P (drop 1 xs)
rest_of P [] all = tt
rest_of P (x ∷ xs) all = all.1

woken_fits : (asked : Option ℕ) (wake : Wake) (bytes : List ℕ) (world : World) → FitsWorld world → FitsWorld (woken asked wake bytes world)
woken_fits asked wake bytes world fits = record {
  link = record { begin = fits.link.begin; coming = rest_of FitsComing world.link.told.coming fits.link.coming };
  others = fits.others;
}

-- ---- the addresses that stay

net_fits : (net : Net) → IsNet net → FitsNet net
net_fits (V4 net) is = record { address = is.0; prefix = is.1 }
net_fits (V6 net) is = record { address = is.0; prefix = is.1 }

no_lines : FitLines []
no_lines = record { stand = stand_none; follow = tt }

held_fit : (rows : List HostRow) → AreTyped (hold_lines rows) → FitLines (hold_lines rows)
held_fit [] typed = no_lines
held_fit (Addr iface net ∷ rows) typed =
    let high = typed.0.0.1 in
    lines_both (model.Hold iface net ∷ []) (hold_lines rows)
    (plain_line (model.Hold iface net) refl
    (record { fits = (omega (arith, high), net_fits net typed.0.1); told = and_from _ _ (le-leb 1 iface.number typed.0.0.0) (le-leb iface.number 64 high) }))
    (held_fit rows typed.1)
held_fit (Route iface dest way metric ∷ rows) typed = held_fit rows typed

last_fit : {T : Type 0} (later : List T) (rows : List HostRow) → AreTyped (only_last later (hold_lines rows)) → FitLines (only_last later (hold_lines rows))
last_fit [] rows typed = held_fit rows typed
last_fit (one ∷ later) rows typed = no_lines

or_right_false : (a b : Bool) → false ≡ (a || b) → b ≡ false
or_right_false true b e = absurd cc
or_right_false false b e = sym e

-- ---- lines within their types

abbrev TypedCalls : Met → Type 0
TypedCalls met = AreTyped (flat_map lines_of met.calls)

-- those of a turn, in their parts
record TypedTurn (calls : List Call) (life : Life) (closing : List Line) : Type 0 where
  asked : AreTyped (flat_map lines_of calls)
  moment : FitsMoment (until life)
  closes : AreTyped closing

typed_turn : (calls : List Call) (life : Life) (closing : List Line) → AreTyped (lines_by calls life ++ closing) → TypedTurn calls life closing
typed_turn calls life closing typed =
    let whole = typed_parts (lines_by calls life) closing typed in
    let parts = typed_parts (flat_map lines_of calls) (model.Until (until life) ∷ []) whole.0 in
    record { asked = parts.0; moment = parts.1.0; closes = whole.1 }

typed_mets : (held : List Line) (mets : List Met) → AreTyped (flat_map turn_lines (turns_lived mets held)) → AllByRecursion TypedCalls mets
typed_mets held [] typed = tt
typed_mets held (met ∷ mets) typed =
    let closing : List Line = only_last mets held in
    let parts = typed_parts (turn_lines (turn_lived met closing)) (flat_map turn_lines (turns_lived mets held)) typed in
    ((typed_turn met.calls met.life closing parts.0.1).asked, typed_mets held mets parts.1)

module _ (managed : List Managed) (specs : List IfSpec) (fit : AreManaged managed) (C : Client → Type 0) (keeps : KeepsFitting managed specs C) where
  abbrev Fits : Life → Type 0
  Fits life = FitsLife managed specs C keeps life

  abbrev Lives : ℕ → Life → Type 0
  Lives moment life = LivesAt managed specs C keeps moment life

  -- ---- turns

  record FitsMet (from : Life) (met : Met) : Type 0 where
    calls : AllByRecursion FitsCall met.calls
    life : Fits met.life
    later : from.now ≤ met.life.now
    salt : IsWord met.wake.salt
    event : FitsEvent met.wake.event met.bytes

  abbrev FitMets : Life → List Met → Type 0
  FitMets from [] = Unit {0}
  FitMets from (met ∷ mets) = FitsMet from met × FitMets met.life mets

  turn_went : (life : Life) (world : World) (given : Given) → Fits life → FitsWorld world
      → AreTyped (flat_map lines_of (ran_turn managed life world given).calls)
      → Went (Lives (turn_moment life (told_wake given))) (ran_turn managed life world given)
  turn_went life world given fits devices typed =
      run_went (Lives (turn_moment life (told_wake given))) (turn_asks managed life (told_wake given) (told_bytes given))
      (woken (until life) (told_wake given) (told_bytes given) world)
      (turn_goes managed specs C keeps life (told_wake given) (told_bytes given) fits)
      (woken_fits (until life) (told_wake given) (told_bytes given) world devices) typed

  not_before : (life : Life) (wake : Wake) (now : ℕ) → now ≡ turn_moment life wake → life.now ≤ now
  not_before life wake now is = omega (arith, is)

  met_fits : (life : Life) (given : Given) (ran : Ran Life) → Went (Lives (turn_moment life (told_wake given))) ran → FitsComing given
      → is_end given.wake.event ≡ false → FitsMet life (met_of given ran)
  met_fits life given ran went comes more = record {
    calls = went.calls;
    life = went.result.fits;
    later = not_before life (told_wake given) ran.result.now went.result.now;
    salt = comes.salt;
    event = event_fits given.wake.event given.bytes comes.event comes.octets more;
  }

  record TurnsWent (life : Life) (mets : List Met) (left : World) : Type 0 where
    all : FitMets life mets
    devices : FitsWorld left

  -- a turn before later ones, unless the life is over
  turn_then : (given : Given) (life : Life) (world : World) (later : List Met) (last : World) → Fits life → FitsWorld world → FitsComing given → (ends : Bool)
      → ends ≡ (is_over life || is_end given.wake.event)
      → AllByRecursion TypedCalls (if ends then [] else met_of given (ran_turn managed life world given) ∷ later)
      → (Went (Lives (turn_moment life (told_wake given))) (ran_turn managed life world given) → AllByRecursion TypedCalls later
      → TurnsWent (ran_turn managed life world given).result later last)
      → TurnsWent life (if ends then [] else met_of given (ran_turn managed life world given) ∷ later) (if ends then world else last)
  turn_then given life world later last fits devices comes true e typed more = record { all = tt; devices = devices }
  turn_then given life world later last fits devices comes false e typed more =
      let went = turn_went life world given fits devices typed.0 in
      let rest = more went typed.1 in
      record {
        all = (met_fits life given (ran_turn managed life world given) went comes (or_right_false (is_over life) (is_end given.wake.event) e), rest.all);
        devices = rest.devices;
      }

  turns_went : (coming : List Given) (life : Life) (world : World) → Fits life → FitsWorld world → AllByRecursion FitsComing coming
      → AllByRecursion TypedCalls (told_turns managed life world coming)
      → TurnsWent life (told_turns managed life world coming) (told_after managed life world coming)
  turns_went [] life world fits devices comes typed = record { all = tt; devices = devices }
  turns_went (given ∷ coming) life world fits devices comes typed =
      let ran : Ran Life = ran_turn managed life world given in
      turn_then given life world (told_turns managed ran.result ran.world coming) (told_after managed ran.result ran.world coming) fits devices comes.0
      (is_over life || is_end given.wake.event) refl typed
      (λ went more. turns_went coming ran.result ran.world went.result.fits went.left comes.1 more)

  -- ---- their lines

  lines_fit : (calls : List Call) (life : Life) (closing : List Line) → AllByRecursion FitsCall calls → TypedTurn calls life closing → FitLines closing
      → FitLines (lines_by calls life ++ closing)
  lines_fit calls life closing fits typed closes =
      lines_both (lines_by calls life) closing
      (lines_both (flat_map lines_of calls) (model.Until (until life) ∷ []) (calls_fit calls fits)
      (plain_line (model.Until (until life)) refl (record { fits = typed.moment; told = refl })))
      closes

  turn_line : (from : Life) (met : Met) → FitsMet from met
      → Stand (model.Turn met.life.now met.wake.salt met.wake.event met.bytes ∷ []) (met.life.now ∷ [])
  turn_line from met fits =
      let early = fits.life.now in
      record {
        listings = (refl, tt);
        front = refl;
        moments = refl;
        fits = (record { fits = (omega (arith, early), fits.salt, fits.event); told = lt-ltb met.life.now (10 ^ 15) early }, tt);
      }

  abbrev moment_in : Met → ℕ
  moment_in met = met.life.now

  -- the lines of turns, of which the last one is followed by the addresses that stay
  record FitTurns (turns : List TurnTold) (moments : List ℕ) : Type 0 where
    stand : Stand (flat_map turn_lines turns) moments
    follow : AllByRecursion (λ (turn : TurnTold). AllFollow turn.lines) turns

  turns_fit : (rows : List HostRow) (mets : List Met) (from : Life) → FitMets from mets
      → AreTyped (flat_map turn_lines (turns_lived mets (hold_lines rows))) → FitTurns (turns_lived mets (hold_lines rows)) (map moment_in mets)
  turns_fit rows [] from all typed = record { stand = stand_none; follow = tt }
  turns_fit rows (met ∷ mets) from all typed =
      let held : List Line = hold_lines rows in
      let closing : List Line = only_last mets held in
      let turn : TurnTold = turn_lived met closing in
      let parts = typed_parts (turn_lines turn) (flat_map turn_lines (turns_lived mets held)) typed in
      let here : TypedTurn met.calls met.life closing = typed_turn met.calls met.life closing parts.0.1 in
      let inner : FitLines turn.lines = lines_fit met.calls met.life closing all.0.calls here (last_fit mets rows here.closes) in
      let rest : FitTurns (turns_lived mets held) (map moment_in mets) = turns_fit rows mets met.life all.1 parts.1 in
      record {
        stand =
            stand_both (turn_lines turn) (flat_map turn_lines (turns_lived mets held)) (met.life.now ∷ []) (map moment_in mets)
            (stand_both (model.Turn met.life.now met.wake.salt met.wake.event met.bytes ∷ []) turn.lines (met.life.now ∷ []) [] (turn_line from met all.0)
            inner.stand) rest.stand;
        follow = (inner.follow, rest.follow);
      }

  never_fall : (mets : List Met) (from : Life) → FitMets from mets → NeverFall from.now (map moment_in mets)
  never_fall [] from all = tt
  never_fall (met ∷ mets) from all = (all.0.later, never_fall mets met.life all.1)

  -- ---- a life

  record FitsOpening (opening : OpeningMet) : Type 0 where
    begin : FitsBegin opening.begin
    calls : AllByRecursion FitsCall opening.calls
    life : Fits opening.life
    now : opening.life.now ≡ moment_of opening.begin.at

  module _ (opening : OpeningMet) (opens : FitsOpening opening) (mets : List Met) (all : FitMets opening.life mets)
      (typed : IsTypedLife (life_lived opening mets)) where
    abbrev rows : List HostRow
    rows = rows_of (life_after opening.life mets).client

    parts : AreTyped (life_lived opening mets).opening × AreTyped (flat_map turn_lines (turns_lived mets (hold_lines rows)))
    parts = typed_parts (life_lived opening mets).opening (flat_map turn_lines (turns_lived mets (hold_lines rows))) typed

    opened : FitLines (life_lived opening mets).opening
    opened =
        let closing : List Line = only_last mets (hold_lines rows) in
        let here : TypedTurn opening.calls opening.life closing = typed_turn opening.calls opening.life closing parts.0 in
        lines_fit opening.calls opening.life closing opens.calls here (last_fit mets rows here.closes)

    turns : FitTurns (turns_lived mets (hold_lines rows)) (map moment_in mets)
    turns = turns_fit rows mets opening.life all parts.1

    within : Stand (lines_within (life_lived opening mets)) (map moment_in mets)
    within =
        stand_both (life_lived opening mets).opening (flat_map turn_lines (turns_lived mets (hold_lines rows))) [] (map moment_in mets) opened.stand
        turns.stand

    begins : opening.life.now ≡ opening.begin.at
    begins = let early = opens.begin.at in let is = opens.now in omega (arith, is, early)

    life_told : IsShort (life_lived opening mets) → IsWellTold (life_lived opening mets)
    life_told short =
        let early = opens.begin.at in
        record {
          shape = record {
            opening = opened.follow;
            turns = turns.follow;
            listings = (within.front, within.listings);
            moments =
                subst (λ (moments : List ℕ). NeverFall opening.begin.at moments) (sym within.moments)
                (subst (λ at. NeverFall at (map moment_in mets)) begins (never_fall mets opening.life all));
          };
          start = record {
            fits = (omega (arith, early), opens.begin.salt, opens.begin.up);
            told = lt-ltb opening.begin.at (10 ^ 15) early;
          };
          lines = lines_told (lines_within (life_lived opening mets)) within.listings short within.fits;
        }

  -- ---- over devices that fit

  pub tells_well : (world : World) → FitsWorld world → IsTypedLife (life_foretold managed specs world) → TellsWell managed specs world
  tells_well world devices typed =
      let begin : Begin = world.link.told.begin in
      let opening : OpeningMet = opening_of managed specs world in
      let opened : Ran Life = ran_opening managed specs world in
      let mets : List Met = told_turns managed opened.result opened.world opened.world.link.told.coming in
      let held : List Line = held_at_end opening mets in
      let whole = typed_parts (life_lived opening mets).opening (flat_map turn_lines (turns_lived mets held)) typed in
      let went : Went (Lives (moment_of begin.at)) opened =
      run_went (Lives (moment_of begin.at)) (opening_asks managed specs begin) world (opening_goes managed specs C keeps fit begin) devices
      (typed_turn opening.calls opening.life (only_last mets held) whole.0).asked in
      let turns : TurnsWent opened.result mets (told_after managed opened.result opened.world opened.world.link.told.coming) =
      turns_went opened.world.link.told.coming opened.result opened.world went.result.fits went.left went.left.link.coming (typed_mets held mets whole.1) in
      record {
        told = life_told opening (record { begin = devices.link.begin; calls = went.calls; life = went.result.fits; now = went.result.now }) mets turns.all
            typed;
        left = turns.devices.others;
      }
