-- Each place in a body can be brought to an end: by the greatest rows, as many as are left, and the end of a life. So
-- lines that are taken begin a body.
use Rattle.std.proofs.Common.{◌≡◌, ℕ, ◌+◌, ◌-◌, ◌<◌, ◌^◌, true, ◌&&◌, cond, List, [], ◌∷◌, ◌++◌, map, length, codes, decimal, Some, None, refl, sym, ap, ◌∙◌, subst, arith, eqb, leb, ltb, IsTrue}
use Rattle.std.specs.List.{AllByRecursion}
use Rattle.std.proofs.lemmas.Bool.{and_parts}
use Rattle.std.proofs.lemmas.List.{append-nil}
use Rattle.net_types.specs.declared.fault.BadText.{BadText}
use Rattle.net_types.specs.declared.interface.IfSpec.{IfSpec}
use Rattle.net_types.specs.FirstBadLine.{Begins}
use Rattle.net_types.specs.LineReading.{Gives, Stopped, run}
use Rattle.net_types.specs.Marks.{IsPrintable, Lacks}
use Rattle.net_types.specs.TextLines as Texts
use Rattle.net_types.specs.TextLines.{AreLines, lines_text}
use Rattle.net_types.proofs.AllLaws.{all_join, all_map}
use Rattle.net_types.proofs.LineSteps.{run_more, text_more}
use Rattle.net_types.proofs.MarkLaws.{decimal_printable}
use Rattle.net_types.proofs.ReadsLaws.{passed, some_same}
use Rattle.world.specs.declared.rows.HostRow.{HostRow}
use Rattle.world.specs.RowText.{row_text}
use Rattle.world.specs.Rows.{IsRow}
use Rattle.script_model.specs.Lines.{Line, line_words}
use Rattle.script_model.specs.Lines as Model
use Rattle.script_model.specs.Spellings.{AreSpelled}
use Rattle.script_model.proofs.SpelledRows.{printable_word, row_printed, spelled_printable}
use Rattle.replay_text.proofs.CarrierLaws.{begin_printable, begin_spelled, begin_words}
use Rattle.replay_text.proofs.Printables.{no_feed_in}
use Rattle.replay_text.proofs.ReadScripts.{first_begin, first_fits}
use Rattle.replay_text.proofs.TakenLines.{cond_is}
use Rattle.transcript_lines.specs.declared.role.Role.{Role}
use Rattle.transcript_lines.specs.declared.role.Role.TheVariants as roles
use Rattle.transcript_lines.specs.LineSpellings.{IsTold, LinesAreRead}
use Rattle.transcript_lines.specs.Roles.{role_of}
use Rattle.transcript_model.specs.LifeShapes.{FitListings, NeverFall, Rise, comes_after, moments_in, rows_in_front}
use Rattle.transcript_model.specs.Transcripts.{SpellsBody}
use Rattle.transcript_read.specs.declared.place.Place.{Place}
use Rattle.transcript_read.specs.declared.place.Place.TheVariants as places
use Rattle.transcript_read.specs.declared.place.Within.{Within}
use Rattle.transcript_read.specs.Bodies.{IsBadAt, Reading, first_reading, followed, given, is_end, no_cause, step}
use Rattle.transcript_read.specs.Places.{Spot, ended, first_life, first_spot, goes_on, leaves_room, life_start, next_ifaces, next_life, next_place, next_spot, next_within, walk}
use Rattle.transcript_read.proofs.BodyLaws.{body_are, found, none_over, roles_told, texts_run, told_texts}
use Rattle.transcript_read.proofs.BreakLaws.{breaks_lines}
use Rattle.transcript_read.proofs.InnerLaws.{FitRole, FitRoles, Good, is_inner}
use Rattle.transcript_read.proofs.RoomLaws.{HasRoom, tops, tops_are, tops_come, tops_length}
use Rattle.transcript_read.proofs.WalkLaws.{Life, after_number, inner_walk, life_walk, opened, spot, spot_step, walk_step}

-- ---- room for the rows that are left

record RoomIn (within : Within) : Type 0 where
  few : within.left < 2 ^ 64
  room : HasRoom within.last within.left

abbrev RoomAt : Place → Type 0
RoomAt (places.Within within) = RoomIn within
RoomAt _ = Unit {0}

room_first : (role : Role) (next : Place) → first_life role ≡ Some next → RoomAt next
room_first (roles.Interface spec) next e = subst RoomAt (some_same e) tt
room_first (roles.Life number) next e = subst RoomAt (some_same (cond_is (eqb number 1) (Some (places.Numbered 1)) next e).1) tt
room_first roles.Head next e = cc
room_first (roles.Start at) next e = cc
room_first (roles.Turn at) next e = cc
room_first (roles.Listing count) next e = cc
room_first (roles.Row row) next e = cc
room_first roles.Other next e = cc
room_first roles.End next e = cc

room_later : (lives : ℕ) (role : Role) (next : Place) → next_life lives role ≡ Some next → RoomAt next
room_later lives (roles.Life number) next e = subst RoomAt (some_same (cond_is (eqb number (lives + 1)) (Some (places.Numbered number)) next e).1) tt
room_later lives (roles.Interface spec) next e = cc
room_later lives roles.Head next e = cc
room_later lives (roles.Start at) next e = cc
room_later lives (roles.Turn at) next e = cc
room_later lives (roles.Listing count) next e = cc
room_later lives (roles.Row row) next e = cc
room_later lives roles.Other next e = cc
room_later lives roles.End next e = cc

room_start : (number : ℕ) (role : Role) (next : Place) → life_start number role ≡ Some next → RoomAt next
room_start number (roles.Start at) next e = subst RoomAt (some_same e) (record { few = omega arith; room = tt })
room_start number (roles.Life other) next e = cc
room_start number (roles.Interface spec) next e = cc
room_start number roles.Head next e = cc
room_start number (roles.Turn at) next e = cc
room_start number (roles.Listing count) next e = cc
room_start number (roles.Row row) next e = cc
room_start number roles.Other next e = cc
room_start number roles.End next e = cc

room_inner : (within next : Within) (role : Role) → FitRole role → RoomIn within → next_within within role ≡ Some next → RoomIn next
room_inner within next (roles.Row row) fits room e =
    let test = (ltb 0 within.left && comes_after within.last row) && leaves_room (within.left - 1) row in
    let t = cond_is test (Some (record within { left = within.left - 1; last = Some row })) next e in
    let both = and_parts (ltb 0 within.left && comes_after within.last row) (leaves_room (within.left - 1) row) t.0 in
    let few = room.few in
    subst RoomIn (some_same t.1) (record { few = omega (arith, few); room = both.1 })
room_inner within next (roles.Turn at) fits room e =
    subst RoomIn (some_same (cond_is (eqb within.left 0 && leb within.now at) (Some (record within { now = at })) next e).1)
    (record { few = room.few; room = room.room })
room_inner within next (roles.Listing count) fits room e =
    subst RoomIn (some_same (cond_is (eqb within.left 0) (Some (record within { left = count; last = None })) next e).1) (record { few = fits; room = tt })
room_inner within next roles.Other fits room e = subst RoomIn (some_same (cond_is (eqb within.left 0) (Some within) next e).1) room
room_inner within next roles.Head fits room e = cc
room_inner within next (roles.Interface spec) fits room e = cc
room_inner within next (roles.Life number) fits room e = cc
room_inner within next (roles.Start at) fits room e = cc
room_inner within next roles.End fits room e = cc

room_ended : (within : Within) (role : Role) (next : Place) → ended within role ≡ Some next → RoomAt next
room_ended within roles.End next e =
    subst RoomAt (some_same (cond_is (eqb within.left 0) (Some (places.Between within.number)) next e).1) tt
room_ended within roles.Head next e = cc
room_ended within (roles.Interface spec) next e = cc
room_ended within (roles.Life number) next e = cc
room_ended within (roles.Start at) next e = cc
room_ended within (roles.Turn at) next e = cc
room_ended within (roles.Listing count) next e = cc
room_ended within (roles.Row row) next e = cc
room_ended within roles.Other next e = cc

next_room : (place next : Place) (role : Role) → FitRole role → RoomAt place → next_place place role ≡ Some next → RoomAt next
next_room places.Interfaces next role fits room e = room_first role next e
next_room (places.Numbered number) next role fits room e = room_start number role next e
next_room (places.Between lives) next role fits room e = room_later lives role next e
next_room (places.Within within) next role fits room e =
    elim (next_within within role) as (λ o. next_within within role ≡ o → goes_on o (ended within role) ≡ Some next → RoomAt next) [
      | None ↦ λ is q. room_ended within role next q
      | Some inner ↦ λ is q. subst RoomAt (some_same q) (room_inner within inner role fits room is)
    ] refl e

walked_room : (lines : List Line) (from to : Spot) → FitRoles lines → RoomAt from.place → walk lines from ≡ Some to → RoomAt to.place
walked_room [] from to fits room e = subst (λ (s : Spot). RoomAt s.place) (some_same e) room
walked_room (line ∷ lines) from to fits room e =
    let p = passed (next_spot from line) (walk lines) to e in
    let q = passed (next_place from.place (role_of line)) _ p.value p.was in
    let r = passed (next_ifaces from.ifaces (role_of line)) _ p.value q.gives in
    let place : q.value ≡ p.value.place = ap (λ (s : Spot). s.place) (some_same r.gives) in
    walked_room lines p.value to fits.1 (subst RoomAt place (next_room from.place q.value (role_of line) fits.0 room q.was)) p.gives

-- ---- the lines to an end

abbrev row_lines : List HostRow → List Line
row_lines rows = map Model.Row rows

abbrev ending : Place → List Line
ending places.Interfaces = Model.Life 1 ∷ Model.Start first_begin ∷ Model.EndOfLife ∷ []
ending (places.Numbered number) = Model.Start first_begin ∷ Model.EndOfLife ∷ []
ending (places.Within within) = row_lines (tops within.left) ++ Model.EndOfLife ∷ []
ending (places.Between lives) = []

rows_front : (rows : List HostRow) → rows_in_front (row_lines rows) ≡ rows
rows_front [] = refl
rows_front (row ∷ rows) = ap (λ rs. row ∷ rs) (rows_front rows)

rows_listed : (rows : List HostRow) → FitListings (row_lines rows)
rows_listed [] = tt
rows_listed (row ∷ rows) = (tt, rows_listed rows)

rows_moments : (now : ℕ) (rows : List HostRow) → NeverFall now (moments_in (row_lines rows))
rows_moments now [] = tt
rows_moments now (row ∷ rows) = rows_moments now rows

rows_inner : (rows : List HostRow) → AllByRecursion (λ line. IsTrue (is_inner (role_of line))) (row_lines rows)
rows_inner [] = tt
rows_inner (row ∷ rows) = (refl, rows_inner rows)

rows_roles : (rows : List HostRow) → AllByRecursion IsRow rows → FitRoles (row_lines rows)
rows_roles [] are = tt
rows_roles (row ∷ rows) are = (are.0, rows_roles rows are.1)

left_good : (within : Within) → RoomIn within → Good within (row_lines (tops within.left))
left_good within room =
    let front = rows_front (tops within.left) in
    let few = room.few in
    record {
      inner = rows_inner (tops within.left);
      counted = ap length front ∙ tops_length within.left;
      rise = subst (Rise within.last) (sym front) (tops_come within.last within.left (omega (arith, few)) room.room);
      listings = rows_listed (tops within.left);
      moments = rows_moments within.now (tops within.left);
    }

record Ends (from : Spot) : Type 0 where
  to : Spot
  walks : walk (ending from.place) from ≡ Some to
  is : is_end to.place ≡ true

abbrev short_life : Life
short_life = record { begin = first_begin; inner = [] }

short_good : (number : ℕ) → Good (opened number 0) []
short_good number = record { inner = tt; counted = refl; rise = tt; listings = tt; moments = tt }

ends : (ifaces : List IfSpec) (place : Place) → RoomAt place → Ends (spot ifaces place)
ends ifaces places.Interfaces room = record {
  to = spot ifaces (places.Between 1);
  walks = walk_step (Model.Life 1) (after_number 1 short_life []) (spot ifaces places.Interfaces) (spot ifaces (places.Numbered 1))
      (spot_step (spot ifaces places.Interfaces) (Model.Life 1) (places.Numbered 1) ifaces refl refl)
      ∙ life_walk 1 short_life [] ifaces tt (short_good 1);
  is = refl;
}
ends ifaces (places.Numbered number) room =
    record { to = spot ifaces (places.Between number); walks = life_walk number short_life [] ifaces tt (short_good number); is = refl }
ends ifaces (places.Within within) room = record {
  to = spot ifaces (places.Between within.number);
  walks = inner_walk (row_lines (tops within.left)) [] within ifaces (rows_roles (tops within.left) (tops_are within.left)) (left_good within room);
  is = refl;
}
ends ifaces (places.Between lives) room = record { to = spot ifaces (places.Between lives); walks = refl; is = refl }

-- ---- their texts

life_told : IsTold (line_words (Model.Life 1)) (Model.Life 1)
life_told = record { spells = refl; fits = record { fits = omega arith; told = refl } }

start_told : IsTold (line_words (Model.Start first_begin)) (Model.Start first_begin)
start_told = record { spells = refl; fits = record { fits = (omega arith, omega arith, omega arith); told = refl } }

end_told : IsTold (line_words Model.EndOfLife) Model.EndOfLife
end_told = record { spells = refl; fits = record { fits = tt; told = refl } }

row_told : (row : HostRow) → IsRow row → IsTold (line_words (Model.Row row)) (Model.Row row)
unfolding line_words
row_told row is =
    record { spells = record { words = row_text row; spelled = refl; spells = row_printed row is }; fits = record { fits = is; told = refl } }

life_printable : IsPrintable (line_words (Model.Life 1))
unfolding line_words
life_printable = printable_word (codes "life ") (decimal 1) refl (decimal_printable 1 (omega arith))

start_printable : IsPrintable (line_words (Model.Start first_begin))
unfolding line_words
start_printable =
    subst IsPrintable (sym (begin_spelled first_begin))
    (printable_word (codes "start ") (begin_words first_begin) refl (begin_printable 64 first_begin (omega arith) (first_fits 64)))

end_printable : IsPrintable (line_words Model.EndOfLife)
unfolding line_words
end_printable = refl

row_printable : (row : HostRow) → IsRow row → IsPrintable (line_words (Model.Row row))
unfolding line_words
row_printable row is = printable_word (codes "row ") (row_text row) refl (spelled_printable (row_text row) row is (row_printed row is))

abbrev Told : List Line → Type 0
Told lines = AreSpelled IsTold (map line_words lines) lines × AllByRecursion IsPrintable (map line_words lines)

rows_told : (rows : List HostRow) → AllByRecursion IsRow rows → Told (row_lines rows ++ Model.EndOfLife ∷ [])
rows_told [] are = ((end_told, tt), (end_printable, tt))
rows_told (row ∷ rows) are =
    let others = rows_told rows are.1 in ((row_told row are.0, others.0), (row_printable row are.0, others.1))

ending_told : (place : Place) → Told (ending place)
ending_told places.Interfaces = ((life_told, (start_told, (end_told, tt))), (life_printable, (start_printable, (end_printable, tt))))
ending_told (places.Numbered number) = ((start_told, (end_told, tt)), (start_printable, (end_printable, tt)))
ending_told (places.Within within) = rows_told (tops within.left) (tops_are within.left)
ending_told (places.Between lives) = (tt, tt)

-- ---- so a body goes on

pub body_begins : {J : Type 0} (after : J → Line → J) → LinesAreRead → (first : J) (taken : List Texts.Line) (state : Reading J) → AreLines taken
    → run (step after) taken (first_reading first) ≡ Some state → Begins SpellsBody (lines_text taken)
unfolding given
body_begins after law first taken state are runs =
    let told = told_texts after law taken (first_reading first) state runs in
    let room = walked_room told.lines first_spot state.spot (roles_told taken told.lines told.spelled) tt told.walks in
    let end = ends state.spot.ifaces state.spot.place room in
    let lines = ending state.spot.place in
    let texts = map line_words lines in
    let these = ending_told state.spot.place in
    let last : Reading _ = record { spot = end.to; judge = followed after state.judge lines } in
    let later = texts_run after law texts lines state end.to these.1 these.0 end.walks in
    let all = taken ++ texts in
    let whole : run (step after) all (first_reading first) ≡ Some last = run_more (step after) taken texts (first_reading first) state runs ∙ later in
    let all_are : AreLines all = all_join (Lacks 10) taken texts are (all_map IsPrintable (Lacks 10) no_feed_in texts these.1) in
    let gives : Gives (step after) given (first_reading first) (lines_text all) last.judge =
    record {
      number = length all + 1;
      state = last;
      took = record { lines = all; are = all_are; cut = sym (append-nil (lines_text all)); counted = refl; runs = whole };
      gives = ap (λ b. cond b (Some last.judge) None) end.is;
    } in
    let f = found after law (lines_text all) first last.judge gives in
    record {
      value = f.body;
      lines = f.spelled.lines;
      spells = f.spelled.spells;
      more = lines_text texts;
      goes_on = sym f.spelled.text_is ∙ text_more taken texts;
    }

-- the line at which reading stops is the first bad one
pub none_read : {J : Type 0} (after : J → Line → J) → LinesAreRead → (text : List ℕ) (first : J) (number : ℕ) (why : BadText)
    → Stopped (step after) given no_cause (first_reading first) text number why → IsBadAt text number
none_read after law text first number why stopped =
    let took = stopped.took in
    record {
      lines = took.lines;
      rest = stopped.rest;
      are = took.are;
      cut = took.cut;
      counted = took.counted;
      before = body_begins after law first took.lines stopped.state took.are took.runs;
      breaks = breaks_lines SpellsBody body_are text took.lines stopped.rest took.are took.cut
          (none_over after law first took.lines stopped.state stopped.rest took.runs stopped.stops);
      why = tt;
    }

-- what goes through the lines doesn't matter to that
pub first_body : LinesAreRead → Begins SpellsBody []
first_body law = body_begins (λ lines line. line ∷ lines) law [] [] (first_reading []) tt refl
