-- A text of lines that is read is the body of a transcript, and one that isn't read is none.
use Rattle.std.proofs.Common.{◌≡◌, ℕ, ◌+◌, true, cond, List, [], ◌∷◌, ◌++◌, map, length, Some, None, option_map, option_and_then, refl, sym, ap, ◌∙◌, subst, arith, append_assoc}
use Rattle.std.specs.List.{AllByRecursion, list_all}
use Rattle.std.proofs.lemmas.Bool.{and_parts, leb-true}
use Rattle.std.proofs.lemmas.List.{append-nil, length-append}
use Rattle.std.proofs.lemmas.Option.{none-some}
use Rattle.net_types.specs.declared.interface.IfSpec.{IfSpec}
use Rattle.net_types.specs.LineReading.{Gives, StopsAt, run}
use Rattle.net_types.specs.Marks.{IsPrintable, Lacks, is_printable}
use Rattle.net_types.specs.TextLines as Texts
use Rattle.net_types.specs.TextLines.{AreLines, Whole, front_in, lines_text}
use Rattle.net_types.proofs.AllLaws.{all_map}
use Rattle.net_types.proofs.LineSteps.{run_more}
use Rattle.net_types.proofs.ReadsLaws.{mapped, passed, some_same}
use Rattle.net_types.proofs.ReadsLaws as Steps
use Rattle.script_model.specs.Lines.{Line}
use Rattle.script_model.specs.Lines as Model
use Rattle.script_model.specs.Scripts.{CountsFrom, FitInterfaces, Unlike}
use Rattle.script_model.specs.Spellings.{AreSpelled}
use Rattle.replay_text.specs.KindTests.{interfaces_fit}
use Rattle.replay_text.specs.NextLines.{fits_next}
use Rattle.replay_text.proofs.Grown.{pairs_front}
use Rattle.replay_text.proofs.LineLaws.{FitsSpec}
use Rattle.replay_text.proofs.Printables.{no_feed_in}
use Rattle.replay_text.proofs.TakenLines.{cond_is}
use Rattle.replay_text.proofs.TestLaws.{interfaces_sound, interfaces_whole}
use Rattle.transcript_lines.specs.TranscriptText.Fits.{FitsLine}
use Rattle.transcript_lines.specs.LineReading.{line_at}
use Rattle.transcript_lines.specs.Roles.{role_of}
use Rattle.transcript_lines.specs.LineSpellings.{IsTold, LinesAreRead}
use Rattle.transcript_model.specs.Told.{BodyTold, LifeTold, body_lines, lives_lines}
use Rattle.transcript_model.specs.Transcripts.{SpellsBody}
use Rattle.transcript_read.specs.declared.place.Place.TheVariants as places
use Rattle.transcript_read.specs.Bodies.{IsFollowed, Reading, first_reading, followed, given, is_end, step, take_line}
use Rattle.transcript_read.specs.Heads.{NoneGoesOn}
use Rattle.transcript_read.specs.Places.{Spot, first_spot, next_spot, walk}
use Rattle.transcript_read.proofs.BreakLaws.{AllLines, front_line, later_are}
use Rattle.transcript_read.proofs.LifeLaws.{life_of, life_told, lives_shown, lives_told, told_fit, told_shown}
use Rattle.transcript_read.proofs.InnerLaws.{FitRole, FitRoles}
use Rattle.transcript_read.proofs.WalkLaws.{FromInterfaces, Life, LivesFit, RolesOfLives, after_number, from, life_walk, lives_in, lives_walk, spot, spot_step, walk_step}

-- ---- texts and their lines

pub record ToldTexts {J : Type 0} (after : J → Line → J) (texts : List Texts.Line) (from to : Reading J) : Type 0 where
  pub lines : List Line
  pub printable : AllByRecursion IsPrintable texts
  pub spelled : AreSpelled IsTold texts lines
  pub walks : walk lines from.spot ≡ Some to.spot
  pub follows : to.judge ≡ followed after from.judge lines

pub told_texts : {J : Type 0} (after : J → Line → J) → LinesAreRead → (texts : List Texts.Line) (from to : Reading J) → run (step after) texts from ≡ Some to
    → ToldTexts after texts from to
unfolding step
told_texts after law [] from to e =
    let same : from ≡ to = some_same e in
    record { lines = []; printable = tt; spelled = tt; walks = ap (λ (r : Reading _). Some r.spot) same; follows = ap (λ (r : Reading _). r.judge) (sym same) }
told_texts after law (text ∷ texts) from to e =
    let p = passed (step after from text) (run (step after) texts) to e in
    let c = cond_is (list_all is_printable text) (option_and_then (take_line after from) (line_at text)) p.value p.was in
    let q = passed (line_at text) (take_line after from) p.value c.1 in
    let m = mapped (λ (s : Spot). record { spot = s; judge = after from.judge q.value }) (next_spot from.spot q.value) p.value q.gives in
    let more = told_texts after law texts p.value to p.gives in
    record {
      lines = q.value ∷ more.lines;
      printable = (c.0, more.printable);
      spelled = (law.sound text q.value q.was, more.spelled);
      walks = ap (option_and_then (walk more.lines)) m.was ∙ ap (λ (r : Reading _). walk more.lines r.spot) m.gives ∙ more.walks;
      follows = more.follows ∙ ap (λ (r : Reading _). followed after r.judge more.lines) (sym m.gives);
    }

pub texts_run : {J : Type 0} (after : J → Line → J) → LinesAreRead → (texts : List Texts.Line) (lines : List Line) (from : Reading J) (to : Spot)
    → AllByRecursion IsPrintable texts → AreSpelled IsTold texts lines
    → walk lines from.spot ≡ Some to → run (step after) texts from ≡ Some (record { spot = to; judge = followed after from.judge lines })
unfolding step
texts_run after law [] [] from to printable spelled walks = ap (λ (s : Spot). Some (record { spot = s; judge = from.judge })) (some_same walks)
texts_run after law [] (line ∷ lines) from to printable spelled walks = absurd spelled
texts_run after law (text ∷ texts) [] from to printable spelled walks = absurd spelled
texts_run after law (text ∷ texts) (line ∷ lines) from to printable spelled walks =
    let p = passed (next_spot from.spot line) (walk lines) to walks in
    let next : Reading _ = record { spot = p.value; judge = after from.judge line } in
    let one : step after from text ≡ Some next =
    ap (λ b. cond b (option_and_then (take_line after from) (line_at text)) None) printable.0
    ∙ Steps.step (line_at text) (take_line after from) line (law.whole text line spelled.0)
    ∙ ap (option_map (λ (s : Spot). record { spot = s; judge = after from.judge line })) p.was in
    ap (option_and_then (run (step after) texts)) one ∙ texts_run after law texts lines next to printable.1 spelled.1 p.gives

-- ---- what is read is a body

specs_fit : (ifaces : List IfSpec) (more : List Line) (texts : List Texts.Line) → AreSpelled IsTold texts (map Model.Interface ifaces ++ more)
    → AllByRecursion FitsSpec ifaces
specs_fit [] more texts spelled = tt
specs_fit (spec ∷ ifaces) more [] spelled = absurd spelled
specs_fit (spec ∷ ifaces) more (text ∷ texts) spelled =
    let told = spelled.0.fits in
    let within = and_parts _ _ told.told in (
      record { index = (leb-true 1 spec.index.number within.0, leb-true spec.index.number 64 within.1); name = told.fits.1; mac = told.fits.2 },
      specs_fit ifaces more texts spelled.1,
    )

none_fit : interfaces_fit [] ≡ true
unfolding interfaces_fit
none_fit = refl

pub found : {J : Type 0} (after : J → Line → J) → LinesAreRead → (text : List ℕ) (first value : J)
    → Gives (step after) given (first_reading first) text value → IsFollowed after text first value
unfolding given
found after law text first value gives =
    let took = gives.took in
    let told = told_texts after law took.lines (first_reading first) gives.state took.runs in
    let c = cond_is (is_end gives.state.spot.place) (Some gives.state.judge) value gives.gives in
    let f : FromInterfaces [] told.lines = from told.lines [] places.Interfaces gives.state.spot none_fit told.walks c.0 in
    let lives : List Life = f.first ∷ f.lives in
    let same : told.lines ≡ map Model.Interface f.ifaces ++ _ = f.are ∙ ap (λ ls. map Model.Interface f.ifaces ++ ls) (sym (lives_shown lives 1)) in
    let spelled = subst (AreSpelled IsTold took.lines) same told.spelled in
    record {
      body = record { ifaces = f.ifaces; lives = map life_told lives };
      spelled = record {
        lines = took.lines;
        spells = record {
          printable = told.printable;
          spelled = spelled;
          fits = record {
            ifaces =
                interfaces_sound f.ifaces (record { each = specs_fit f.ifaces _ took.lines spelled; test = f.test });
            some = omega arith;
            lives = lives_told lives 1 f.fit;
          };
        };
        text_is = took.cut ∙ append-nil (lines_text took.lines);
      };
      follows = sym (some_same c.1) ∙ told.follows ∙ ap (followed after first) same;
    }

-- ---- a body is read

counted_front : (index : ℕ) (xs ys : List IfSpec) → CountsFrom index (xs ++ ys) → CountsFrom index xs
counted_front index [] ys counts = tt
counted_front index (x ∷ xs) ys counts = (counts.0, counts.1, counts.2, counted_front (index + 1) xs ys counts.3)

ifaces_front : (xs ys : List IfSpec) → FitInterfaces (xs ++ ys) → FitInterfaces xs
ifaces_front xs ys fit =
    let few = fit.few in
    record { few = omega (arith, few, length-append xs ys); counted = counted_front 1 xs ys fit.counted; unlike = pairs_front Unlike xs ys fit.unlike }

ifaces_walk : (ifaces done : List IfSpec) (more : List Line) → FitInterfaces (done ++ ifaces)
    → walk (map Model.Interface ifaces ++ more) (spot done places.Interfaces) ≡ walk more (spot (done ++ ifaces) places.Interfaces)
ifaces_walk [] done more fit = ap (λ specs. walk more (spot specs places.Interfaces)) (sym (append-nil done))
ifaces_walk (spec ∷ ifaces) done more fit =
    let grouped = append_assoc done (spec ∷ []) ifaces in
    let front = ifaces_front (done ++ spec ∷ []) ifaces (subst FitInterfaces (sym grouped) fit) in
    let test : fits_next done spec ≡ true = (interfaces_whole (done ++ spec ∷ []) front).test in
    let next : cond (fits_next done spec) (Some (done ++ spec ∷ [])) None ≡ Some (done ++ spec ∷ []) = ap (λ b. cond b (Some (done ++ spec ∷ [])) None) test in
    walk_step (Model.Interface spec) (map Model.Interface ifaces ++ more) (spot done places.Interfaces) (spot (done ++ spec ∷ []) places.Interfaces)
    (spot_step (spot done places.Interfaces) (Model.Interface spec) places.Interfaces (done ++ spec ∷ []) refl next)
    ∙ ifaces_walk ifaces (done ++ spec ∷ []) more (subst FitInterfaces (sym grouped) fit)
    ∙ ap (λ specs. walk more (spot specs places.Interfaces)) grouped

body_walk : (ifaces : List IfSpec) (life : Life) (lives : List Life) → FitInterfaces ifaces → RolesOfLives (life ∷ lives) → LivesFit 1 (life ∷ lives)
    → walk (map Model.Interface ifaces ++ lives_in 1 (life ∷ lives)) first_spot ≡ Some (spot ifaces (places.Between (1 + length lives)))
body_walk ifaces life lives fit roles_fit each =
    ifaces_walk ifaces [] (lives_in 1 (life ∷ lives)) fit
    ∙ walk_step (Model.Life 1) (after_number 1 life (lives_in 2 lives)) (spot ifaces places.Interfaces) (spot ifaces (places.Numbered 1))
    (spot_step (spot ifaces places.Interfaces) (Model.Life 1) (places.Numbered 1) ifaces refl refl)
    ∙ life_walk 1 life (lives_in 2 lives) ifaces roles_fit.0 each.0
    ∙ lives_walk lives 1 ifaces roles_fit.1 each.1

-- ---- roles of lines that are told

role_fits : (line : Line) → FitsLine line → FitRole (role_of line)
role_fits Model.Head fits = tt
role_fits (Model.Conf text) fits = tt
role_fits (Model.Notice line word) fits = tt
role_fits (Model.Interface spec) fits = tt
role_fits (Model.Life number) fits = tt
role_fits (Model.Start begin) fits = tt
role_fits (Model.Asides names) fits = tt
role_fits Model.AsidesFailed fits = tt
role_fits (Model.Wrote name bytes done) fits = tt
role_fits (Model.Synced name done) fits = tt
role_fits (Model.Renamed name done) fits = tt
role_fits (Model.Removed name done) fits = tt
role_fits (Model.Settled done) fits = tt
role_fits (Model.Read name reading) fits = tt
role_fits (Model.Turn at salt event bytes) fits = tt
role_fits (Model.HookPolled number answer) fits = tt
role_fits (Model.HookAbandoned number) fits = tt
role_fits (Model.HookDropped number reason name) fits = tt
role_fits (Model.HookStarted number reason name done) fits = tt
role_fits (Model.Variable name value) fits = tt
role_fits (Model.Send iface bytes taken) fits = tt
role_fits (Model.HostListed count) fits = fits
role_fits (Model.Row row) fits = fits
role_fits Model.HostListFailed fits = tt
role_fits (Model.HostDel row done) fits = tt
role_fits (Model.HostAdd row done) fits = tt
role_fits (Model.Until moment) fits = tt
role_fits (Model.Hold iface net) fits = tt
role_fits Model.EndOfLife fits = tt

pub roles_told : (texts : List Texts.Line) (lines : List Line) → AreSpelled IsTold texts lines → FitRoles lines
roles_told [] [] spelled = tt
roles_told [] (line ∷ lines) spelled = absurd spelled
roles_told (text ∷ texts) [] spelled = absurd spelled
roles_told (text ∷ texts) (line ∷ lines) spelled = (role_fits line spelled.0.fits.fits, roles_told texts lines spelled.1)

all_front : (lines more : List Line) → FitRoles (lines ++ more) → FitRoles lines
all_front [] more fits = tt
all_front (line ∷ lines) more fits = (fits.0, all_front lines more fits.1)

all_later : (lines more : List Line) → FitRoles (lines ++ more) → FitRoles more
all_later [] more fits = fits
all_later (line ∷ lines) more fits = all_later lines more fits.1

roles_of_lives : (number : ℕ) (lives : List Life) → FitRoles (lives_in number lives) → RolesOfLives lives
roles_of_lives number [] fits = tt
roles_of_lives number (life ∷ lives) fits =
    let rest = Model.EndOfLife ∷ lives_in (number + 1) lives in (
      all_front life.inner rest fits.1.1,
      roles_of_lives (number + 1) lives (all_later life.inner rest fits.1.1).1,
    )

record Ended {J : Type 0} (after : J → Line → J) (texts : List Texts.Line) (first : J) : Type 0 where
  end : Reading J
  runs : run (step after) texts (first_reading first) ≡ Some end
  is : is_end end.spot.place ≡ true

lives_end : {J : Type 0} (after : J → Line → J) → LinesAreRead → (first : J) (texts : List Texts.Line) (ifaces : List IfSpec) (lives : List LifeTold)
    → SpellsBody (record { ifaces = ifaces; lives = lives }) texts → Ended after texts first
lives_end after law first texts ifaces [] spells = let some = spells.fits.some in absurd (omega (arith, some))
lives_end after law first texts ifaces (life ∷ lives) spells =
    let body : BodyTold = record { ifaces = ifaces; lives = life ∷ lives } in
    let fit = told_fit (life ∷ lives) 1 spells.fits.lives in
    let fits = all_later (map Model.Interface ifaces) (lives_lines 1 (life ∷ lives)) (roles_told texts (body_lines body) spells.spelled) in
    let roles_fit = roles_of_lives 1 (map life_of (life ∷ lives)) (subst FitRoles (told_shown (life ∷ lives) 1) fits) in
    let walks : walk (body_lines body) first_spot ≡ Some (spot ifaces (places.Between (1 + length (map life_of lives)))) =
    ap (λ ls. walk (map Model.Interface ifaces ++ ls) first_spot) (told_shown (life ∷ lives) 1)
    ∙ body_walk ifaces (life_of life) (map life_of lives) spells.fits.ifaces roles_fit fit in
    record {
      end = record { spot = spot ifaces (places.Between (1 + length (map life_of lives))); judge = followed after first (body_lines body) };
      runs = texts_run after law texts (body_lines body) (first_reading first) _ spells.printable spells.spelled walks;
      is = refl;
    }

never_stops : {J : Type 0} (after : J → Line → J) (more : List Texts.Line) (rest : List ℕ) (state end : Reading J) → AreLines more → rest ≡ lines_text more
    → run (step after) more state ≡ Some end → is_end end.spot.place ≡ true
    → StopsAt (step after) given state (front_in rest) → ⊥
unfolding given
never_stops after [] rest state end are text runs is stops =
    let here : given state ≡ None = subst (λ r. StopsAt (step after) given state (front_in r)) text stops in
    let gives : given state ≡ Some end.judge = ap given (some_same runs) ∙ ap (λ b. cond b (Some end.judge) None) is in
    none-some end.judge (sym here ∙ gives)
never_stops after (line ∷ more) rest state end are text runs is stops =
    let front : front_in rest ≡ Whole line = ap front_in text ∙ front_line line (lines_text more) are.0 in
    let none : step after state line ≡ None = subst (StopsAt (step after) given state) front stops in
    none-some end (sym (ap (option_and_then (run (step after) more)) none) ∙ runs)

pub body_are : AllLines SpellsBody
body_are = λ body all spells. all_map IsPrintable (Lacks 10) no_feed_in all spells.printable

-- no body goes on after lines that were taken with what stops the reader
pub none_over : {J : Type 0} (after : J → Line → J) → LinesAreRead → (first : J) (taken : List Texts.Line) (state : Reading J) (rest : List ℕ)
    → run (step after) taken (first_reading first) ≡ Some state → StopsAt (step after) given state (front_in rest)
    → NoneGoesOn SpellsBody taken (front_in rest)
none_over after law first taken state rest runs stops = λ body more spells same.
    let ended = lives_end after law first (taken ++ more) body.ifaces body.lives spells in
    let others : run (step after) more state ≡ Some ended.end =
    sym (run_more (step after) taken more (first_reading first) state runs) ∙ ended.runs in
    let are = later_are taken more (body_are body (taken ++ more) spells) in
    never_stops after more (lines_text more) state ended.end are refl others ended.is (subst (StopsAt (step after) given state) (sym same) stops)
