-- What is kept after all lines of a transcript, in terms of what it tells.
use Rattle.std.proofs.Common.{◌≡◌, ℕ, ◌+◌, Bool, true, false, List, [], ◌∷◌, ◌++◌, map, flat_map, Option, Some, None, option_map, if◌then◌else◌, refl, sym, ap, ◌∙◌, append_assoc, append-nil}
use Rattle.std.specs.List.{AllByRecursion}
use Rattle.std.specs.List.Sorted.{IsStrictlySortedBy}
use Rattle.std.proofs.lemmas.Bool.{false≢true}
use Rattle.net_types.specs.declared.interface.IfSpec.{IfSpec}
use Rattle.script_model.specs.Lines.{Line}
use Rattle.script_model.specs.Lines as Model
use Rattle.host_model.specs.HostTable.{InRowOrder}
use Rattle.transcript_model.specs.LifeShapes.{AllFollow, FitsLife, Follows}
use Rattle.transcript_model.specs.Told.{LifeTold, Told, TurnTold, body_lines, life_lines, lives_lines, turn_lines}
use Rattle.transcript_model.specs.Transcripts.{FitsBody}
use Rattle.transcript_read.specs.Bodies.{followed}
use Rattle.row_reasons.specs.AuditModel.Auditing.{Living, begun, turned, with_line}
use Rattle.row_reasons.specs.AuditModel.Showing.{Shown, shown_at_first, shown_next}
use Rattle.row_reasons.proofs.AuditModel.LinesWalked.{gathered, with_lines}
use Rattle.row_reasons.proofs.AuditModel.LivesWalked.{Scene, first_in_order, living_of, next_in_order, scene_of}
use Rattle.row_reasons.specs.ReasonLines.{judged_now, life_judged}
use Rattle.row_reasons.specs.Finding.{or_else}
use Rattle.audit_reasons.specs.Accounts.{if_judged, judged_last, last_judged}
use Rattle.audit_reasons.specs.Explaining.{Explaining, after, auditing, first}
use Rattle.audit_reasons.proofs.LinesMade.{lived_of, lives_lived}

-- ---- a line of a turn

-- the life alone changes that goes on
pub line_after : (line : Line) → Follows line → (state : Explaining)
    → after state line ≡ record state { living = option_map (with_line line) state.living }
line_after Model.Head follows state = absurd (false≢true follows)
line_after (Model.Conf text) follows state = absurd (false≢true follows)
line_after (Model.Notice line word) follows state = absurd (false≢true follows)
line_after (Model.Interface spec) follows state = absurd (false≢true follows)
line_after (Model.Life number) follows state = absurd (false≢true follows)
line_after (Model.Start begin) follows state = absurd (false≢true follows)
line_after (Model.Turn at salt event bytes) follows state = absurd (false≢true follows)
line_after Model.EndOfLife follows state = absurd (false≢true follows)
line_after (Model.Asides names) follows state = refl
line_after Model.AsidesFailed follows state = refl
line_after (Model.Wrote name bytes done) follows state = refl
line_after (Model.Synced name done) follows state = refl
line_after (Model.Renamed name done) follows state = refl
line_after (Model.Removed name done) follows state = refl
line_after (Model.Settled done) follows state = refl
line_after (Model.Read name reading) follows state = refl
line_after (Model.HookPolled number answer) follows state = refl
line_after (Model.HookAbandoned number) follows state = refl
line_after (Model.HookDropped number reason name) follows state = refl
line_after (Model.HookStarted number reason name done) follows state = refl
line_after (Model.Variable name value) follows state = refl
line_after (Model.Send iface bytes taken) follows state = refl
line_after (Model.HostListed count) follows state = refl
line_after (Model.Row row) follows state = refl
line_after Model.HostListFailed follows state = refl
line_after (Model.HostDel row done) follows state = refl
line_after (Model.HostAdd row done) follows state = refl
line_after (Model.Until moment) follows state = refl
line_after (Model.Hold iface net) follows state = refl

walked : (lines rest : List Line) (state : Explaining) (w : Living) → AllFollow lines
    → followed after (record state { living = Some w }) (lines ++ rest) ≡ followed after (record state { living = Some (with_lines lines w) }) rest
walked [] rest state w all = refl
walked (line ∷ lines) rest state w all =
    ap (λ (s : Explaining). followed after s (lines ++ rest)) (line_after line all.0 (record state { living = Some w }))
    ∙ walked lines rest state (with_line line w) all.1

-- ---- the turns of a life

-- what is kept of the last judged one of these turns, or else of those before
abbrev kept_last : Scene → Option Living → Option Shown → Option Living
kept_last scene before shown = or_else (option_map (living_of scene) shown) before

judged_here : (scene : Scene) (shown : Shown) (before : Option Living) (b : Bool) → shown.failed ≡ b
    → judged_now (Some (living_of scene shown)) before ≡ kept_last scene before (if_judged shown)
judged_here scene shown before true e =
    (λ i. if e i then before else Some (living_of scene shown)) ∙ sym (λ i. kept_last scene before (if e i then None else Some shown))
judged_here scene shown before false e =
    (λ i. if e i then before else Some (living_of scene shown)) ∙ sym (λ i. kept_last scene before (if e i then None else Some shown))

-- of some turns and those before them
last_of : (scene : Scene) (before : Option Living) (later now : Option Shown)
    → kept_last scene (kept_last scene before now) later ≡ kept_last scene before (or_else later now)
last_of scene before None now = refl
last_of scene before (Some shown) now = refl

abbrev life_over : Explaining → Option Living → Explaining
life_over state last = record state { living = None; judged = None; ended = state.ended ++ life_judged state.number last }

turns_walked : (scene : Scene) (turns : List TurnTold) (rest : List Line) (state : Explaining) (shown : Shown)
    → AllByRecursion (λ turn. AllFollow turn.lines) turns → InRowOrder shown.rows
    → followed after (record state { living = Some (living_of scene shown) }) (flat_map turn_lines turns ++ Model.EndOfLife ∷ rest)
    ≡ followed after (life_over state (kept_last scene state.judged (last_judged shown turns))) rest
turns_walked scene [] rest state shown all order =
    ap (λ (last : Option Living). followed after (life_over state last) rest) (judged_here scene shown state.judged shown.failed refl)
turns_walked scene (turn ∷ turns) rest state shown all order =
    let now = judged_now (Some (living_of scene shown)) state.judged in
    let next : Explaining = record state { judged = now } in
    let began : Living = turned turn.at turn.event turn.bytes (living_of scene shown) in
    let later = last_judged (shown_next shown turn) turns in
    ap (λ (lines : List Line). followed after (record state { living = Some (living_of scene shown) }) lines)
    (append_assoc (turn_lines turn) (flat_map turn_lines turns) (Model.EndOfLife ∷ rest))
    ∙ walked turn.lines (flat_map turn_lines turns ++ Model.EndOfLife ∷ rest) next began all.0
    ∙ ap (λ (w : Living). followed after (record next { living = Some w }) (flat_map turn_lines turns ++ Model.EndOfLife ∷ rest))
    (gathered turn.lines began shown.rows all.0 order)
    ∙ turns_walked scene turns rest next (shown_next shown turn) all.1 (next_in_order shown turn all.0 order)
    ∙ ap (λ (last : Option Living). followed after (life_over state last) rest)
    (ap (λ (before : Option Living). kept_last scene before later) (judged_here scene shown state.judged shown.failed refl)
    ∙ last_of scene state.judged later (if_judged shown))

-- ---- a life

none_in_order : InRowOrder []
unfolding IsStrictlySortedBy
none_in_order = tt

life_parts : (opening turns rest : List Line) → ((opening ++ turns) ++ Model.EndOfLife ∷ []) ++ rest ≡ opening ++ (turns ++ Model.EndOfLife ∷ rest)
life_parts opening turns rest =
    append_assoc (opening ++ turns) (Model.EndOfLife ∷ []) rest ∙ append_assoc opening turns (Model.EndOfLife ∷ rest)

over_none : (o : Option Living) → or_else o None ≡ o
over_none None = refl
over_none (Some w) = refl

abbrev with_life : Explaining → (number : ℕ) → LifeTold → Explaining
with_life state number life = record state {
  number = number;
  living = None;
  judged = None;
  ended = state.ended ++ lived_of state.configuration state.ifaces number life (judged_last life);
}

life_walked : (number : ℕ) (life : LifeTold) (rest : List Line) (state : Explaining) → FitsLife life
    → followed after state (life_lines number life ++ rest) ≡ followed after (with_life state number life) rest
life_walked number life rest state fits =
    let begins : Explaining = record state { number = number; judged = None } in
    let scene = scene_of state.configuration state.ifaces life in
    let ending = flat_map turn_lines life.turns ++ Model.EndOfLife ∷ rest in
    ap (λ (lines : List Line). followed after (record begins { living = Some (begun (auditing state) life.begin) }) lines)
    (life_parts life.opening (flat_map turn_lines life.turns) rest)
    ∙ walked life.opening ending begins (begun (auditing state) life.begin) fits.opening
    ∙ ap (λ (w : Living). followed after (record begins { living = Some w }) ending)
    (gathered life.opening (begun (auditing state) life.begin) [] fits.opening none_in_order)
    ∙ turns_walked scene life.turns rest begins (shown_at_first life) fits.turns (first_in_order life fits.opening)
    ∙ ap (λ (last : Option Living). followed after (life_over begins last) rest)
    (over_none (option_map (living_of scene) (judged_last life)))

-- ---- all lives

lives_walked : (number : ℕ) (lives : List LifeTold) (state : Explaining) → AllByRecursion FitsLife lives
    → (followed after state (lives_lines number lives)).ended ≡ state.ended ++ lives_lived state.configuration state.ifaces number lives
lives_walked number [] state fits = sym (append-nil state.ended)
lives_walked number (life ∷ lives) state fits =
    ap (λ (s : Explaining). s.ended) (life_walked number life (lives_lines (number + 1) lives) state fits.0)
    ∙ lives_walked (number + 1) lives (with_life state number life) fits.1
    ∙ append_assoc state.ended (lived_of state.configuration state.ifaces number life (judged_last life))
    (lives_lived state.configuration state.ifaces (number + 1) lives)

ifaces_walked : (ifaces : List IfSpec) (rest : List Line) (state : Explaining)
    → followed after state (map Model.Interface ifaces ++ rest) ≡ followed after (record state { ifaces = state.ifaces ++ ifaces }) rest
ifaces_walked [] rest state = ap (λ (specs : List IfSpec). followed after (record state { ifaces = specs }) rest) (sym (append-nil state.ifaces))
ifaces_walked (spec ∷ ifaces) rest state =
    ifaces_walked ifaces rest (record state { ifaces = state.ifaces ++ spec ∷ [] })
    ∙ ap (λ (specs : List IfSpec). followed after (record state { ifaces = specs }) rest) (append_assoc state.ifaces (spec ∷ []) ifaces)

pub lives_ended : (told : Told) → FitsBody told.body
    → (followed after (first told.configuration) (body_lines told.body)).ended ≡ lives_lived told.configuration told.body.ifaces 1 told.body.lives
lives_ended told fits =
    ap (λ (s : Explaining). s.ended) (ifaces_walked told.body.ifaces (lives_lines 1 told.body.lives) (first told.configuration))
    ∙ lives_walked 1 told.body.lives (record (first told.configuration) { ifaces = told.body.ifaces }) fits.lives
