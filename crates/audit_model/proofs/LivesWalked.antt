-- What is kept after all lines of a transcript, in terms of what it tells.
use Rattle.std.proofs.Common.{◌≡◌, ℕ, ◌+◌, suc, List, [], ◌∷◌, ◌++◌, map, flat_map, sum_by, length, Option, Some, None, refl, sym, ap, ◌∙◌, append_assoc, append-nil, arith}
use Rattle.std.specs.List.{AllByRecursion}
use Rattle.std.proofs.lemmas.List.Sums.{sum_by-cons}
use Rattle.net_types.specs.declared.address.Mac.{Mac}
use Rattle.net_types.specs.declared.interface.IfSpec.{IfSpec}
use Rattle.world.specs.declared.wakes.Begin.{Begin}
use Rattle.world.specs.StoreCalls.{StoreCall}
use Rattle.settings.specs.declared.interfaces.Managed.{Managed}
use Rattle.transcript_read.specs.ConfText.Settings.{managed_of}
use Rattle.transcript_read.specs.ConfText.Configurations.{Configuration}
use Rattle.script_model.specs.Lines.{Line}
use Rattle.script_model.specs.Lines as Model
use Rattle.host_model.specs.HostTable.{InRowOrder}
use Rattle.transcript_read.specs.TranscriptModel.Told.{Told, LifeTold, TurnTold, turn_lines, life_lines, lives_lines}
use Rattle.transcript_read.specs.TranscriptModel.LifeShapes.{AllFollow, FitsLife}
use Rattle.transcript_read.specs.TranscriptModel.Transcripts.{FitsBody}
use Rattle.transcript_read.specs.Bodies.{followed}
use Rattle.audit_model.specs.Showing.{Shown, read_in_line, shown_at_first, shown_next}
use Rattle.audit_model.specs.Auditing.{Judge, Auditing, Living, Unjust, after, begun, first, turned, unjust_first, unjust_in}
use Rattle.audit_model.specs.Laws.{audited}
use Rattle.audit_model.specs.Verdicts.{turns_told}
use Rattle.audit_model.proofs.JudgedRows.{no_rows_in_order}
use Rattle.audit_model.proofs.LinesWalked.{judged_among, walked, gathered, in_order_after, with_lines}

-- what a life is judged by: how it began, and what its opening read
pub record Scene : Type 0 where
  pub managed : List Managed
  pub own : List Mac
  pub begin : Begin
  pub reads : List StoreCall

abbrev pub living_of : Scene → Shown → Living
living_of scene shown = record {
  managed = scene.managed;
  own = scene.own;
  begin = scene.begin;
  reads = scene.reads;
  past = shown.past;
  entry = shown.entry;
  failed = shown.failed;
  rows = judged_among scene.managed shown.rows;
}

abbrev pub scene_of : Configuration → List IfSpec → LifeTold → Scene
scene_of configuration ifaces life = record {
  managed = managed_of configuration ifaces;
  own = map (λ spec. spec.mac) ifaces;
  begin = life.begin;
  reads = flat_map read_in_line life.opening;
}

-- ---- the search

abbrev pub found_then : Judge → Scene → (number : ℕ) → Shown → Option Unjust
found_then judge scene number shown = unjust_in judge number (Some (living_of scene shown))

-- after this turn, and those to come
abbrev pub found_from : Judge → Scene → (number : ℕ) → Shown → List TurnTold → Option Unjust
found_from judge scene number shown [] = found_then judge scene number shown
found_from judge scene number shown (turn ∷ turns) =
    unjust_first (found_then judge scene number shown) (found_from judge scene number (shown_next shown turn) turns)

abbrev pub found_in_life : Judge → Configuration → List IfSpec → (number : ℕ) → LifeTold → Option Unjust
found_in_life judge configuration ifaces number life =
    found_from judge (scene_of configuration ifaces life) number (shown_at_first life) life.turns

abbrev pub found_in_lives : Judge → Configuration → List IfSpec → (number : ℕ) → List LifeTold → Option Unjust
found_in_lives judge configuration ifaces number [] = None
found_in_lives judge configuration ifaces number (life ∷ lives) =
    unjust_first (found_in_life judge configuration ifaces number life) (found_in_lives judge configuration ifaces (number + 1) lives)

pub first_first : (a b c : Option Unjust) → unjust_first (unjust_first a b) c ≡ unjust_first a (unjust_first b c)
first_first (Some unjust) b c = refl
first_first None b c = refl

first_none : (a : Option Unjust) → a ≡ unjust_first a None
first_none (Some unjust) = refl
first_none None = refl

-- ---- the turns of a life

abbrev AllTurns : List TurnTold → Type 0
AllTurns turns = AllByRecursion (λ turn. AllFollow turn.lines) turns

pub next_in_order : (shown : Shown) (turn : TurnTold) → AllFollow turn.lines → InRowOrder shown.rows → InRowOrder (shown_next shown turn).rows
next_in_order shown turn all order = in_order_after turn.lines shown.rows all order

pub first_in_order : (life : LifeTold) → AllFollow life.opening → InRowOrder (shown_at_first life).rows
first_in_order life all = in_order_after life.opening [] all no_rows_in_order

turn_walked : (scene : Scene) (shown : Shown) (turn : TurnTold) → AllFollow turn.lines → InRowOrder shown.rows
    → with_lines turn.lines (turned turn.at turn.event turn.bytes (living_of scene shown)) ≡ living_of scene (shown_next shown turn)
turn_walked scene shown turn all order =
    gathered turn.lines (turned turn.at turn.event turn.bytes (living_of scene shown)) shown.rows all order

opening_walked : (state : Auditing) (life : LifeTold) → AllFollow life.opening
    → with_lines life.opening (begun state life.begin) ≡ living_of (scene_of state.configuration state.ifaces life) (shown_at_first life)
opening_walked state life all = gathered life.opening (begun state life.begin) [] all no_rows_in_order

counted : (turns n : ℕ) → (turns + 1) + n ≡ turns + suc n
counted turns n = omega arith

-- after a life that ends here
abbrev pub life_over : Auditing → (turns : ℕ) → Option Unjust → Auditing
life_over state turns found = record state { turns = state.turns + turns; living = None; unjust = unjust_first state.unjust found }

turns_walked : (judge : Judge) (scene : Scene) (turns : List TurnTold) (rest : List Line) (state : Auditing) (shown : Shown) → AllTurns turns
    → InRowOrder shown.rows
    → followed (after judge) (record state { living = Some (living_of scene shown) }) (flat_map turn_lines turns ++ Model.EndOfLife ∷ rest)
    ≡ followed (after judge) (life_over state (length turns) (found_from judge scene state.lives shown turns)) rest
turns_walked judge scene [] rest state shown all order =
    ap
    (λ n. followed (after judge)
    (record state { turns = n; living = None; unjust = unjust_first state.unjust (found_then judge scene state.lives shown) }) rest)
    (sym (omega arith))
turns_walked judge scene (turn ∷ turns) rest state shown all order =
    let found = found_then judge scene state.lives shown in
    let later = found_from judge scene state.lives (shown_next shown turn) turns in
    let next : Auditing = record state { turns = state.turns + 1; unjust = unjust_first state.unjust found } in
    let began : Living = turned turn.at turn.event turn.bytes (living_of scene shown) in
    ap (λ lines. followed (after judge) (record state { living = Some (living_of scene shown) }) lines)
    (append_assoc (turn_lines turn) (flat_map turn_lines turns) (Model.EndOfLife ∷ rest))
    ∙ walked judge turn.lines (flat_map turn_lines turns ++ Model.EndOfLife ∷ rest) next began all.0
    ∙ ap (λ w. followed (after judge) (record next { living = Some w }) (flat_map turn_lines turns ++ Model.EndOfLife ∷ rest))
    (turn_walked scene shown turn all.0 order)
    ∙ turns_walked judge scene turns rest next (shown_next shown turn) all.1 (next_in_order shown turn all.0 order)
    ∙ (λ i. followed (after judge) (record state {
      turns = counted state.turns (length turns) i;
      living = None;
      unjust = first_first state.unjust found later i;
    }) rest)

-- ---- a life

life_parts : (opening turns rest : List Line) → ((opening ++ turns) ++ Model.EndOfLife ∷ []) ++ rest ≡ opening ++ (turns ++ Model.EndOfLife ∷ rest)
life_parts opening turns rest =
    append_assoc (opening ++ turns) (Model.EndOfLife ∷ []) rest ∙ append_assoc opening turns (Model.EndOfLife ∷ rest)

life_walked : (judge : Judge) (number : ℕ) (life : LifeTold) (rest : List Line) (state : Auditing) → FitsLife life
    → followed (after judge) state (life_lines number life ++ rest)
    ≡ followed (after judge) (life_over (record state { lives = number }) (length life.turns)
    (found_in_life judge state.configuration state.ifaces number life)) rest
life_walked judge number life rest state fits =
    let numbered : Auditing = record state { lives = number } in
    let scene = scene_of state.configuration state.ifaces life in
    let ending = flat_map turn_lines life.turns ++ Model.EndOfLife ∷ rest in
    ap (λ lines. followed (after judge) (record numbered { living = Some (begun state life.begin) }) lines)
    (life_parts life.opening (flat_map turn_lines life.turns) rest)
    ∙ walked judge life.opening ending numbered (begun state life.begin) fits.opening
    ∙ ap (λ w. followed (after judge) (record numbered { living = Some w }) ending) (opening_walked state life fits.opening)
    ∙ turns_walked judge scene life.turns rest numbered (shown_at_first life) fits.turns (first_in_order life fits.opening)

-- ---- all lives

lives_counted : (n more : ℕ) → (n + 1) + more ≡ n + suc more
lives_counted n more = omega arith

abbrev all_turns : List LifeTold → ℕ
all_turns lives = sum_by (λ life. length life.turns) lives

turns_counted : (turns : ℕ) (life : LifeTold) (lives : List LifeTold)
    → (turns + length life.turns) + all_turns lives ≡ turns + all_turns (life ∷ lives)
turns_counted turns life lives =
    let all : all_turns (life ∷ lives) ≡ length life.turns + all_turns lives = sum_by-cons (λ (l : LifeTold). length l.turns) life lives in
    omega (arith, all)

lives_walked : (judge : Judge) (lives : List LifeTold) (state : Auditing) → AllByRecursion FitsLife lives
    → followed (after judge) (record state { living = None }) (lives_lines (state.lives + 1) lives)
    ≡ record state {
      lives = state.lives + length lives;
      turns = state.turns + all_turns lives;
      living = None;
      unjust = unjust_first state.unjust (found_in_lives judge state.configuration state.ifaces (state.lives + 1) lives);
    }
lives_walked judge [] state fits =
    λ i. record state {
      lives = none_more state.lives i;
      turns = none_more state.turns i;
      living = None;
      unjust = first_none state.unjust i;
    }
  where
    none_more : (n : ℕ) → n ≡ n + 0
    none_more n = sym (omega arith)
lives_walked judge (life ∷ lives) state fits =
    let number : ℕ = state.lives + 1 in
    let found = found_in_life judge state.configuration state.ifaces number life in
    let later = found_in_lives judge state.configuration state.ifaces (number + 1) lives in
    let over : Auditing = life_over (record state { lives = number }) (length life.turns) found in
    life_walked judge number life (lives_lines (number + 1) lives) (record state { living = None }) fits.0
    ∙ lives_walked judge lives over fits.1
    ∙ (λ i. record state {
      lives = lives_counted state.lives (length lives) i;
      turns = turns_counted state.turns life lives i;
      living = None;
      unjust = first_first state.unjust found later i;
    })

ifaces_walked : (judge : Judge) (ifaces : List IfSpec) (rest : List Line) (state : Auditing)
    → followed (after judge) state (map Model.Interface ifaces ++ rest)
    ≡ followed (after judge) (record state { ifaces = state.ifaces ++ ifaces }) rest
ifaces_walked judge [] rest state = ap (λ specs. followed (after judge) (record state { ifaces = specs }) rest) (sym (append-nil state.ifaces))
ifaces_walked judge (spec ∷ ifaces) rest state =
    ifaces_walked judge ifaces rest (record state { ifaces = state.ifaces ++ spec ∷ [] })
    ∙ ap (λ specs. followed (after judge) (record state { ifaces = specs }) rest) (append_assoc state.ifaces (spec ∷ []) ifaces)

-- ---- a transcript

abbrev pub found_told : Judge → Told → Option Unjust
found_told judge told = found_in_lives judge told.configuration told.body.ifaces 1 told.body.lives

abbrev pub end_told : Judge → Told → Auditing
end_told judge told = record {
  configuration = told.configuration;
  ifaces = told.body.ifaces;
  lives = length told.body.lives;
  turns = turns_told told;
  living = None;
  unjust = found_told judge told;
}

pub ends_told : (judge : Judge) (told : Told) → FitsBody told.body → audited judge told ≡ end_told judge told
ends_told judge told fits =
    ifaces_walked judge told.body.ifaces (lives_lines 1 told.body.lives) (first told.configuration)
    ∙ lives_walked judge told.body.lives (record (first told.configuration) { ifaces = told.body.ifaces }) fits.lives
    ∙ (λ i. record (end_told judge told) { lives = from_none (length told.body.lives) i; turns = from_none (turns_told told) i })
  where
    from_none : (n : ℕ) → 0 + n ≡ n
    from_none n = omega arith
