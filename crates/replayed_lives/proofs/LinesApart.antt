-- Hooks change nothing else: lives over devices that are the same but for their hooks have the same other lines.
use Rattle.std.proofs.Common.{ℕ, ◌≡◌, ◌+◌, Bool, true, false, List, [], ◌∷◌, ◌++◌, map, length, Option, Some, None, refl, sym, ap, ap₂, ◌∙◌, append-nil}
use Rattle.std.specs.Prelude.{flat_map, if◌then◌else◌}
use Rattle.std.proofs.lemmas.List.Elements.{filter-append}
use Rattle.net_types.specs.declared.interface.IfSpec.{IfSpec}
use Rattle.world.specs.declared.rows.HostRow.{HostRow}
use Rattle.world.specs.HookCalls.{HooksTold, Started, Polled, Abandoned, Variable}
use Rattle.world.specs.HostCalls.{Listed, Added, Removed}
use Rattle.world.specs.LinkCalls.{Waited, Offered}
use Rattle.world.specs.StoreCalls.{ListedAsides, ReadFile, WroteAside, SyncedAside, RenamedAside, RemovedFile, SettledFiles}
use Rattle.settings.specs.declared.interfaces.Managed.{Managed}
use Rattle.turn_model.specs.ClientModel.Clients.{rows_of}
use Rattle.script_model.specs.declared.failing.FailDevice.TheVariants.{Hooks}
use Rattle.script_model.specs.FailingCalls.{failing_calls}
use Rattle.script_model.specs.Lines as lines
use Rattle.script_model.specs.Lines.{Line}
use Rattle.script_model.specs.ScriptTexts.{ScriptLines, LifeScript}
use Rattle.conf_text.specs.Configurations.{Configuration}
use Rattle.device_calls.specs.Calls.{Call, Link, Host, Store, Hook, Dropped}
use Rattle.device_calls.specs.CallLines.{lines_of, variable_line}
use Rattle.turn_model.specs.Turns.{Life}
use Rattle.turn_model.specs.Lives.{OpeningMet, Met, life_after, opening_lines, turn_lines, closing_lines, hold_lines, life_lines}
use Rattle.turn_model.specs.Foretold.{ForetoldLife, foretold_life}
use Rattle.turn_model.specs.HooksApart as turns
use Rattle.turn_model.specs.HooksApart.{calls_of_others, Remainder, remainder_of, TurnSeen, turn_seen}
use Rattle.turn_model.proofs.HooksApart.{hooks_apart}
use Rattle.replayed_lives.specs.HooksApart.{is_of_others, lines_of_others, SameButHooks, HooksChangeNothing}
use Rattle.replayed_lives.specs.Replays.{Failing, Between, failing_in, at_first, world_in, lines_in, life_in, after_life, store_left, lives_lines, lives_of_script, transcript}
use Rattle.text_works.specs.SpelledScripts.{managed_in}
use Rattle.text_works.specs.Heads.{head_lines}

-- ---- the lines of calls

-- rows and variables are told one a line
rows_stay : (rows : List HostRow) → lines_of_others (map lines.Row rows) ≡ map lines.Row rows
rows_stay [] = refl
rows_stay (row ∷ rows) = ap (λ (ls : List Line). lines.Row row ∷ ls) (rows_stay rows)

variables_go : (vars : List Variable) → lines_of_others (map variable_line vars) ≡ []
variables_go [] = refl
variables_go (var ∷ vars) = variables_go vars

call_apart : (call : Call) → lines_of_others (lines_of call) ≡ (if turns.is_of_others call then lines_of call else [])
call_apart (Link (Waited until given)) = refl
call_apart (Link (Offered iface frame taken)) = refl
call_apart (Host (Listed None)) = refl
call_apart (Host (Listed (Some rows))) = ap (λ (ls : List Line). lines.HostListed (length rows) ∷ ls) (rows_stay rows)
call_apart (Host (Added row done)) = refl
call_apart (Host (Removed row done)) = refl
call_apart (Store (ListedAsides None)) = refl
call_apart (Store (ListedAsides (Some names))) = refl
call_apart (Store (ReadFile name reading)) = refl
call_apart (Store (WroteAside name bytes done)) = refl
call_apart (Store (SyncedAside name done)) = refl
call_apart (Store (RenamedAside name done)) = refl
call_apart (Store (RemovedFile name done)) = refl
call_apart (Store (SettledFiles done)) = refl
call_apart (Hook number (Started job done)) = variables_go job.vars
call_apart (Hook number (Polled answer)) = refl
call_apart (Hook number Abandoned) = refl
call_apart (Dropped job) = refl

calls_apart : (calls : List Call) → lines_of_others (flat_map lines_of calls) ≡ flat_map lines_of (calls_of_others calls)
calls_apart [] = refl
calls_apart (call ∷ calls) =
    filter-append is_of_others (lines_of call) (flat_map lines_of calls)
    ∙ ap₂ (λ (xs ys : List Line). xs ++ ys) (call_apart call) (calls_apart calls)
    ∙ kept_or_gone (turns.is_of_others call)
  where
    kept_or_gone : (kept : Bool) → (if kept then lines_of call else []) ++ flat_map lines_of (calls_of_others calls)
        ≡ flat_map lines_of (if kept then call ∷ calls_of_others calls else calls_of_others calls)
    kept_or_gone true = refl
    kept_or_gone false = refl

-- with the moment of the next wait behind them
asked_apart : (calls : List Call) (until : Option ℕ)
    → lines_of_others (flat_map lines_of calls ++ lines.Until until ∷ []) ≡ flat_map lines_of (calls_of_others calls)
asked_apart calls until =
    filter-append is_of_others (flat_map lines_of calls) (lines.Until until ∷ []) ∙ append-nil (lines_of_others (flat_map lines_of calls)) ∙ calls_apart calls

-- ---- the lines of turns

abbrev seen_lines : TurnSeen → List Line
seen_lines seen = lines.Turn seen.life.now seen.wake.salt seen.wake.event seen.bytes ∷ flat_map lines_of seen.calls

turns_apart : (mets : List Met) → lines_of_others (flat_map turn_lines mets) ≡ flat_map seen_lines (map turn_seen mets)
turns_apart [] = refl
turns_apart (met ∷ mets) =
    filter-append is_of_others (turn_lines met) (flat_map turn_lines mets)
    ∙ ap₂ (λ (xs ys : List Line). xs ++ ys)
    (ap (λ (ls : List Line). lines.Turn met.life.now met.wake.salt met.wake.event met.bytes ∷ ls) (asked_apart met.calls _)) (turns_apart mets)

abbrev seen_last : Remainder → List TurnSeen → Remainder
seen_last from [] = from
seen_last from (seen ∷ turns) = seen_last seen.life turns

last_apart : (from : Life) (mets : List Met) → remainder_of (life_after from mets) ≡ seen_last (remainder_of from) (map turn_seen mets)
last_apart from [] = refl
last_apart from (met ∷ mets) = last_apart met.life mets

-- ---- a life

abbrev closed : Remainder → List Line
closed left = lines_of_others (hold_lines (rows_of left.client) ++ lines.EndOfLife ∷ [])

abbrev apart_of : OpeningMet → List Met → List Line
apart_of opening mets =
    (lines.Start opening.begin ∷ flat_map lines_of (calls_of_others opening.calls))
    ++ (flat_map seen_lines (map turn_seen mets) ++ closed (seen_last (remainder_of opening.life) (map turn_seen mets)))

life_apart : (opening : OpeningMet) (mets : List Met) → lines_of_others (life_lines opening mets) ≡ apart_of opening mets
life_apart opening mets =
    filter-append is_of_others (opening_lines opening) (flat_map turn_lines mets ++ closing_lines (life_after opening.life mets))
    ∙ ap₂ (λ (xs ys : List Line). xs ++ ys)
    (ap (λ (ls : List Line). lines.Start opening.begin ∷ ls) (asked_apart opening.calls _))
    (filter-append is_of_others (flat_map turn_lines mets) (closing_lines (life_after opening.life mets))
    ∙ ap₂ (λ (xs ys : List Line). xs ++ ys) (turns_apart mets) (ap closed (last_apart opening.life mets)))

-- ---- lives

-- the same with other hooks
abbrev failing_but : Failing → List ℕ → Failing
failing_but failing starts = record failing { hooks = starts }

abbrev between_but : Between → HooksTold → Between
between_but between hooks = record between { hooks = hooks }

module _ (managed : List Managed) (specs : List IfSpec) where
  module _ (failing : Failing) (starts : List ℕ) (between : Between) (hooks : HooksTold) (life : LifeScript) where
    abbrev one : ForetoldLife
    one = foretold_life managed specs (world_in failing between life)

    abbrev other : ForetoldLife
    other = foretold_life managed specs (world_in (failing_but failing starts) (between_but between hooks) life)

    same : turns.SameButHooks one other
    same = hooks_apart managed specs (world_in failing between life) (record { told = hooks; failing = starts })

    lines_alike : lines_of_others (lines_in managed specs failing between life)
        ≡ lines_of_others (lines_in managed specs (failing_but failing starts) (between_but between hooks) life)
    unfolding lines_in
    lines_alike =
        life_apart one.opening one.mets
        ∙
        (λ i. (lines.Start life.begin ∷ flat_map lines_of (same.opening i))
        ++ (flat_map seen_lines (same.turns i) ++ closed (seen_last (same.opened i) (same.turns i))))
        ∙ sym (life_apart other.opening other.mets)

    abbrev left : Between
    left = after_life managed specs failing between life

    abbrev other_left : Between
    other_left = after_life managed specs (failing_but failing starts) (between_but between hooks) life

    left_alike : other_left ≡ between_but left other_left.hooks
    left_alike = sym (λ i. record {
      lives = between.lives + 1;
      sent = same.sent i;
      host = (same.host i).told;
      store = store_left life.crash (same.store i).told;
      hooks = other_left.hooks;
    })

  lives_alike : (failing : Failing) (starts : List ℕ) (between : Between) (hooks : HooksTold) (lives : List LifeScript)
      → lines_of_others (lives_lines managed specs failing between lives)
      ≡ lines_of_others (lives_lines managed specs (failing_but failing starts) (between_but between hooks) lives)
  lives_alike failing starts between hooks [] = refl
  lives_alike failing starts between hooks (life ∷ lives) =
      let others : Failing = failing_but failing starts in
      let there : Between = between_but between hooks in
      let after : Between = after_life managed specs failing between life in
      let there_after : Between = after_life managed specs others there life in
      let later : lines_of_others (lives_lines managed specs failing after lives) ≡ lines_of_others (lives_lines managed specs others there_after lives) =
      lives_alike failing starts after there_after.hooks lives
      ∙ sym (ap (λ (b : Between). lines_of_others (lives_lines managed specs others b lives)) (left_alike failing starts between hooks life)) in
      filter-append is_of_others (life_in managed specs failing between life) (lives_lines managed specs failing after lives)
      ∙ ap₂ (λ (xs ys : List Line). (lines.Life (between.lives + 1) ∷ xs) ++ ys) (lines_alike failing starts between hooks life) later
      ∙ sym (filter-append is_of_others (life_in managed specs others there life) (lives_lines managed specs others there_after lives))

-- ---- transcripts

module _ (conf : Configuration) (one other : ScriptLines) (same : SameButHooks one other) where
  abbrev managed : List Managed
  managed = managed_in one conf

  abbrev begun : Between
  begun = at_first one.rows one.files one.polls

  abbrev failing : Failing
  failing = failing_in one.fails

  other_lives : lives_of_script (managed_in other conf) other
      ≡ lives_lines managed one.ifaces (failing_but failing (failing_calls Hooks other.fails))
      (between_but begun (at_first other.rows other.files other.polls).hooks) one.lives
  other_lives = sym (λ i. lives_lines (managed_in (record one { ifaces = same.ifaces i }) conf) (same.ifaces i)
      (record { sends = same.sends i; host = same.host i; store = same.store i; hooks = failing_calls Hooks other.fails })
      (at_first (same.rows i) (same.files i) other.polls) (same.lives i))

  same_head : head_lines one conf.notices ≡ head_lines other conf.notices
  unfolding head_lines
  same_head = λ i. head_lines (record one { conf = same.conf i; ifaces = same.ifaces i }) conf.notices

  alike : lines_of_others (transcript one conf) ≡ lines_of_others (transcript other conf)
  alike =
      filter-append is_of_others (head_lines one conf.notices) (lives_of_script managed one)
      ∙ ap₂ (λ (xs ys : List Line). lines_of_others xs ++ ys) same_head
      (lives_alike managed one.ifaces failing (failing_calls Hooks other.fails) begun (at_first other.rows other.files other.polls).hooks one.lives
      ∙ ap lines_of_others (sym other_lives))
      ∙ sym (filter-append is_of_others (head_lines other conf.notices) (lives_of_script (managed_in other conf) other))

pub transcripts_alike : HooksChangeNothing
transcripts_alike conf one other same = alike conf one other same
