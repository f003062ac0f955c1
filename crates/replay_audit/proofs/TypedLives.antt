-- The lines of each life of a transcript are typed where all its lines are.
use Rattle.std.proofs.Common.{ℕ, ◌+◌, List, [], ◌∷◌, map, subst}
use Rattle.std.specs.List.{AllByRecursion}
use Rattle.script_model.specs.Lines as Model
use Rattle.script_model.specs.ScriptTexts.{ScriptLines}
use Rattle.conf_text.specs.Configurations.{Configuration}
use Rattle.transcript_model.specs.Told.{LifeTold, body_lines, head_lines, life_lines, lines_within, lives_lines}
use Rattle.typed_lines.specs.TypedLines.{AreTyped}
use Rattle.typed_lines.proofs.TypedParts.{typed_parts}
use Rattle.told_lives.specs.Laws.{IsTypedLife}
use Rattle.replayed_lives.specs.Replays.{transcript}
use Rattle.replay_audit.specs.Laws.{LivesAreTyped}
use Rattle.replay_audit.specs.ScriptsTold.{body_of}
use Rattle.replay_audit.proofs.ToldLines.{lines_are_told}

each_typed : (number : ℕ) (lives : List LifeTold) → AreTyped (lives_lines number lives) → AllByRecursion IsTypedLife lives
each_typed number [] typed = tt
each_typed number (life ∷ lives) typed =
    let parts = typed_parts (life_lines number life) (lives_lines (number + 1) lives) typed in
    let within = typed_parts (lines_within life) (Model.EndOfLife ∷ []) parts.0.1.1 in
    (within.0, each_typed (number + 1) lives parts.1)

pub lives_are_typed : (script : ScriptLines) (conf : Configuration) → AreTyped (transcript script conf) → LivesAreTyped script conf
lives_are_typed script conf typed =
    let whole = typed_parts (head_lines script.conf conf) (body_lines (body_of script conf)) (subst AreTyped (lines_are_told script conf) typed) in
    let body = typed_parts (map Model.Interface script.ifaces) (lives_lines 1 (body_of script conf).lives) whole.1 in
    each_typed 1 (body_of script conf).lives body.1
