-- The lines of a transcript are those of what it tells.
use Rattle.std.proofs.Common.{◌≡◌, ℕ, ◌+◌, List, [], ◌∷◌, ◌++◌, map, refl, sym, ap, ap₂, ◌∙◌, append_assoc}
use Rattle.net_types.specs.declared.interface.IfSpec.{IfSpec}
use Rattle.settings.specs.declared.interfaces.Managed.{Managed}
use Rattle.conf_text.specs.Configurations.{NoticeContent}
use Rattle.script_model.specs.Lines.{Line}
use Rattle.script_model.specs.Lines as Model
use Rattle.script_model.specs.ScriptTexts.{LifeScript}
use Rattle.transcript_model.specs.Told as told
use Rattle.audit_model.proofs.CallsTold.{lives_told_so}
use Rattle.replayed_lives.specs.Replays.{Between, Failing, after_life, at_first, failing_in, life_in, lines_in, lives_lines, mets_in, opening_in}
use Rattle.replayed_lives.specs.TextWorks.Heads.{head_lines, heading, notice_line}
use Rattle.replayed_lives.specs.TextWorks.SpelledScripts.{managed_in}
use Rattle.replay_audit.specs.Laws.{LinesAreTold}
use Rattle.replay_audit.specs.ScriptsTold.{life_told, lives_told}

-- ---- lives

module _ (managed : List Managed) (specs : List IfSpec) (failing : Failing) where
  life_same : (between : Between) (life : LifeScript)
      → life_in managed specs failing between life ≡ told.life_lines (between.lives + 1) (life_told managed specs failing between life)
  unfolding lines_in
  life_same between life =
      let so = lives_told_so (opening_in managed specs failing between life) (mets_in managed specs failing between life) in
      ap (λ (ls : List Line). Model.Life (between.lives + 1) ∷ ls) (sym so.lines)

  lives_same : (between : Between) (lives : List LifeScript)
      → lives_lines managed specs failing between lives ≡ told.lives_lines (between.lives + 1) (lives_told managed specs failing between lives)
  lives_same between [] = refl
  lives_same between (life ∷ lives) =
      ap₂ (λ one more. one ++ more) (life_same between life) (lives_same (after_life managed specs failing between life) lives)

-- ---- the head

-- interfaces stand behind the head, or in front of the lives
head_same : (conf : List (List ℕ)) (notices : List NoticeContent) (specs : List IfSpec) (lives : List Line)
    → heading conf notices specs ++ lives ≡ (Model.Head ∷ (map Model.Conf conf ++ map notice_line notices)) ++ (map Model.Interface specs ++ lives)
head_same conf notices specs lives =
    let front : List Line = map Model.Conf conf in
    let middle : List Line = map notice_line notices in
    let ifaces : List Line = map Model.Interface specs in
    ap (λ (ls : List Line). Model.Head ∷ ls)
    (append_assoc front (middle ++ ifaces) lives ∙ ap (λ (ls : List Line). front ++ ls) (append_assoc middle ifaces lives)
    ∙ sym (append_assoc front middle (ifaces ++ lives)))

pub lines_are_told : LinesAreTold
unfolding head_lines
lines_are_told script conf =
    let managed : List Managed = managed_in script conf in
    let failing : Failing = failing_in script.fails in
    let start : Between = at_first script.rows script.files script.polls in
    head_same script.conf conf.notices script.ifaces (lives_lines managed script.ifaces failing start script.lives)
    ∙ ap (λ (ls : List Line). told.head_lines script.conf conf ++ (map Model.Interface script.ifaces ++ ls))
    (lives_same managed script.ifaces failing start script.lives)
