-- The transcript of a script is one, and all that it shows is justified.
use Rattle.std.proofs.Common.{◌≡◌, ℕ, suc, ◌+◌, ◌<◌, ◌^◌, List, [], ◌∷◌, map, length, refl, sym, ap, subst, arith}
use Rattle.std.specs.Prelude.{is_some}
use Rattle.std.specs.List.{AllByRecursion}
use Rattle.std.proofs.lemmas.Bool.{and_from, le-leb}
use Rattle.std.proofs.lemmas.List.Elements.{recursion_from_All}
use Rattle.net_types.specs.declared.interface.IfSpec.{IfSpec}
use Rattle.net_types.specs.FirstBadLine.{IsSpelled}
use Rattle.net_types.specs.Marks.{Lacks}
use Rattle.net_types.proofs.AllLaws.{all_both, all_join, all_map}
use Rattle.settings.specs.declared.interfaces.Managed.{Managed}
use Rattle.script_model.specs.Lines.{Line, lines_text}
use Rattle.script_model.specs.Lines as Model
use Rattle.script_model.specs.Scripts as scripts
use Rattle.script_model.specs.Scripts.{FitInterfaces, FitsScript}
use Rattle.script_model.specs.ScriptTexts.{LifeScript, ScriptLines}
use Rattle.conf_text.specs.Configurations.{Configuration}
use Rattle.conf_text.specs.Fits.{FitsSpec}
use Rattle.device_calls.specs.Worlds.{World}
use Rattle.turn_model.specs.Foretold.{foretold_life}
use Rattle.turn_model.specs.Lives.{life_after}
use Rattle.transcript_lines.specs.Bounds.{FitsTold}
use Rattle.transcript_model.specs.LifeShapes.{FitsLife}
use Rattle.transcript_model.specs.Told.{LifeTold, body_lines, head_lines, lines_within, lives_lines}
use Rattle.transcript_model.specs.Transcripts.{SpellsTold}
use Rattle.audit_model.specs.Verdicts.{BasisWord}
use Rattle.told_lives.specs.FittingWorlds.{AreFitting}
use Rattle.told_lives.specs.Laws.{IsShort, IsTypedLife, IsWellTold, LivesAreWellTold, TellsWell}
use Rattle.told_texts.specs.Laws.{CanBeTold, IsPlain}
use Rattle.told_texts.proofs.WholeTexts.{told_is_spelled}
use Rattle.replayed_lives.specs.Replays.{Between, Failing, after_life, at_first, failing_in, mets_in, opening_in, transcript, world_in}
use Rattle.replayed_lives.specs.TextWorks.SpelledScripts.{IsScript, configuration_text, managed_in}
use Rattle.replayed_lives.specs.ToldSafely.{AllTellSafely}
use Rattle.replayed_lives.proofs.TextWorks.Refusals.{each_fits, ifaces_fit, spelled_fits}
use Rattle.replayed_lives.proofs.SafelyTold.{tells_safely}
use Rattle.replay_audit.specs.Laws.{LivesAreJustified, LivesAreTyped, ReplaysAreJustified, TranscriptsAreJustified, transcript_text}
use Rattle.replay_audit.specs.ScriptsTold.{body_of, lives_told, told_of}
use Rattle.replay_audit.proofs.CountedLines.{ifaces_all, last_short, lives_all, lives_few, lives_short}
use Rattle.replay_audit.proofs.FittingLives.{first_fit, hooks_left_fit, store_left_fits, world_fits}
use Rattle.replay_audit.proofs.PlainLives.{life_plain}
use Rattle.replay_audit.proofs.ToldLines.{lines_are_told}
use Rattle.replay_audit.proofs.TypedLives.{lives_are_typed}

-- ---- as many lives

lives_counted : (managed : List Managed) (specs : List IfSpec) (failing : Failing) (between : Between) (lives : List LifeScript)
    → length lives ≡ length (lives_told managed specs failing between lives)
lives_counted managed specs failing between [] = refl
lives_counted managed specs failing between (life ∷ lives) =
    ap (λ (n : ℕ). suc n) (lives_counted managed specs failing (after_life managed specs failing between life) lives)

-- ---- single lines

iface_fits : (spec : IfSpec) → FitsSpec spec → FitsTold (Model.Interface spec)
iface_fits spec fits =
    let low = fits.index.0 in
    let high = fits.index.1 in
    record {
      fits = (omega (arith, high), fits.name, fits.mac);
      told = and_from _ _ (le-leb 1 spec.index.number low) (le-leb spec.index.number 64 high);
    }

all_plain : (specs : List IfSpec) → AllByRecursion (λ (spec : IfSpec). IsPlain (Model.Interface spec)) specs
all_plain [] = tt
all_plain (spec ∷ specs) = (tt, all_plain specs)

starts_plain : (lives : List LifeTold) → AllByRecursion (λ (life : LifeTold). IsPlain (Model.Start life.begin)) lives
starts_plain [] = tt
starts_plain (life ∷ lives) = (tt, starts_plain lives)

-- ---- the lives of a script

abbrev ToldWhereShort : LifeTold → Type 0
ToldWhereShort life = IsShort life → IsWellTold life

module _ (tell : LivesAreWellTold) (bytes : List ℕ) (script : ScriptLines) (conf : Configuration) (is : IsScript bytes script conf) where
  abbrev managed : List Managed
  managed = managed_in script conf

  abbrev lives : List LifeTold
  lives = (body_of script conf).lives

  ifaces : FitInterfaces script.ifaces
  ifaces = ifaces_fit bytes script conf is

  fits : FitsScript script
  fits = spelled_fits bytes script is.spelled

  specs : AllByRecursion FitsSpec script.ifaces
  specs = each_fits script.ifaces ifaces

  well_on : (failing : Failing) (between : Between) → AreFitting between.host between.store between.hooks → (coming : List LifeScript)
      → AllByRecursion (scripts.FitsLife (length script.ifaces)) coming
      → AllByRecursion IsTypedLife (lives_told managed script.ifaces failing between coming)
      → AllByRecursion ToldWhereShort (lives_told managed script.ifaces failing between coming)
  well_on failing between others [] fit typed = tt
  well_on failing between others (life ∷ coming) fit typed =
      let world : World = world_in failing between life in
      let lived = foretold_life managed script.ifaces world in
      let tells : TellsWell managed script.ifaces world =
      tell (configuration_text script) conf is.configured script.ifaces specs world
      (world_fits (length script.ifaces) ifaces.few failing between life fit.0 others) typed.0 in
      let left = tells.left in (
        tells.told,
        well_on failing (after_life managed script.ifaces failing between life) (record {
          host = left.host;
          store = store_left_fits life.crash lived.left.store.told left.store;
          hooks = hooks_left_fit (is_some (life_after lived.opening.life lived.mets).hooks.child) lived.left.hooks.told left.hooks;
        }) coming fit.1 typed.1,
      )

  plain_on : (failing : Failing) (between : Between) (coming : List LifeScript) → AllTellSafely managed script.ifaces failing between coming
      → AllByRecursion (λ (life : LifeTold). AllByRecursion IsPlain (lines_within life)) (lives_told managed script.ifaces failing between coming)
  plain_on failing between [] safe = tt
  plain_on failing between (life ∷ coming) safe = (
    life_plain (opening_in managed script.ifaces failing between life) (mets_in managed script.ifaces failing between life) safe.0.variables,
    plain_on failing (after_life managed script.ifaces failing between life) coming safe.1,
  )

  plain_within : AllByRecursion (λ (life : LifeTold). AllByRecursion IsPlain (lines_within life)) lives
  plain_within = plain_on (failing_in script.fails) (at_first script.rows script.files script.polls) script.lives (tells_safely bytes script conf is)

  counted : length script.lives ≡ length lives
  counted = lives_counted managed script.ifaces (failing_in script.fails) (at_first script.rows script.files script.polls) script.lives

  module _ (typed : LivesAreTyped script conf) (short : length (transcript_text script conf) < 2 ^ 64) where
    few_lines : length (lives_lines 1 lives) < 2 ^ 64
    few_lines =
        last_short (head_lines script.conf conf) (map Model.Interface script.ifaces) (lives_lines 1 lives)
        (subst (λ (ls : List Line). length (lines_text ls) < 2 ^ 64) (lines_are_told script conf) short)

    well_told : AllByRecursion IsWellTold lives
    well_told =
        all_both ToldWhereShort IsShort IsWellTold (λ life told so. told so) lives
        (well_on (failing_in script.fails) (at_first script.rows script.files script.polls) (first_fit script fits) script.lives
        (recursion_from_All (scripts.FitsLife (length script.ifaces)) script.lives fits.lives) typed)
        (lives_short 1 lives few_lines)

    number_fits : (number : ℕ) → number < 1 + length lives → FitsTold (Model.Life number)
    number_fits number less =
        let few = lives_few 1 lives in
        let all = few_lines in
        record { fits = omega (arith, less, few, all); told = refl }

    lines_fit : AllByRecursion FitsTold (body_lines (body_of script conf))
    lines_fit =
        all_join FitsTold (map Model.Interface script.ifaces) (lives_lines 1 lives)
        (ifaces_all FitsTold script.ifaces (all_map FitsSpec (λ (spec : IfSpec). FitsTold (Model.Interface spec)) iface_fits script.ifaces specs))
        (lives_all FitsTold 1 lives number_fits (record { fits = tt; told = refl })
        (all_map IsWellTold (λ (life : LifeTold). FitsTold (Model.Start life.begin)) (λ life well. well.start) lives well_told)
        (all_map IsWellTold (λ (life : LifeTold). AllByRecursion FitsTold (lines_within life)) (λ life well. well.lines) lives well_told))

    lines_plain : AllByRecursion IsPlain (body_lines (body_of script conf))
    lines_plain =
        all_join IsPlain (map Model.Interface script.ifaces) (lives_lines 1 lives) (ifaces_all IsPlain script.ifaces (all_plain script.ifaces))
        (lives_all IsPlain 1 lives (λ number less. tt) tt (starts_plain lives) plain_within)

    can_be_told : CanBeTold (told_of script conf)
    can_be_told =
        let one = fits.some in
        let same = counted in
        record {
          conf = recursion_from_All (Lacks 10) script.conf fits.conf;
          configured = is.configured;
          body = record {
            ifaces = ifaces;
            some = omega (arith, one, same);
            lives = all_map IsWellTold FitsLife (λ life well. well.shape) lives well_told;
          };
          fit = lines_fit;
          plain = lines_plain;
        }

    pub spelled : IsSpelled SpellsTold (transcript_text script conf) (told_of script conf)
    spelled =
        subst (λ (text : List ℕ). IsSpelled SpellsTold text (told_of script conf)) (sym (ap lines_text (lines_are_told script conf)))
        (told_is_spelled (told_of script conf) can_be_told)

module _ (tell : LivesAreWellTold) (Rests : BasisWord) (just : LivesAreJustified Rests) where
  pub transcripts_are_justified : TranscriptsAreJustified Rests
  transcripts_are_justified bytes script conf is typed short = record {
    told = told_of script conf;
    spelled = spelled tell bytes script conf is typed short;
    just = just bytes script conf is;
    lives_are = counted tell bytes script conf is;
    turns_are = refl;
  }

  pub replays_are_justified : ReplaysAreJustified Rests
  replays_are_justified input before after replayed = record {
    text = transcript_text replayed.script replayed.conf;
    written = replayed.written.bytes;
    yes = transcripts_are_justified replayed.bytes replayed.script replayed.conf replayed.is_script
        (lives_are_typed replayed.script replayed.conf replayed.written.typed);
  }
