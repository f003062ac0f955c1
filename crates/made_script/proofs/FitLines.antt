-- What is made is a script.
use Rattle.std.specs.Prelude.{IfSome}
use Rattle.std.proofs.Common.{◌≡◌, ℕ, ◌≤◌, ◌+◌, ◌<◌, List, [], Option, None, refl, sym, subst, arith}
use Rattle.std.specs.Prelude.{AllPairs, IsTrue, is_some}
use Rattle.std.proofs.lemmas.List.Elements.{All-nil, All-cons, All-from_recursion}
use Rattle.std.proofs.lemmas.List.Kept.{AllPairs-cons}
use Rattle.net_types.specs.Marks.{Lacks}
use Rattle.world.specs.Rows.{IsRow}
use Rattle.world.specs.declared.wakes.Wake.{Wake}
use Rattle.script_model.specs.FailingCalls.{FitsFail}
use Rattle.script_model.specs.FirstFiles.{FitsFile, UnlikeNames}
use Rattle.script_model.specs.HookAnswers.{FitsAnswer}
use Rattle.script_model.specs.ScriptTexts.{LifeScript}
use Rattle.script_model.specs.Stops.{wakes_seen, stop_moment, time_after_stop, EndsWhenOver}
use Rattle.script_model.specs.Scripts.{FitsGiven, FitsLife, FitsScript}
use Rattle.replay_text.specs.ScriptContent.{conf_lines, HoldsLines}
use Rattle.replay_text.proofs.Grown.{pairs_none}
use Rattle.made_script.specs.declared.script.TheConstants.{CONF}
use Rattle.made_script.specs.MadeHosts.{made_ifaces}
use Rattle.made_script.specs.MadeTurns.{made_turns}
use Rattle.made_script.specs.MadeLines.{made_conf, made_life, made_lines}
use Rattle.made_script.proofs.FitHosts.{ifaces_fit}
use Rattle.made_script.proofs.FitTurns.{turns_fit, never_stops}

-- ---- the configuration

pub conf_is : conf_lines CONF.now ≡ made_conf
unfolding conf_lines
conf_is = refl

pub conf_holds : HoldsLines CONF.now
unfolding HoldsLines conf_lines
conf_holds = refl

-- ---- the life

abbrev OverBy : List Wake → Option ℕ → Type 0
OverBy wakes moment = IfSome moment (λ stop. AllPairs (λ wake later. wake.at < stop + time_after_stop) wakes)

over : (wakes : List Wake) → stop_moment wakes ≡ None → EndsWhenOver wakes
over wakes none = subst (OverBy wakes) (sym none) tt

life_fits : (rounds : ℕ) → rounds ≤ 100 → FitsLife 64 (made_life rounds)
life_fits rounds few = record {
  at = omega arith;
  salt = omega arith;
  up = omega arith;
  turns = All-from_recursion (FitsGiven 64) (made_turns rounds) (turns_fit rounds few);
  over = over (wakes_seen 0 (made_turns rounds)) (never_stops rounds few);
  crash = tt;
}

abbrev CrashesBefore : LifeScript → LifeScript → Type 0
CrashesBefore life later = IsTrue (is_some life.crash)

pub lines_fit : (rounds : ℕ) → rounds ≤ 100 → FitsScript (made_lines rounds)
unfolding made_ifaces
lines_fit rounds few = record {
  conf = All-from_recursion (Lacks 10) made_conf (refl, (refl, (refl, tt)));
  ifaces = ifaces_fit;
  rows = All-nil IsRow;
  once = refl;
  files = All-nil FitsFile;
  unlike = pairs_none UnlikeNames;
  fails = All-nil FitsFail;
  polls = All-nil FitsAnswer;
  some = omega arith;
  parted = AllPairs-cons CrashesBefore (made_life rounds) [] (All-nil (CrashesBefore (made_life rounds))) (pairs_none CrashesBefore);
  lives = All-cons (FitsLife 64) (made_life rounds) [] (life_fits rounds few) (All-nil (FitsLife 64));
}
