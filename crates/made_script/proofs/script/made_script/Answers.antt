use Rattle.std.proofs.Common.{ap, ◌∙◌, refl, subst, sym}
use Rattle.replay_text.specs.ScriptContent.{conf_lines, HoldsLines}
use Rattle.made_script.proofs.FitLines.{conf_is, conf_holds, lines_fit}
use Rattle.made_script.proofs.script.made_script.Goals as goal

pub returns-clause-lines : goal.returns-clause-lines
returns-clause-lines c =
    rw (
      ap conf_lines c.in_ok-from_slice.ensures.items ∙ conf_is,
      c.in_ok-made_ifaces.ensures,
      c.new.ensures.items,
      c.new-2.ensures.items,
      c.new-3.ensures.items,
      c.new-4.ensures.items,
      c.in_ok-vec.ensures.items,
      c.in_ok-made_turns.ensures,
    ) refl

pub returns-clause-conf : goal.returns-clause-conf
returns-clause-conf c = subst HoldsLines (sym c.in_ok-from_slice.ensures.items) conf_holds

pub returns-clause-fits : goal.returns-clause-fits
returns-clause-fits c = lines_fit c.args.rounds c.requires.last
