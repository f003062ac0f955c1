use Rattle.dhcpcd.proofs.MakeAnswers.{never_refused}
use Rattle.replay_text.specs.ScriptContent.{script_of}
use Rattle.dhcpcd.proofs.making.made_settled.Goals as goal

pub returns-clause-wants : goal.returns-clause-wants
returns-clause-wants c =
    never_refused (script_of c.in_ok-script.script) c.args.rounds c.settle_script.result c.in_ok-script.ensures.lines c.settle_script.ensures.bad
