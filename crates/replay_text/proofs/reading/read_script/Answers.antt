use Rattle.std.proofs.Common.{refl}
use Rattle.replay_text.specs.SoFar.{script_said}
use Rattle.replay_text.proofs.FaultLaws.{script_laws, spelled_script, held_lines, script_fault}
use Rattle.replay_text.proofs.reading.read_script.Goals as goal

pub read_lines-requires : goal.read_lines-requires
read_lines-requires c = record { owes = script_laws }

pub returns-in-Ok-clause-found : goal.returns-in-Ok-clause-found
returns-in-Ok-clause-found c = spelled_script c.args.text.now (script_said c.in-Ok.script) c.in-Ok.ensures.found

pub returns-in-Ok-clause-conf : goal.returns-in-Ok-clause-conf
returns-in-Ok-clause-conf c = held_lines c.args.text.now (script_said c.in-Ok.script) refl c.in-Ok.ensures.found

pub returns-in-Err-Bad-clause-fault : goal.returns-in-Err-Bad-clause-fault
returns-in-Err-Bad-clause-fault c = script_fault c.args.text.now c.in-Err-Bad.line c.in-Err-Bad.cause (rw c.in-Err-Bad.field-0-is at c.in-Err-Bad.ensures.bad)
