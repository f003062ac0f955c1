use Rattle.dhcpcd.proofs.MakeAnswers.{made_fits}
use Rattle.dhcpcd.proofs.making.made_transcript.Goals as goal

pub write_transcript-requires-clause-fits : goal.write_transcript-requires-clause-fits
write_transcript-requires-clause-fits c = made_fits c.args.rounds c.in_ok-settled.settled c.requires.few c.in_ok-settled.ensures.found
