use Rattle.transcript_read.proofs.SameLaws.{transcripts_one}
use Rattle.transcript_read.proofs.transcript.a_text_is_one_transcript.Goals as goal

pub returns : goal.returns
returns c = transcripts_one c.a_text_spells_one_line.ensures c.configuration_is_one.ensures
