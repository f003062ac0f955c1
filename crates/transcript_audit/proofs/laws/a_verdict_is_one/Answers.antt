use Rattle.transcript_audit.proofs.OneVerdict.{verdict_once}
use Rattle.transcript_audit.proofs.laws.a_verdict_is_one.Goals as goal

pub returns : goal.returns
returns c = verdict_once c.all_addresses_are_told.ensures c.a_text_is_one_transcript.ensures
