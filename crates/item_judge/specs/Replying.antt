-- Whether a good Reply comes in the exchange that is open (RFC 8415, section 18.2.10).
use Rattle.std.specs.Prelude.{Bool, false, ◌&&◌, Option, Some, None}
use Rattle.v6_message.specs.Replies.{Content6}
use Rattle.v6_items.specs.Reading.{serves}
use Rattle.evidence_words.specs.Inputs.{Site}
use Rattle.lease6_evidence.specs.Exchanges6.{Numbered6}
use Rattle.lease6_evidence.specs.Replies6.{answers, asks_at}

abbrev pub has_good : Site → (current : Option Numbered6) → (came : Option Content6) → Bool
has_good site None came = false
has_good site (Some opened) None = false
has_good site (Some opened) (Some message) = answers site opened.exchange message && serves (asks_at site) message
