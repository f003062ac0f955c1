-- What the input of a turn says in the exchange that is open (RFC 2131, section 3.1).
use Rattle.std.specs.Prelude.{Option, Some, None}
use Rattle.v4_client.specs.Settings.{SettingsContent}
use Rattle.v4_client.specs.declared.states.Answer4.{Answer4}
use Rattle.v4_client.specs.declared.states.Answer4.TheVariants.{Nothing}
use Rattle.evidence_words.specs.Entries.{Entry}
use Rattle.evidence_words.specs.Inputs.{Site}
use Rattle.own_frames4.specs.LeaseEvidence.Exchanges.{Numbered}
use Rattle.own_frames4.specs.LeaseEvidence.Replies.{arrival_in, reply_at, reply_by}

-- an ACK with its terms, or a NAK, where an exchange is open
abbrev pub answer_in : Site → Entry → Option Numbered → Answer4
answer_in site e None = Nothing
answer_in site e (Some opened) = reply_at site opened.exchange e

-- the same, by the settings of the client
abbrev pub answer_by : SettingsContent → Site → Entry → Option Numbered → Answer4
answer_by settings site e None = Nothing
answer_by settings site e (Some opened) = reply_by settings opened.exchange (arrival_in site e)
