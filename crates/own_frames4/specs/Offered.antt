-- What the frames say that were offered on an interface.
use Rattle.std.specs.Prelude.{List, Option, map}
use Rattle.v4_message.specs.Requests.{AskContent}
use Rattle.v4_frames.specs.declared.sent.Sent4.{Sent4}
use Rattle.settings.specs.declared.interfaces.Managed.{Managed}
use Rattle.audit_words.specs.Shown.{offer_shown}
use Rattle.audit_words.specs.declared.shown.Offer.{Offer}
use Rattle.audit_words.specs.EvidenceWords.Entries as told
use Rattle.audit_words.specs.EvidenceWords.Entries.{offers_on}
use Rattle.lease_evidence.specs.OwnMessages.{own_in, speaker_of}

-- the message of the interface's client that a frame spells, where it spells one
abbrev pub message_by : Managed → AskContent → told.Offer → Option Sent4
message_by managed ask o = own_in (speaker_of managed) ask o.bytes

-- of each frame that was offered on it, in order
abbrev pub messages_by : Managed → AskContent → List Offer → List (Option Sent4)
messages_by managed ask offers =
    map (message_by managed ask) (offers_on managed.spec.index.number (map offer_shown offers))
