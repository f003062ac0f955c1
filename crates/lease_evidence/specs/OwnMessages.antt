-- The messages that are a client's own (RFC 2131, sections 2 and 4.4.1, table 5).
use Rattle.std.specs.Prelude.{ℕ, List, Option, Some, None, option_and_then, if◌then◌else◌}
use Rattle.v4_message.specs.Requests.{AskContent}
use Rattle.v4_frames.specs.declared.sent.Sent4.{Sent4}
use Rattle.v4_frames.specs.declared.speaker.Speaker.{Speaker}
use Rattle.v4_frames.specs.Ours.{is_ours}
use Rattle.v4_frames.specs.Spelled.{sent_in}
use Rattle.settings.specs.declared.interfaces.Managed.{Managed}

-- the client of an interface, as its messages show it
abbrev pub speaker_of : Managed → Speaker
speaker_of managed = record { mac = managed.spec.mac; broadcast = managed.conf.flags.broadcast }

abbrev pub if_ours : Speaker → Sent4 → Option Sent4
if_ours speaker sent = if is_ours speaker sent then Some sent else None

-- the message of this client whose frame this is, byte for byte: with its hardware address, flags and options
unfoldable pub own_in : Speaker → AskContent → (frame : List ℕ) → Option Sent4
own_in speaker ask frame = option_and_then (if_ours speaker) (sent_in ask frame)
