-- What holds of a client's frames.
use Rattle.std.specs.Prelude.{◌≡◌, ◌≢◌, ◌≤◌, ℕ, List, length, Some, None}
use Rattle.net_types.specs.Fields.{u16_field}
use Rattle.udp_frame.specs.declared.udp4.TheConstants.{KIND_IPV4}
use Rattle.v4_message.specs.Requests.{AskContent, AskFits, message_text, padded}
use Rattle.v4_frames.specs.declared.sent.Sent4.{Sent4}
use Rattle.v4_frames.specs.InRange.{FitsSent}
use Rattle.v4_frames.specs.Spelled.{frame_of, sent_in}

-- the frame of a message is read back as that message
abbrev pub ReadsBack : Type 0
ReadsBack =
    (ask : AskContent) (sent : Sent4) → AskFits ask → FitsSent sent → sent_in ask (frame_of ask sent) ≡ Some sent

-- unlike messages have unlike frames
abbrev pub SpellsOne : Type 0
SpellsOne =
    (ask : AskContent) (a b : Sent4) → AskFits ask → FitsSent a → FitsSent b → frame_of ask a ≡ frame_of ask b → a ≡ b

-- what is read as a message is its frame
abbrev pub SpelledAlone : Type 0
SpelledAlone =
    (ask : AskContent) (frame : List ℕ) (sent : Sent4) → sent_in ask frame ≡ Some sent → frame ≡ frame_of ask sent

-- a frame of another kind than IPv4's, as ARP's and IPv6's, spells no message
abbrev pub OthersSpellNothing : Type 0
OthersSpellNothing =
    (ask : AskContent) (frame : List ℕ) → 14 ≤ length frame → u16_field 12 frame ≢ KIND_IPV4 → sent_in ask frame ≡ None

-- a message fits the largest datagram
abbrev pub FitsDatagram : Type 0
FitsDatagram =
    (ask : AskContent) (sent : Sent4) → AskFits ask → FitsSent sent
    → length (padded (message_text sent.said ask)) ≤ 1472
