-- What holds of a client's frames.
use Rattle.std.specs.Prelude.{◌≡◌, ◌≢◌, ◌≤◌, ℕ, List, length, Some, None}
use Rattle.net_types.specs.Fields.{u16_field}
use Rattle.udp_frame.specs.declared.udp6.TheConstants.{KIND_IPV6}
use Rattle.v6_message.specs.V6Options.declared.duid.Duid.{Duid}
use Rattle.v6_message.specs.declared.said.Said6.{Said6}
use Rattle.v6_message.specs.Requests.{said_content, message6_text}
use Rattle.v6_frames.specs.InRange.{FitsSent6}
use Rattle.v6_frames.specs.Spelled.{Sent6, frame6_of, sent6_in}

-- the frame of a message is read back as that message
abbrev pub ReadsBack : Type 0
ReadsBack = (sent : Sent6) → FitsSent6 sent → sent6_in (frame6_of sent) ≡ Some sent

-- unlike messages have unlike frames
abbrev pub SpellsOne : Type 0
SpellsOne = (a b : Sent6) → FitsSent6 a → FitsSent6 b → frame6_of a ≡ frame6_of b → a ≡ b

-- what is read as a message is its frame
abbrev pub SpelledAlone : Type 0
SpelledAlone = (frame : List ℕ) (sent : Sent6) → sent6_in frame ≡ Some sent → frame ≡ frame6_of sent

-- a frame of another kind than IPv6's, as ARP's and IPv4's, spells no message
abbrev pub OthersSpellNothing : Type 0
OthersSpellNothing = (frame : List ℕ) → 14 ≤ length frame → u16_field 12 frame ≢ KIND_IPV6 → sent6_in frame ≡ None

-- a message is no longer than a datagram that is sent
abbrev pub FitsDatagram : Type 0
FitsDatagram = (said : Said6) (client : Duid) → length (message6_text (said_content said client)) ≤ 1472
