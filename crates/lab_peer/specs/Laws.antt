-- What holds of the frames that are read as a client's.
use Rattle.std.specs.Prelude.{◌≡◌, ℕ, true, List, Some}
use Rattle.v4_message.specs.Requests.{AskContent, AskFits}
use Rattle.v4_frames.specs.declared.sent.Sent4.{Sent4}
use Rattle.v4_frames.specs.InRange.{FitsSent}
use Rattle.v4_frames.specs.Spelled.{frame_of}
use Rattle.lab_peer.specs.ClientFrames.{is_of_a_client, client_sent}

-- The frame of a message that a client may say is read as that message, whatever the client says of itself.
abbrev pub EachClientIsRead : Type 0
EachClientIsRead = (ask : AskContent) (sent : Sent4) → AskFits ask → FitsSent sent → is_of_a_client sent ≡ true
    → client_sent (frame_of ask sent) ≡ Some sent

-- a client says it in this frame
pub record IsClientFrame (frame : List ℕ) (sent : Sent4) : Type 0 where
  pub ask : AskContent
  pub fits : AskFits ask
  pub spelled : frame ≡ frame_of ask sent
  pub own : is_of_a_client sent ≡ true

-- and no other frame is read as a client's
abbrev pub ClientsAloneAreRead : Type 0
ClientsAloneAreRead = (frame : List ℕ) (sent : Sent4) → client_sent frame ≡ Some sent → IsClientFrame frame sent
