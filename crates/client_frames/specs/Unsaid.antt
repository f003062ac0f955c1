-- Frames that no client says.
use Rattle.std.specs.Prelude.{◌≡◌, ℕ, List, None}
use Rattle.v4_message.specs.Requests.{AskContent, AskFits}
use Rattle.v4_frames.specs.Spelled.{sent_in}

-- whatever a client says of itself, this is the frame of no message
abbrev pub IsUnsaid : (frame : List ℕ) → Type 0
IsUnsaid frame = (ask : AskContent) → AskFits ask → sent_in ask frame ≡ None
