-- What the code holds of a lab, and what it writes, in the words of the definitions.
use Rattle.std.specs.Prelude.{ℕ, zero, suc, ◌≡◌, List, ◌++◌, Option, Some, None}
use Rattle.client_model.specs.Clients.{Sending}
use Rattle.lab_model.specs.LabLines.{LabLine, lines_text}

-- the frames of the clients, and those of the peer
pub record FramesContent : Type 0 where
  pub sent : List Sending
  pub made : List (List ℕ)

-- these lines are appended
abbrev pub Says : List LabLine → (old new : List ℕ) → Type 0
Says lines old new = new ≡ old ++ lines_text lines

-- the place of a number, which counts from 1
abbrev pub place_of : ℕ → Option ℕ
place_of zero = None
place_of (suc before) = Some before
