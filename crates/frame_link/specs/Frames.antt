-- Ethernet II frames (RFC 894): destination, source, kind of the body, body.
use Rattle.std.specs.Prelude.{ℕ, List, [], ◌∷◌, ◌++◌, length, drop, Option, Some, None, nat_lt, if◌then◌else◌}
use Rattle.net_types.specs.declared.address.Mac.{Mac}
use Rattle.frame_link.specs.declared.ethernet.EthView.{EthView}
use Rattle.frame_link.specs.Fields.{word_in, mac_in, word_text}

-- what a frame says
pub record Frame : Type 0 where
  pub to : Mac
  pub from : Mac
  pub kind : ℕ
  pub body : List ℕ

abbrev pub said : Mac → Mac → ℕ → List ℕ → Frame
said to from kind body = record { to = to; from = from; kind = kind; body = body }

-- the frame that bytes spell: none where they are fewer than the header's
unfoldable pub frame_in : List ℕ → Option Frame
frame_in bytes =
    if nat_lt (length bytes) 14
    then None
    else Some (said (mac_in bytes 0) (mac_in bytes 6) (word_in bytes 12) (drop 14 bytes))

abbrev pub frame_text : Frame → List ℕ
frame_text f = f.to.bytes ++ f.from.bytes ++ word_text f.kind ++ f.body

-- what a view shows
abbrev pub shown : EthView → Frame
shown v = said v.to v.from v.kind v.body.now

abbrev pub broadcast : Mac
broadcast = record { bytes = 255 ∷ 255 ∷ 255 ∷ 255 ∷ 255 ∷ 255 ∷ [] }
